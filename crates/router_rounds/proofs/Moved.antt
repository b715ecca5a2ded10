-- PathTears and Paths where routes moved, sender after sender.
use Rattle.std.specs.Prelude.{◌≡◌, ℕ, ◌==◌, ◌&&◌, nat_lt, Bool, true, false, cond, not, is_some, List, map as each, length, Option, Some, None, refl}
use Rattle.std.specs.Int.{bit_at}
use Rattle.std.specs.List.{filter, flat_map, range_with_len}
use Rattle.std.proofs.Common.{sym, ap, ◌∙◌, arith}
use Rattle.std.proofs.lemmas.Bool.{lt-ltb}
use Rattle.std.proofs.lemmas.Nat.Bits.{bit_at-zero}
use Rattle.rsvp_base.specs.Members.{In}
use Rattle.rsvp_base.specs.Orders.{senders, sessions}
use Rattle.rsvp_base.specs.Table.{empty, get, has, keys}
use Rattle.rsvp_base.specs.declared.session.Sender.{Sender}
use Rattle.rsvp_base.specs.declared.session.Session.{Session}
use Rattle.rsvp_base.proofs.Counts.{in_found}
use Rattle.rsvp_base.proofs.Filters.{filter_same, flat_each}
use Rattle.rsvp_base.proofs.Members.{in_filter}
use Rattle.rsvp_base.proofs.UnderLaws.{get-under}
use Rattle.laws_bounds.proofs.Lists.{in_range}
use Rattle.laws_bounds.proofs.Offering.{offers_by_way}
use Rattle.laws_bounds.proofs.Tests.{not_new}
use Rattle.router_rules.specs.Facts.{Facts, SenderKey}
use Rattle.router_rules.specs.Known.{known}
use Rattle.router_rules.specs.NodeConfig.{NodeConfig, goes_out, is_out, outward, tree}
use Rattle.router_rules.specs.Offers.{Offer, offers}
use Rattle.router_rules.specs.declared.route.Route.{Route}
use Rattle.router_rules.specs.Sends.{is_new_offer, path_send, path_tear}
use Rattle.router_state.specs.State.{State, facts_of}
use Rattle.laws_sends.specs.Told.{offer_key, offered}
use Rattle.laws_sends.specs.Routes.{ways_out}
use Rattle.path_sends.specs.Ways.{ways_but}
use Rattle.laws_sends.specs.Several.{known_offers, offer_of, offers_in, paths_of, tears_of}
use Rattle.laws_sends.proofs.Blocks.{known_at}
use Rattle.laws_sends.proofs.Onward.{both_tests}
use Rattle.router_aging.proofs.Offers.{known_keys}
use Rattle.router_rounds.specs.RouteRounds.{new_ways, torn_ways}
use Rattle.router_rounds.proofs.Alike.{flat_among}
use Rattle.router_rounds.specs.SenderMoves.{new_of, torn_of}

-- the interfaces of a route
out_same : (r : Option Route) (i : ℕ) → (bit_at (ways_out r) i == 1) ≡ is_out r i
out_same None i = ap (λ n. n == 1) (bit_at-zero i)
out_same (Some r) i = refl

each_test : (t u : ℕ → Bool) (xs : List ℕ) → ((x : ℕ) → t x ≡ u x) → filter t xs ≡ filter u xs
each_test t u xs same = λ i. filter (λ x. same x i) xs

-- by those of the one place's ways that are not the other's
module _ (p q : NodeConfig) (f : Facts) (k : SenderKey) (o : Offer) (here : offered f k ≡ Some o) where
  -- at an interface of the one place, what is offered at the other
  module _ (same : length q.ifaces ≡ length p.ifaces) where
    at_way : (i : ℕ) → In i (outward q k.0 k.1) → get (offers p f) (offer_key k i) ≡ cond (goes_out p k.0 i k.1) (Some o) None
    at_way i h =
        let r = in_filter (λ j. goes_out q k.0 j k.1) i (range_with_len 0 (length q.ifaces)) h in
        let w = in_range 0 (length q.ifaces) i r.0 in
        let below = w.1 in
        let lt : nat_lt i (length p.ifaces) ≡ true = lt-ltb i (length p.ifaces) (omega (arith, below, same)) in
        offers_by_way p f (offer_key k i) ∙ (λ j. cond (lt j && goes_out p k.0 i k.1) (here j) None)

  ways_are : outward q k.0 k.1 ≡ filter (λ i. bit_at (ways_out (tree q k.0 k.1)) i == 1) (range_with_len 0 (length q.ifaces))
  ways_are = each_test (λ i. goes_out q k.0 i k.1) (λ i. bit_at (ways_out (tree q k.0 k.1)) i == 1) (range_with_len 0 (length q.ifaces)) (λ i. sym (out_same (tree q k.0 k.1) i))

  but_are : filter (λ i. not (goes_out p k.0 i k.1)) (outward q k.0 k.1) ≡ ways_but q (ways_out (tree q k.0 k.1)) (ways_out (tree p k.0 k.1))
  but_are =
      each_test (λ i. not (goes_out p k.0 i k.1)) (λ i. not (bit_at (ways_out (tree p k.0 k.1)) i == 1)) (outward q k.0 k.1) (λ i. ap not (sym (out_same (tree p k.0 k.1) i)))
      ∙ ap (filter (λ i. not (bit_at (ways_out (tree p k.0 k.1)) i == 1))) ways_are
      ∙ both_tests (λ i. not (bit_at (ways_out (tree p k.0 k.1)) i == 1)) (λ i. bit_at (ways_out (tree q k.0 k.1)) i == 1) (range_with_len 0 (length q.ifaces))

-- ---- old and p differ in their routes alone
module _ (old p : NodeConfig) (same : old.ifaces ≡ p.ifaces) (f : Facts) (k : SenderKey) (o : Offer) (here : offered f k ≡ Some o) where
  count : length old.ifaces ≡ length p.ifaces
  count = ap length same

  pub tears_are : tears_of old p f f k ≡ torn_of old p k
  tears_are =
      ap (each (λ i. path_tear p (offer_key k i)))
      (filter_same (λ i. not (has (offers p f) (offer_key k i))) (λ i. not (goes_out p k.0 i k.1)) (outward old k.0 k.1)
      (λ i h. ap not (ap is_some (at_way p old f k o here count i h) ∙ by (goes_out p k.0 i k.1)))
      ∙ but_are p old f k o here ∙ ap (λ n. filter (λ i. (bit_at (ways_out (tree old k.0 k.1)) i == 1) && not (bit_at (ways_out (tree p k.0 k.1)) i == 1)) (range_with_len 0 n)) count)
    where
      by : (b : Bool) → is_some (cond b (Some o) None) ≡ b
      by true = refl
      by false = refl

  pub paths_are : paths_of old p f f empty (k, o) ≡ new_of old p k (Some o)
  paths_are =
      ap (each (λ i. path_send p false (offer_key k i, o)))
      (filter_same (λ i. is_new_offer p i o (get (offers old f) (offer_key k i))) (λ i. not (goes_out old k.0 i k.1)) (outward p k.0 k.1)
      (λ i h. ap (is_new_offer p i o) (at_way old p f k o here (sym count) i h) ∙ by i (goes_out old k.0 i k.1))
      ∙ but_are old p f k o here)
    where
      by : (i : ℕ) (b : Bool) → is_new_offer p i o (cond b (Some o) None) ≡ not b
      by i true = not_new p i o
      by i false = refl

-- ---- all senders of a session
module _ (old : NodeConfig) (m : State) (same : old.ifaces ≡ m.place.ifaces) (c : ℕ) (s : Session) where
  abbrev f : Facts
  f = facts_of c m

  row_offer : (e : Sender × Offer) → In e (offers_in f s).rows → offered f (s, e.0) ≡ Some e.1
  row_offer e i = sym (known_at f (s, e.0)) ∙ sym (get-under sessions senders (known_offers f) s e.0) ∙ in_found senders (offers_in f s) e.0 e.1 i

  pub torn_all : torn_ways old c m s ≡ flat_map (λ x. torn_of old m.place (s, x)) (keys (known f s))
  torn_all =
      ap (flat_map (λ x. tears_of old m.place f f (s, x))) (known_keys f s) ∙ flat_each (λ (e : Sender × Offer). e.0) (λ x. tears_of old m.place f f (s, x)) (offers_in f s).rows
      ∙ flat_among (λ e. tears_of old m.place f f (s, e.0)) (λ e. torn_of old m.place (s, e.0)) (offers_in f s).rows (λ e i. tears_are old m.place same f (s, e.0) e.1 (row_offer e i))
      ∙ sym (ap (flat_map (λ x. torn_of old m.place (s, x))) (known_keys f s) ∙ flat_each (λ (e : Sender × Offer). e.0) (λ x. torn_of old m.place (s, x)) (offers_in f s).rows)

  pub new_all : new_ways old c m s ≡ flat_map (λ x. new_of old m.place (s, x) (offered f (s, x))) (keys (known f s))
  new_all =
      flat_each (offer_of s) (paths_of old m.place f f empty) (offers_in f s).rows
      ∙ flat_among (λ e. paths_of old m.place f f empty (offer_of s e)) (λ e. new_of old m.place (s, e.0) (offered f (s, e.0))) (offers_in f s).rows
      (λ e i. paths_are old m.place same f (s, e.0) e.1 (row_offer e i) ∙ ap (new_of old m.place (s, e.0)) (sym (row_offer e i)))
      ∙ sym (ap (flat_map (λ x. new_of old m.place (s, x) (offered f (s, x)))) (known_keys f s)
      ∙ flat_each (λ (e : Sender × Offer). e.0) (λ x. new_of old m.place (s, x) (offered f (s, x))) (offers_in f s).rows)
