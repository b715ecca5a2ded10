-- What is offered of a session's senders, by the tables.
use Rattle.std.specs.Prelude.{◌≡◌, ℕ, Bool, true, cond, ◌||◌, ◌+◌, ◌<◌, List, [], ◌∷◌, ◌++◌, fold, length, take, is_some, Option, Some, None, refl}
use Rattle.std.specs.List.{flat_map, list_any}
use Rattle.std.specs.Option.{option_map}
use Rattle.std.specs.Ordering.{eq_by_cmp}
use Rattle.std.proofs.Common.{sym, ap, inl, inr, ◌∙◌, get_or}
use Rattle.std.proofs.lemmas.List.{take_more}
use Rattle.std.proofs.lemmas.List.Concat.{flat_map-append}
use Rattle.std.proofs.lemmas.List.Sums.{fold-append}
use Rattle.rsvp_base.specs.Members.{In}
use Rattle.rsvp_base.specs.Orders.{Names, sessions, senders}
use Rattle.rsvp_base.specs.Sets.{Set, listed, with_keys}
use Rattle.rsvp_base.specs.Table.{Table, empty, get, has, keys}
use Rattle.rsvp_base.specs.Under.{under}
use Rattle.rsvp_base.specs.TokenBucket.{TokenBucket}
use Rattle.rsvp_base.specs.declared.session.Sender.{Sender}
use Rattle.rsvp_base.specs.declared.session.Session.{Session}
use Rattle.rsvp_base.proofs.Counts.{in_found}
use Rattle.rsvp_base.proofs.Filters.{flat_each, same_test}
use Rattle.rsvp_base.proofs.Fronts.{in_keys, to_keys}
use Rattle.rsvp_base.proofs.Lists.{keys-listed}
use Rattle.rsvp_base.proofs.Members.{in_tied, tied_in}
use Rattle.rsvp_base.proofs.SetLaws.{has-with_rows, same_set}
use Rattle.rsvp_base.proofs.Tables.{get-changed, then_do}
use Rattle.rsvp_base.proofs.UnderLaws.{get-under}
use Rattle.local_state.specs.Rows.{Announced}
use Rattle.path_state.specs.Paths.{path_keys}
use Rattle.path_state.specs.declared.fact.PathFact.{PathFact}
use Rattle.style_rules.specs.Toward.{or_else}
use Rattle.router_rules.specs.Facts.{Facts, PathState, SenderKey, sender_keys}
use Rattle.router_rules.specs.Known.{known}
use Rattle.router_rules.specs.NodeConfig.{NodeConfig}
use Rattle.router_rules.specs.Offers.{Offer, own_offer, path_offer}
use Rattle.laws_bounds.proofs.Knowing.{has-known}
use Rattle.path_sends.specs.RouterState.State.{State, facts_of, path_at}
use Rattle.laws_sends.specs.Told.{offered, paths_told, tears_told, told_gone}
use Rattle.laws_sends.specs.Several.{gone_told, known_offers, offers_in, refreshed}
use Rattle.laws_sends.proofs.Blocks.{known_at}
use Rattle.router_aging.specs.Telling.{announced, gone_by, kept_offer, known_names, offer_by, refreshed_by, told_again}
use Rattle.router_aging.proofs.Sets.{same_keys}

pub offer_seen : (c : ℕ) (n : State) (k : SenderKey) → offered (facts_of c n) k ≡ offer_by (announced n) n.paths k
offer_seen c n k = ap (λ (w : Option PathState). or_else (option_map (own_offer (has n.advertised k)) (get n.senders k)) (option_map path_offer w))
    (get-changed path_keys (path_at c) n.paths k) ∙ by (get n.paths k)
  where
    by : (w : Option (PathFact × ℕ)) → or_else {X = Offer} (option_map (own_offer (has n.advertised k)) (get n.senders k))
        (option_map path_offer (then_do w (path_at c k))) ≡ or_else (option_map (own_offer (has n.advertised k)) (get n.senders k)) (option_map kept_offer w)
    by None = refl
    by (Some e) = refl

flat_among : {A B : Type 0} (g h : A → List B) (xs : List A) → ((x : A) → In x xs → g x ≡ h x) → flat_map g xs ≡ flat_map h xs
flat_among g h [] same = refl
flat_among g h (x ∷ xs) same = λ i. same x (inl refl) i ++ flat_among g h xs (λ y j. same y (inr j)) i

module _ (f : Facts) (s : Session) where
  offered_there : (x : Sender) → get (offers_in f s) x ≡ offered f (s, x)
  offered_there x = get-under sessions senders (known_offers f) s x ∙ known_at f (s, x)

  known_here : (x : Sender) → has (known f s) x ≡ has (offers_in f s) x
  known_here x = has-known f s x ∙ by (get f.senders (s, x)) (get f.paths (s, x)) ∙ ap is_some (sym (offered_there x))
    where
      by : (v : Option TokenBucket) (w : Option PathState) → (is_some v || is_some w) ≡ is_some
          (or_else {X = Offer} (option_map (own_offer (has f.advertised (s, x))) v) (option_map path_offer w))
      by (Some v) w = refl
      by None (Some w) = refl
      by None None = refl

  pub known_keys : keys (known f s) ≡ keys (offers_in f s)
  known_keys = same_keys senders (known f s) (offers_in f s) known_here

  pub refreshed_is : (p : NodeConfig) → flat_map (λ x. told_again p (s, x) (offered f (s, x))) (keys (known f s)) ≡ refreshed p f s
  refreshed_is p =
      ap (flat_map (λ x. told_again p (s, x) (offered f (s, x)))) known_keys ∙ flat_each (λ (e : Sender × Offer). e.0) (λ x. told_again p (s, x) (offered f (s, x))) (offers_in f s).rows
      ∙ flat_among (λ e. told_again p (s, e.0) (offered f (s, e.0))) (λ e. paths_told p true (s, e.0) e.1) (offers_in f s).rows
      (λ e i. ap (told_again p (s, e.0)) (sym (offered_there e.0) ∙ in_found senders (offers_in f s) e.0 e.1 i))

pub refreshed_seen : (c : ℕ) (n : State) (s : Session) (names : Names) → names ≡ known (facts_of c n) s
    → flat_map (λ x. told_again n.place (s, x) (offer_by (announced n) n.paths (s, x))) (keys names) ≡ refreshed n.place (facts_of c n) s
refreshed_seen c n s names is =
    (λ i. flat_map (λ x. told_again n.place (s, x) (sym (offer_seen c n (s, x)) i)) (keys (is i))) ∙ refreshed_is (facts_of c n) s n.place

-- ---- the known senders, by the tables
any_keys : {X : Type 0} (m : Table senders X) (q : Sender) → list_any (eq_by_cmp senders.cmp q) (keys m) ≡ has m q
any_keys m q = same_test _ _ (λ h. in_keys senders m q (in_tied senders q (keys m) h)) (λ h. tied_in senders q (keys m) (to_keys senders m q h))

has_more : (s : Names) (xs : List Sender) (q : Sender) → has (with_keys s xs) q ≡ (has s q || list_any (eq_by_cmp senders.cmp q) xs)
has_more s xs q = has-with_rows senders (listed xs) s q ∙ ap (λ ys. has s q || list_any (eq_by_cmp senders.cmp q) ys) (keys-listed xs)

pub known_is : (c : ℕ) (n : State) (s : Session) → known_names n.senders n.paths s ≡ known (facts_of c n) s
known_is c n s = same_set senders (known_names n.senders n.paths s) (known (facts_of c n) s) at
  where
    path : (q : Sender) → has (facts_of c n).paths (s, q) ≡ has n.paths (s, q)
    path q = ap is_some (get-changed path_keys (path_at c) n.paths (s, q)) ∙ by (get n.paths (s, q))
      where
        by : (w : Option (PathFact × ℕ)) → is_some (then_do w (path_at c (s, q))) ≡ is_some w
        by None = refl
        by (Some e) = refl

    at : (q : Sender) → has (known_names n.senders n.paths s) q ≡ has (known (facts_of c n) s) q
    at q =
        has_more (with_keys empty (keys (under sessions senders n.senders s))) (keys (under sessions senders n.paths s)) q
        ∙ (λ i. has_more empty (keys (under sessions senders n.senders s)) q i || any_keys (under sessions senders n.paths s) q i)
        ∙ (λ i. any_keys (under sessions senders n.senders s) q i || has (under sessions senders n.paths s) q)
        ∙ (λ i. is_some (get-under sessions senders n.senders s q i) || is_some (get-under sessions senders n.paths s q i)) ∙ (λ i. has n.senders (s, q) || sym (path q) i)
        ∙ sym (has-known (facts_of c n) s q)

pub refreshed_same : (c : ℕ) (n : State) {p : NodeConfig} {own : Announced} {paths : Table path_keys (PathFact × ℕ)} → n.place ≡ p → announced n ≡ own → n.paths ≡ paths
    → (s : Session)
    → refreshed_by p own paths s ≡ refreshed n.place (facts_of c n) s
refreshed_same c n place own paths s = (λ i. refreshed_by (sym place i) (sym own i) (sym paths i) s) ∙ refreshed_seen c n s (known_names n.senders n.paths s) (known_is c n s)

-- ---- the senders whose paths died
pub gone_same : (p : NodeConfig) (f g : Facts) (own : Table sender_keys TokenBucket) → g.senders ≡ own → (dead : Set sender_keys) → ((k : SenderKey) → has dead k ≡ true → is_some (offered f k) ≡ true)
    → ((k : SenderKey) → has dead k ≡ true → get g.paths k ≡ None) → flat_map (gone_by p own) (keys dead) ≡ gone_told p f g (keys dead)
gone_same p f g own is dead there gone = flat_among (gone_by p own) (λ k. told_gone p k (offered f k) (offered g k)) (keys dead)
    (λ k i. let h = in_keys sender_keys dead k i in at k (there k h) (gone k h))
  where
    none : (k : SenderKey) (a : Bool) (v : Option TokenBucket) (o : Option Offer) → is_some o ≡ true
        → cond (is_some v) [] (tears_told p k) ≡ told_gone p k o (or_else {X = Offer} (option_map (own_offer a) v) None)
    none k a v None h = cc
    none k a None (Some o) h = refl
    none k a (Some t) (Some o) h = refl

    at : (k : SenderKey) → is_some (offered f k) ≡ true → get g.paths k ≡ None → gone_by p own k ≡ told_gone p k (offered f k) (offered g k)
    at k h e =
        ap (λ (m : Table sender_keys TokenBucket). cond (has m k) [] (tears_told p k)) (sym is) ∙ none k (has g.advertised k) (get g.senders k) (offered f k) h
        ∙ ap (λ w. told_gone p k (offered f k) (or_else {X = Offer} (option_map (own_offer (has g.advertised k)) (get g.senders k)) (option_map path_offer w))) (sym e)

-- ---- told one after another
pub told_more : {A B C : Type 0} (posted : B → C → B) (say : A → List C) (start out : B) (xs : List A) (i : ℕ) (d : A) → i < length xs → out ≡ fold posted start (flat_map say (take i xs))
    → fold posted out (say (get_or xs i d)) ≡ fold posted start (flat_map say (take (i + 1) xs))
told_more posted say start out xs i d lt is =
    ap (λ b. fold posted b (say (get_or xs i d))) is ∙ sym (fold-append posted start (flat_map say (take i xs)) (say (get_or xs i d)))
    ∙ ap (fold posted start) (sym (ap (flat_map say) (take_more xs i d lt) ∙ flat_map-append say (take i xs) (get_or xs i d ∷ [])
    ∙ ap (λ ys. flat_map say (take i xs) ++ ys) (append_none (say (get_or xs i d)))))
  where
    append_none : {C : Type 0} (ys : List C) → ys ++ [] ≡ ys
    append_none [] = refl
    append_none (y ∷ ys) = ap (λ zs. y ∷ zs) (append_none ys)
