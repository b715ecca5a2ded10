-- What is offered, by look-up.
use Rattle.std.specs.Prelude.{◌≡◌, ℕ, true, false, cond, List, ◌++◌, length, is_some, Option, Some, None, refl}
use Rattle.std.proofs.Common.{sym, ap, subst, ◌∙◌, arith}
use Rattle.std.proofs.lemmas.Bool.{ltb-true, lt-ltb}
use Rattle.std.specs.List.{flat_map, list_any, range_with_len}
use Rattle.std.specs.Option.{option_map}
use Rattle.std.specs.Ordering.{eq_by_cmp}
use Rattle.router_rules.specs.RsvpBase.Keys.{pairs}
use Rattle.router_rules.specs.RsvpBase.Members.{In}
use Rattle.router_rules.specs.RsvpBase.Orders.{sessions, senders}
use Rattle.router_rules.specs.RsvpBase.Table.{get, has, keys}
use Rattle.router_rules.specs.RsvpBase.TokenBucket.{TokenBucket}
use Rattle.router_rules.proofs.RsvpBase.Members.{in_each, to_each, in_flat_map, to_flat_map, in_left, in_right, in_filter, to_filter, in_tied, tied_in}
use Rattle.router_rules.proofs.RsvpBase.SetLaws.{and_both, and_made}
use Rattle.router_rules.proofs.RsvpBase.Tables.{either}
use Rattle.router_rules.proofs.Merges.{get-table_at}
use Rattle.router_rules.specs.Toward.{or_else}
use Rattle.router_rules.specs.Facts.{Facts, PathState, SenderKey}
use Rattle.router_rules.specs.Offers.{Offer, OfferKey, offer_at, offer_keys, own_offer, path_offer, ways_of}
use Rattle.router_rules.specs.NodeConfig.{NodeConfig, goes_out, outward}
use Rattle.laws_bounds.specs.FactLaws.{OffersByWay, is_way}
use Rattle.router_rules.proofs.RsvpBase.Fronts.{to_keys}
use Rattle.laws_bounds.proofs.Lists.{in_range, to_range}

abbrev all_ways : NodeConfig → Facts → List OfferKey
all_ways p f = flat_map (ways_of p) (keys f.senders ++ keys f.paths)

abbrev way : SenderKey → ℕ → OfferKey
way k i = record { session = k.0; sender = k.1; iface = i }

-- a key of the list is a way
in_ways : (p : NodeConfig) (f : Facts) (k : OfferKey) → In k (all_ways p f) → is_way p k ≡ true
in_ways p f k i =
    let r = in_flat_map (ways_of p) k (keys f.senders ++ keys f.paths) i in
    let t = in_each (way r.0) k (outward p r.0.0 r.0.1) r.2 in
    let q = in_filter (λ j. goes_out p r.0.0 j r.0.1) t.0 (range_with_len 0 (length p.ifaces)) t.1 in
    let below = (in_range 0 (length p.ifaces) t.0 q.0).1 in
    subst (λ (z : OfferKey). is_way p z ≡ true) (sym t.2) (and_made _ _ (lt-ltb t.0 (length p.ifaces) (omega (arith, below))) q.1)

-- and a way of a sender that is there is in it
to_ways : (p : NodeConfig) (f : Facts) (k : OfferKey) → In (k.session, k.sender) (keys f.senders ++ keys f.paths) → is_way p k ≡ true → In k (all_ways p f)
to_ways p f k i e =
    let t = and_both _ _ e in
    let below = ltb-true k.iface (length p.ifaces) t.0 in
    to_flat_map (ways_of p) (k.session, k.sender) k (keys f.senders ++ keys f.paths) i
    (to_each (way (k.session, k.sender)) k.iface (outward p k.session k.sender)
    (to_filter (λ j. goes_out p k.session j k.sender) k.iface (range_with_len 0 (length p.ifaces)) (to_range 0 (length p.ifaces) k.iface (omega arith) (omega (arith, below))) t.1))

-- who is offered is there
offered : (f : Facts) (k : OfferKey) (x : Offer) → offer_at f k ≡ Some x → In (k.session, k.sender) (keys f.senders ++ keys f.paths)
offered f k x e = by (get f.senders (k.session, k.sender)) (get f.paths (k.session, k.sender)) refl refl e
  where
    by : (v : Option TokenBucket) (w : Option PathState) → get f.senders (k.session, k.sender) ≡ v → get f.paths (k.session, k.sender) ≡ w
        → or_else {X = Offer} (option_map (own_offer (has f.advertised (k.session, k.sender))) v) (option_map path_offer w) ≡ Some x
        → In (k.session, k.sender) (keys f.senders ++ keys f.paths)
    by (Some v) w g h e = in_left (k.session, k.sender) (keys f.senders) (keys f.paths) (to_keys (pairs sessions senders) f.senders (k.session, k.sender) (ap is_some g))
    by None (Some w) g h e = in_right (k.session, k.sender) (keys f.senders) (keys f.paths) (to_keys (pairs sessions senders) f.paths (k.session, k.sender) (ap is_some h))
    by None None g h e = absurd (cc)

pub offers_by_way : OffersByWay
offers_by_way p f k =
    get-table_at offer_keys (offer_at f) (all_ways p f) k
    ∙ either (list_any (eq_by_cmp offer_keys.cmp k) (all_ways p f))
    (λ t. ap (λ b. cond b (offer_at f k) None) t ∙ sym (ap (λ b. cond b (offer_at f k) None) (in_ways p f k (in_tied offer_keys k (all_ways p f) t))))
    (λ t. ap (λ b. cond b (offer_at f k) None) t
    ∙ either (is_way p k) (λ w. none w t (offer_at f k) refl ∙ sym (ap (λ b. cond b (offer_at f k) None) w)) (λ w. sym (ap (λ b. cond b (offer_at f k) None) w)))
  where
    none : is_way p k ≡ true → list_any (eq_by_cmp offer_keys.cmp k) (all_ways p f) ≡ false → (v : Option Offer) → offer_at f k ≡ v → None ≡ offer_at f k
    none w t None e = sym e
    none w t (Some x) e = let z : true ≡ false = sym (tied_in offer_keys k (all_ways p f) (to_ways p f k (offered f k x e) w)) ∙ t in absurd (cc)
