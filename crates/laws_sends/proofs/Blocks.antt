-- All offers in order: for each known sender, in order, those by the interfaces by which its tree goes on.
use Rattle.std.specs.Prelude.{◌≡◌, ℕ, ◌+◌, ◌<◌, ◌==◌, nat_lt, Bool, true, false, cond, ◌&&◌, ◌||◌, List, [], ◌∷◌, ◌++◌, map as each, length, is_some, Option, Some, None, zero, suc, refl}
use Rattle.std.specs.List.{filter, flat_map, list_any, range_with_len}
use Rattle.std.specs.Option.{option_map}
use Rattle.std.specs.Ordering.{eq_by_cmp, is_lt, nat_cmp, ordering_then}
use Rattle.std.specs.Cmp.{tied_itself}
use Rattle.std.specs.declared.cmp.Ordering.{Ordering}
use Rattle.std.specs.declared.cmp.Ordering.TheVariants.{Less, Equal, Greater}
use Rattle.std.specs.FinMap.Entries.{find, below_all, is_sorted}
use Rattle.std.proofs.Common.{sym, ap, subst, inl, inr, ◌∙◌, T, arith}
use Rattle.std.proofs.lemmas.Bool.{eqb-true, eq-eqb, ltb-true, lt-ltb}
use Rattle.rsvp_base.specs.Members.{In}
use Rattle.rsvp_base.specs.Orders.{sessions, senders}
use Rattle.rsvp_base.specs.Table.{both, first, second, get, has, keys, passes}
use Rattle.rsvp_base.specs.TokenBucket.{TokenBucket}
use Rattle.rsvp_base.proofs.Filters.{same_test}
use Rattle.rsvp_base.proofs.Fronts.{to_keys}
use Rattle.rsvp_base.proofs.Members.{any_in, in_any, in_each, in_filter, in_flat_map, in_left, in_right, to_filter, tied_in}
use Rattle.rsvp_base.proofs.SetLaws.{and_both, and_made}
use Rattle.rsvp_base.proofs.Tables.{same_table, tied_same}
use Rattle.style_rules.proofs.Merges.{get-table_at_all}
use Rattle.style_rules.specs.Toward.{or_else}
use Rattle.router_rules.specs.Facts.{Facts, PathState, SenderKey, sender_keys}
use Rattle.router_rules.specs.Offers.{Offer, OfferKey, Offers, offer_keys, offers, own_offer, path_offer}
use Rattle.router_rules.specs.NodeConfig.{NodeConfig, goes_out, outward}
use Rattle.router_state.specs.FactLaws.{is_way}
use Rattle.router_state.proofs.Lists.{in_range, to_range}
use Rattle.router_state.proofs.Offering.{offers_by_way}
use Rattle.router_state.proofs.Tests.{ties}
use Rattle.laws_sends.specs.Told.{offer_key, offered}
use Rattle.laws_sends.proofs.Lanes.{sorted_both}
use Rattle.laws_sends.specs.Several.{known_offers}

-- ---- the known senders
there : (f : Facts) (k : SenderKey) (w : Option Offer) → offered f k ≡ w → is_some w ≡ true → In k (keys f.senders ++ keys f.paths)
there f k w is some = by (get f.senders k) (get f.paths k) refl refl (ap is_some is ∙ some)
  where
    by : (v : Option TokenBucket) (u : Option PathState) → get f.senders k ≡ v → get f.paths k ≡ u
        → is_some (or_else {X = Offer} (option_map (own_offer (has f.advertised k)) v) (option_map path_offer u)) ≡ true
        → In k (keys f.senders ++ keys f.paths)
    by (Some v) u g h e = in_left k (keys f.senders) (keys f.paths) (to_keys sender_keys f.senders k (ap is_some g))
    by None (Some u) g h e = in_right k (keys f.senders) (keys f.paths) (to_keys sender_keys f.paths k (ap is_some h))
    by None None g h e = absurd (cc)

pub known_at : (f : Facts) (k : SenderKey) → get (known_offers f) k ≡ offered f k
known_at f k =
    get-table_at_all sender_keys (offered f) (keys f.senders ++ keys f.paths) k
    (λ off. by (offered f k) refl off)
  where
    by : (w : Option Offer) → offered f k ≡ w → list_any (eq_by_cmp sender_keys.cmp k) (keys f.senders ++ keys f.paths) ≡ false → offered f k ≡ None
    by None e off = e
    by (Some o) e off = let z : true ≡ false = sym (tied_in sender_keys k (keys f.senders ++ keys f.paths) (there f k (Some o) e refl)) ∙ off in absurd (cc)

-- ---- the ways of one sender
module _ (k : SenderKey) (o : Offer) where
  abbrev pub ones : List ℕ → List (OfferKey × Offer)
  ones is = each (λ i. (offer_key k i, o)) is

  abbrev tie : OfferKey → Bool
  tie q = eq_by_cmp sender_keys.cmp (q.session, q.sender) k

  same_key : (q : OfferKey) (i : ℕ) → eq_by_cmp offer_keys.cmp q (offer_key k i) ≡ (tie q && (i == q.iface))
  same_key q i =
      same_test _ _
      (λ h. let e = tied_same offer_keys q (offer_key k i) h in and_made _ _ (ties sender_keys (q.session, q.sender) k (λ j. ((e j).session, (e j).sender))) (eq-eqb i q.iface (λ j. (sym e j).iface)))
      (λ h. let r = and_both _ _ h in let e = tied_same sender_keys (q.session, q.sender) k r.0 in let n = eqb-true i q.iface r.1 in
      ties offer_keys q (offer_key k i) (λ j. record { session = (e j).0; sender = (e j).1; iface = sym n j }))

  -- what is found among these and what follows
  found : (is : List ℕ) (rest : List (OfferKey × Offer)) (q : OfferKey) → find offer_keys.cmp q (ones is ++ rest)
      ≡ cond (tie q && list_any (λ i. i == q.iface) is) (Some o) (find offer_keys.cmp q rest)
  found [] rest q = by (tie q)
    where
      by : (b : Bool) → find offer_keys.cmp q rest ≡ cond (b && false) (Some o) (find offer_keys.cmp q rest)
      by true = refl
      by false = refl
  found (i ∷ is) rest q =
      ap (λ b. cond b (Some o) (find offer_keys.cmp q (ones is ++ rest))) (same_key q i) ∙ ap (λ w. cond (tie q && (i == q.iface)) (Some o) w) (found is rest q) ∙ by (tie q) (i == q.iface)
    where
      by : (a b : Bool) → cond (a && b) (Some o) (cond (a && list_any (λ i. i == q.iface) is) (Some o) (find offer_keys.cmp q rest))
          ≡ cond (a && (b || list_any (λ i. i == q.iface) is)) (Some o) (find offer_keys.cmp q rest)
      by true true = refl
      by true false = refl
      by false b = refl

  less_far : (i j : ℕ) → i < j → T (is_lt (offer_keys.cmp (offer_key k i) (offer_key k j)))
  less_far i j h =
      passes _ ((λ d. is_lt (ordering_then (tied_itself sessions.total k.0 d) (ordering_then (tied_itself senders.total k.1 d) (nat_cmp i j))))
      ∙ ap (λ b. is_lt (cond b Less (cond (i == j) Equal Greater))) (lt-ltb i j h))

  module _ (goes : ℕ → Bool) where
    far_above : (a b n : ℕ) → a < b → T (below_all offer_keys.cmp (offer_key k a) (ones (filter goes (range_with_len b n))))
    far_above a b zero h = tt
    far_above a b (suc n) h = by (goes b) (far_above a (b + 1) n (omega (arith, h)))
      where
        by : (t : Bool) → T (below_all offer_keys.cmp (offer_key k a) (ones (filter goes (range_with_len (b + 1) n))))
            → T (below_all offer_keys.cmp (offer_key k a) (ones (cond t (b ∷ filter goes (range_with_len (b + 1) n)) (filter goes (range_with_len (b + 1) n)))))
        by true rest = both _ _ (less_far a b h) rest
        by false rest = rest

    ones_rise : (a n : ℕ) → T (is_sorted offer_keys.cmp (ones (filter goes (range_with_len a n))))
    ones_rise a zero = tt
    ones_rise a (suc n) = by (goes a) (ones_rise (a + 1) n)
      where
        by : (t : Bool) → T (is_sorted offer_keys.cmp (ones (filter goes (range_with_len (a + 1) n))))
            → T (is_sorted offer_keys.cmp (ones (cond t (a ∷ filter goes (range_with_len (a + 1) n)) (filter goes (range_with_len (a + 1) n)))))
        by true rest = both _ _ (far_above a (a + 1) n (omega arith)) rest
        by false rest = rest

among : (goes : ℕ → Bool) (n m : ℕ) → list_any (λ i. i == m) (filter goes (range_with_len 0 n)) ≡ (nat_lt m n && goes m)
among goes n m =
    same_test _ _
    (λ h.
    let t = in_any (λ i. i == m) (filter goes (range_with_len 0 n)) h in
    let r = in_filter goes t.0 (range_with_len 0 n) t.1 in
    let e = eqb-true t.0 m t.2 in
    let w = in_range 0 n t.0 r.0 in
    let below = w.1 in
    and_made _ _ (lt-ltb m n (omega (arith, e, below))) (ap goes (sym e) ∙ r.1))
    (λ h.
    let r = and_both _ _ h in
    let below = ltb-true m n r.0 in
    any_in (λ i. i == m) m (filter goes (range_with_len 0 n)) (to_filter goes m (range_with_len 0 n) (to_range 0 n m (omega arith) (omega (arith, below))) r.1) (eq-eqb m m refl))

-- an interface of the list is a way
pub way_of : (p : NodeConfig) (k : SenderKey) (i : ℕ) → In i (outward p k.0 k.1) → is_way p (offer_key k i) ≡ true
way_of p k i h =
    let r = in_filter (λ j. goes_out p k.0 j k.1) i (range_with_len 0 (length p.ifaces)) h in
    let w = in_range 0 (length p.ifaces) i r.0 in
    let below = w.1 in
    and_made _ _ (lt-ltb i (length p.ifaces) (omega (arith, below))) r.1

-- ---- sender after sender
module _ (p : NodeConfig) where
  abbrev pub block : SenderKey × Offer → List (OfferKey × Offer)
  block e = ones e.0 e.1 (outward p e.0.0 e.0.1)

  abbrev blocks : List (SenderKey × Offer) → List (OfferKey × Offer)
  blocks es = flat_map block es

  before : (k j : SenderKey) (a b : ℕ) → T (is_lt (sender_keys.cmp k j)) → T (is_lt (offer_keys.cmp (offer_key k a) (offer_key j b)))
  before k j a b h = by (sessions.cmp k.0 j.0) (senders.cmp k.1 j.1) (nat_cmp a b) h
    where
      by : (r q n : Ordering) → T (is_lt (ordering_then r q)) → T (is_lt (ordering_then r (ordering_then q n)))
      by Less q n h = tt
      by Equal Less n h = tt
      by Equal Equal n h = absurd h
      by Equal Greater n h = absurd h
      by Greater q n h = absurd h

  in_below : (k : SenderKey) (es : List (SenderKey × Offer)) → T (below_all sender_keys.cmp k es) → (e : SenderKey × Offer) → In e es → T (is_lt (sender_keys.cmp k e.0))
  in_below k [] h e i = elim i [ ]
  in_below k (f ∷ es) h e (inl is) = let P : SenderKey × Offer → Type 0 = λ z. T (is_lt (sender_keys.cmp k z.0)) in subst P (sym is) (first _ _ h)
  in_below k (f ∷ es) h e (inr i) = in_below k es (second _ _ h) e i

  blocks_rise : (es : List (SenderKey × Offer)) → T (is_sorted sender_keys.cmp es) → T (is_sorted offer_keys.cmp (blocks es))
  blocks_rise [] h = tt
  blocks_rise (e ∷ es) h =
      sorted_both offer_keys (block e) (blocks es) (ones_rise e.0 e.1 (λ i. goes_out p e.0.0 i e.0.1) 0 (length p.ifaces)) (blocks_rise es (second _ _ h))
      (λ a b i j.
      let r = in_each (λ i. (offer_key e.0 i, e.1)) a (outward p e.0.0 e.0.1) i in
      let t = in_flat_map block b es j in
      let q = in_each (λ i. (offer_key t.0.0 i, t.0.1)) b (outward p t.0.0.0 t.0.0.1) t.2 in
      let lt = before e.0 t.0.0 r.0 q.0 (in_below e.0 es (first _ _ h) t.0 t.1) in
      let P : OfferKey × Offer → OfferKey × Offer → Type 0 = λ x y. T (is_lt (offer_keys.cmp x.0 y.0)) in
      subst (λ x. P x b) (sym r.2) (subst (λ y. P (offer_key e.0 r.0, e.1) y) (sym q.2) lt))

  found_in : (es : List (SenderKey × Offer)) (q : OfferKey) → find offer_keys.cmp q (blocks es) ≡ cond (is_way p q) (find sender_keys.cmp (q.session, q.sender) es) None
  found_in [] q = by (is_way p q)
    where
      by : (b : Bool) → ◌≡◌ {A = Option Offer} None (cond b None None)
      by true = refl
      by false = refl
  found_in (e ∷ es) q =
      found e.0 e.1 (outward p e.0.0 e.0.1) (blocks es) q
      ∙ (λ i. cond (ways (tie e.0 e.1 q) refl i) (Some e.1) (found_in es q i)) ∙ by (tie e.0 e.1 q) (is_way p q)
    where
      ways : (b : Bool) → tie e.0 e.1 q ≡ b → (b && list_any (λ i. i == q.iface) (outward p e.0.0 e.0.1)) ≡ (b && is_way p q)
      ways true t = let same = tied_same sender_keys (q.session, q.sender) e.0 t in among (λ i. goes_out p e.0.0 i e.0.1) (length p.ifaces) q.iface
          ∙ (λ i. nat_lt q.iface (length p.ifaces) && goes_out p (sym same i).0 q.iface (sym same i).1)
      ways false t = refl

      by : (a b : Bool) → cond (a && b) (Some e.1) (cond b (find sender_keys.cmp (q.session, q.sender) es) None) ≡ cond b (cond a (Some e.1) (find sender_keys.cmp (q.session, q.sender) es)) None
      by true true = refl
      by true false = refl
      by false true = refl
      by false false = refl

  pub all_offers : (f : Facts) → (offers p f).rows ≡ flat_map block (known_offers f).rows
  all_offers f =
      let listed : Offers = record { rows = blocks (known_offers f).rows; sorted = blocks_rise (known_offers f).rows (known_offers f).sorted } in
      ap (λ (t : Offers). t.rows)
      (same_table offer_keys (offers p f) listed
      (λ q. offers_by_way p f q ∙ ap (λ w. cond (is_way p q) w None) (sym (known_at f (q.session, q.sender))) ∙ sym (found_in (known_offers f).rows q)))
