-- Where the offer of one sender alone is new, the Paths that are sent are that sender's, interface by interface.
use Rattle.std.specs.Prelude.{◌≡◌, ℕ, ◌+◌, ◌<◌, ◌==◌, nat_lt, Bool, true, false, cond, not, ◌&&◌, ◌||◌, List, [], ◌∷◌, map as each, length, is_some, Option, Some, None, refl, zero, suc}
use Rattle.std.specs.List.{cons_option, filter, filter_map, list_any, range_with_len}
use Rattle.std.specs.Ordering.{eq_by_cmp, is_lt, nat_cmp, ordering_then}
use Rattle.std.specs.Cmp.{tied_itself}
use Rattle.std.specs.declared.cmp.Ordering.TheVariants.{Less, Equal, Greater}
use Rattle.std.specs.FinMap.Entries.{find, below_all, is_sorted}
use Rattle.std.proofs.Common.{sym, ap, inl, inr, ◌∙◌, T, arith}
use Rattle.std.proofs.lemmas.Bool.{eqb-true, eq-eqb, ltb-true, lt-ltb}
use Rattle.rsvp_base.specs.Members.{In}
use Rattle.rsvp_base.specs.Orders.{sessions, senders}
use Rattle.rsvp_base.specs.Table.{passes, both, changed, changed_rows, kept_row, empty, get, has, keys}
use Rattle.rsvp_base.proofs.Fronts.{in_keys}
use Rattle.rsvp_base.proofs.Members.{any_in, in_any, in_filter, to_filter}
use Rattle.rsvp_base.proofs.SetLaws.{and_both, and_made, or_right}
use Rattle.rsvp_base.proofs.Tables.{either, get-changed, same_table, then_do, tied_same}
use Rattle.router_state.specs.RouterRules.Facts.{Facts, SenderKey, sender_keys}
use Rattle.router_state.specs.RouterRules.Offers.{Offer, OfferKey, Offers, offer_at, offer_keys, offers}
use Rattle.router_state.specs.RouterRules.NodeConfig.{NodeConfig, goes_out, outward}
use Rattle.router_state.specs.RouterRules.Sends.{is_new_offer, path_send, path_send_of, path_sends, path_tear, path_tears}
use Rattle.router_state.specs.RouterRules.declared.advert.Advert.TheVariants.{Silent}
use Rattle.router_state.specs.FactLaws.{is_way}
use Rattle.router_state.proofs.Lists.{in_range, to_range}
use Rattle.router_state.proofs.Offering.{offers_by_way}
use Rattle.router_state.proofs.Tests.{not_new, ties}
use Rattle.rsvp_base.specs.declared.flow.Peak.TheVariants.{Infinite}
use Rattle.laws_sends.specs.Told.{offer_key, offered, tears_told, told_gone, told_new}
use Rattle.router_state.proofs.Routed.{same_test}

-- ---- the offers that are new
abbrev pick : NodeConfig → Offers → OfferKey → Offer → Option Offer
pick p before j v = cond (is_new_offer p j.iface v (get before j)) (Some v) None

picked : (p : NodeConfig) (before : Offers) (es : List (OfferKey × Offer)) → filter_map (path_send_of p before empty) es ≡ each (path_send p false) (changed_rows (pick p before) es)
picked p before [] = refl
picked p before (e ∷ es) = by (is_new_offer p e.0.iface e.1 (get before e.0)) (picked p before es)
  where
    by : (b : Bool) → filter_map (path_send_of p before empty) es ≡ each (path_send p false) (changed_rows (pick p before) es)
        → cons_option (cond b (Some (path_send p false e)) None) (filter_map (path_send_of p before empty) es)
        ≡ each (path_send p false) (kept_row e.0 (cond b (Some e.1) None) (changed_rows (pick p before) es))
    by true rest = ap (λ ss. path_send p false e ∷ ss) rest
    by false rest = rest

and_moved : (a b c : Bool) → (a && (b && c)) ≡ ((a && b) && c)
and_moved true b c = refl
and_moved false b c = refl

-- two tests, one after another
pub both_tests : {A : Type 0} (t u : A → Bool) (xs : List A) → filter t (filter u xs) ≡ filter (λ x. u x && t x) xs
both_tests t u [] = refl
both_tests t u (x ∷ xs) = by (u x) (both_tests t u xs)
  where
    by : (b : Bool) → filter t (filter u xs) ≡ filter (λ x. u x && t x) xs → filter t (cond b (x ∷ filter u xs) (filter u xs))
        ≡ cond (b && t x) (x ∷ filter (λ x. u x && t x) xs) (filter (λ x. u x && t x) xs)
    by true h = ap (λ ys. cond (t x) (x ∷ ys) ys) h
    by false h = h

-- a test that all pass, and one that none passes
pub all_pass : (t : ℕ → Bool) (xs : List ℕ) → ((x : ℕ) → t x ≡ true) → filter t xs ≡ xs
all_pass t [] h = refl
all_pass t (x ∷ xs) h = ap (λ b. cond b (x ∷ filter t xs) (filter t xs)) (h x) ∙ ap (λ ys. x ∷ ys) (all_pass t xs h)

pub none_pass : (t : ℕ → Bool) (xs : List ℕ) → ((x : ℕ) → t x ≡ false) → filter t xs ≡ []
none_pass t [] h = refl
none_pass t (x ∷ xs) h = ap (λ b. cond b (x ∷ filter t xs) (filter t xs)) (h x) ∙ none_pass t xs h

-- ---- those of one sender
module _ (k : SenderKey) (o : Offer) where
  abbrev key : ℕ → OfferKey
  key i = record { session = k.0; sender = k.1; iface = i }

  abbrev ones : List ℕ → List (OfferKey × Offer)
  ones is = each (λ i. (key i, o)) is

  abbrev tie : OfferKey → Bool
  tie q = eq_by_cmp sender_keys.cmp k (q.session, q.sender)

  same_key : (q : OfferKey) (i : ℕ) → eq_by_cmp offer_keys.cmp q (key i) ≡ (tie q && (i == q.iface))
  same_key q i =
      same_test _ _
      (λ h. let e = tied_same offer_keys q (key i) h in and_made _ _ (ties sender_keys k (q.session, q.sender) (λ j. ((sym e j).session, (sym e j).sender))) (eq-eqb i q.iface (λ j. (sym e j).iface)))
      (λ h. let r = and_both _ _ h in let e = tied_same sender_keys k (q.session, q.sender) r.0 in let n = eqb-true i q.iface r.1 in
      ties offer_keys q (key i) (λ j. record { session = (sym e j).0; sender = (sym e j).1; iface = sym n j }))

  found_one : (is : List ℕ) (q : OfferKey) → find offer_keys.cmp q (ones is) ≡ cond (tie q && list_any (λ i. i == q.iface) is) (Some o) None
  found_one [] q = by (tie q)
    where
      by : (b : Bool) → None ≡ cond (b && false) (Some o) None
      by true = refl
      by false = refl
  found_one (i ∷ is) q = ap (λ b. cond b (Some o) (find offer_keys.cmp q (ones is))) (same_key q i) ∙ ap (λ w. cond (tie q && (i == q.iface)) (Some o) w) (found_one is q) ∙ by (tie q) (i == q.iface)
    where
      by : (a b : Bool) → cond (a && b) (Some o) (cond (a && list_any (λ i. i == q.iface) is) (Some o) None) ≡ cond (a && (b || list_any (λ i. i == q.iface) is)) (Some o) None
      by true true = refl
      by true false = refl
      by false b = refl

  less_key : (i j : ℕ) → offer_keys.cmp (key i) (key j) ≡ nat_cmp i j
  less_key i j = λ d. ordering_then (tied_itself sessions.total k.0 d) (ordering_then (tied_itself senders.total k.1 d) (nat_cmp i j))

  less_far : (i j : ℕ) → i < j → T (is_lt (offer_keys.cmp (key i) (key j)))
  less_far i j h = passes _ (ap is_lt (less_key i j) ∙ ap (λ b. is_lt (cond b Less (cond (i == j) Equal Greater))) (lt-ltb i j h))

  module _ (goes : ℕ → Bool) where
    far_above : (a b n : ℕ) → a < b → T (below_all offer_keys.cmp (key a) (ones (filter goes (range_with_len b n))))
    far_above a b zero h = tt
    far_above a b (suc n) h = by (goes b) (far_above a (b + 1) n (omega (arith, h)))
      where
        by : (t : Bool) → T (below_all offer_keys.cmp (key a) (ones (filter goes (range_with_len (b + 1) n))))
            → T (below_all offer_keys.cmp (key a) (ones (cond t (b ∷ filter goes (range_with_len (b + 1) n)) (filter goes (range_with_len (b + 1) n)))))
        by true rest = both _ _ (less_far a b h) rest
        by false rest = rest

    ones_rise : (a n : ℕ) → T (is_sorted offer_keys.cmp (ones (filter goes (range_with_len a n))))
    ones_rise a zero = tt
    ones_rise a (suc n) = by (goes a) (ones_rise (a + 1) n)
      where
        by : (t : Bool) → T (is_sorted offer_keys.cmp (ones (filter goes (range_with_len (a + 1) n))))
            → T (is_sorted offer_keys.cmp (ones (cond t (a ∷ filter goes (range_with_len (a + 1) n)) (filter goes (range_with_len (a + 1) n)))))
        by true rest = both _ _ (far_above a (a + 1) n (omega arith)) rest
        by false rest = rest

  abbrev listed_ones : (goes : ℕ → Bool) (n : ℕ) → Offers
  listed_ones goes n = record { rows = ones (filter goes (range_with_len 0 n)); sorted = ones_rise goes 0 n }

  among : (goes : ℕ → Bool) (n m : ℕ) → list_any (λ i. i == m) (filter goes (range_with_len 0 n)) ≡ (nat_lt m n && goes m)
  among goes n m =
      same_test _ _
      (λ h.
      let t = in_any (λ i. i == m) (filter goes (range_with_len 0 n)) h in
      let r = in_filter goes t.0 (range_with_len 0 n) t.1 in
      let e = eqb-true t.0 m t.2 in
      let w = in_range 0 n t.0 r.0 in
      let below = w.1 in
      and_made _ _ (lt-ltb m n (omega (arith, e, below))) (ap goes (sym e) ∙ r.1))
      (λ h.
      let r = and_both _ _ h in
      let below = ltb-true m n r.0 in
      any_in (λ i. i == m) m (filter goes (range_with_len 0 n)) (to_filter goes m (range_with_len 0 n) (to_range 0 n m (omega arith) (omega (arith, below))) r.1) (eq-eqb m m refl))

  -- the one sender's ways
  ways_of_one : (p : NodeConfig) (q : OfferKey) → cond (tie q && list_any (λ i. i == q.iface) (outward p k.0 k.1)) (Some o) None ≡ cond (tie q && is_way p q) (Some o) None
  ways_of_one p q = by (tie q) refl
    where
      by : (t : Bool) → tie q ≡ t → cond (t && list_any (λ i. i == q.iface) (outward p k.0 k.1)) (Some o) None ≡ cond (t && is_way p q) (Some o) None
      by true t =
          let e = tied_same sender_keys k (q.session, q.sender) t in
          ap (λ c. cond c (Some o) None) (among (λ i. goes_out p k.0 i k.1) (length p.ifaces) q.iface ∙ (λ i. nat_lt q.iface (length p.ifaces) && goes_out p (e i).0 q.iface (e i).1))
      by false t = refl

  -- ---- the offers of the other senders are the same
  module _ (p : NodeConfig) (f g : Facts) (same : (j : OfferKey) → tie j ≡ false → get (offers p f) j ≡ get (offers p g) j) (here : offer_at g (key 0) ≡ Some o) where
    abbrev was : Option Offer
    was = offer_at f (key 0)

    abbrev fresh : ℕ → Bool
    fresh i = is_new_offer p i o was

    -- the sender's ways at which its offer is new
    abbrev new_way : ℕ → Bool
    new_way i = goes_out p k.0 i k.1 && fresh i

    at_key : (q : OfferKey) → get (changed (pick p (offers p f)) (offers p g)) q ≡ cond (tie q && (is_way p q && fresh q.iface)) (Some o) None
    at_key q = get-changed offer_keys (pick p (offers p f)) (offers p g) q ∙ by (tie q) refl
      where
        -- another sender's offer is not new
        old : (w : Option Offer) → get (offers p g) q ≡ w → get (offers p f) q ≡ w → then_do w (pick p (offers p f) q) ≡ None
        old None e d = refl
        old (Some v) e d = (λ i. cond (is_new_offer p q.iface v (d i)) (Some v) None) ∙ ap (λ b. cond b (Some v) None) (not_new p q.iface v)

        mine : k ≡ (q.session, q.sender) → (b : Bool) → is_way p q ≡ b → then_do (get (offers p g) q) (pick p (offers p f) q) ≡ cond (b && fresh q.iface) (Some o) None
        mine e false b = ap (λ w. then_do w (pick p (offers p f) q)) (offers_by_way p g q ∙ ap (λ t. cond t (offer_at g q) None) b)
        mine e true b =
            let now : get (offers p g) q ≡ Some o = offers_by_way p g q ∙ ap (λ t. cond t (offer_at g q) None) b
            ∙ (λ i. offer_at g (record { session = (sym e i).0; sender = (sym e i).1; iface = q.iface })) ∙ here in
            let then : get (offers p f) q ≡ was = offers_by_way p f q ∙ ap (λ t. cond t (offer_at f q) None) b
            ∙ (λ i. offer_at f (record { session = (sym e i).0; sender = (sym e i).1; iface = q.iface })) in
            ap (λ w. then_do w (pick p (offers p f) q)) now ∙ (λ i. cond (is_new_offer p q.iface o (then i)) (Some o) None)

        by : (b : Bool) → tie q ≡ b → then_do (get (offers p g) q) (pick p (offers p f) q) ≡ cond (b && (is_way p q && fresh q.iface)) (Some o) None
        by true t = mine (tied_same sender_keys k (q.session, q.sender) t) (is_way p q) refl
        by false t = old (get (offers p g) q) refl (same q t)

    abbrev new_ones : List ℕ
    new_ones = filter new_way (range_with_len 0 (length p.ifaces))

    among_new : (q : OfferKey) → cond (tie q && list_any (λ i. i == q.iface) new_ones) (Some o) None ≡ cond (tie q && (is_way p q && fresh q.iface)) (Some o) None
    among_new q = by (tie q) refl
      where
        by : (t : Bool) → tie q ≡ t → cond (t && list_any (λ i. i == q.iface) new_ones) (Some o) None ≡ cond (t && (is_way p q && fresh q.iface)) (Some o) None
        by true t =
            let e = tied_same sender_keys k (q.session, q.sender) t in
            ap (λ c. cond c (Some o) None)
            (among new_way (length p.ifaces) q.iface ∙ (λ i. nat_lt q.iface (length p.ifaces) && (goes_out p (e i).0 q.iface (e i).1 && fresh q.iface))
            ∙ and_moved (nat_lt q.iface (length p.ifaces)) (goes_out p q.session q.iface q.sender) (fresh q.iface))
        by false t = refl

    told_rows : changed_rows (pick p (offers p f)) (offers p g).rows ≡ ones new_ones
    told_rows = ap (λ (t : Offers). t.rows) (same_table offer_keys (changed (pick p (offers p f)) (offers p g)) (listed_ones new_way (length p.ifaces))
        (λ q. at_key q ∙ sym (found_one new_ones q ∙ among_new q)))

    -- the Paths that are sent are those of the sender, by the ways at which its offer is new
    pub paths_onward : path_sends p (offers p f) (offers p g) empty ≡ each (λ i. path_send p false (key i, o)) (filter fresh (outward p k.0 k.1))
    paths_onward =
        picked p (offers p f) (offers p g).rows ∙ ap (each (path_send p false)) told_rows ∙ each_ones new_ones
        ∙ ap (each (λ i. path_send p false (key i, o))) (sym (both_tests fresh (λ i. goes_out p k.0 i k.1) (range_with_len 0 (length p.ifaces))))
      where
        each_ones : (is : List ℕ) → each (path_send p false) (ones is) ≡ each (λ i. path_send p false (key i, o)) is
        each_ones [] = refl
        each_ones (i ∷ is) = ap (λ ss. path_send p false (key i, o) ∷ ss) (each_ones is)

  -- where the sender is unknown after, none is sent
  module _ (p : NodeConfig) (f g : Facts) (same : (j : OfferKey) → tie j ≡ false → get (offers p f) j ≡ get (offers p g) j) (gone : offer_at g (key 0) ≡ None) where
    none_key : (q : OfferKey) → get (changed (pick p (offers p f)) (offers p g)) q ≡ None
    none_key q = get-changed offer_keys (pick p (offers p f)) (offers p g) q ∙ by (tie q) refl
      where
        old : (w : Option Offer) → get (offers p g) q ≡ w → get (offers p f) q ≡ w → then_do w (pick p (offers p f) q) ≡ None
        old None e d = refl
        old (Some v) e d = (λ i. cond (is_new_offer p q.iface v (d i)) (Some v) None) ∙ ap (λ b. cond b (Some v) None) (not_new p q.iface v)

        none : (b : Bool) → ◌≡◌ {A = Option Offer} (cond b None None) None
        none true = refl
        none false = refl

        by : (b : Bool) → tie q ≡ b → then_do (get (offers p g) q) (pick p (offers p f) q) ≡ None
        by true t =
            let e = tied_same sender_keys k (q.session, q.sender) t in
            let now : get (offers p g) q ≡ None = offers_by_way p g q ∙ (λ i. cond (is_way p q) (offer_at g (record { session = (sym e i).0; sender = (sym e i).1; iface = q.iface })) None)
            ∙ ap (λ w. cond (is_way p q) w None) gone ∙ none (is_way p q) in
            ap (λ w. then_do w (pick p (offers p f) q)) now
        by false t = old (get (offers p g) q) refl (same q t)

    pub paths_none : path_sends p (offers p f) (offers p g) empty ≡ []
    paths_none = picked p (offers p f) (offers p g).rows ∙ ap (λ (t : Offers). each (path_send p false) t.rows) (same_table offer_keys (changed (pick p (offers p f)) (offers p g)) empty none_key)

-- ---- where the sender is offered no more, its tears are all that are torn
module _ (k : SenderKey) (o : Offer) (p : NodeConfig) (f g : Facts) (same : (j : OfferKey) → eq_by_cmp sender_keys.cmp k (j.session, j.sender) ≡ false → get (offers p f) j ≡ get (offers p g) j) where
  here : (h : Facts) (j : OfferKey) (e : k ≡ (j.session, j.sender)) → get (offers p h) j ≡ cond (is_way p j) (offered h k) None
  here h j e = offers_by_way p h j ∙ (λ i. cond (is_way p j) (offer_at h (record { session = (sym e i).0; sender = (sym e i).1; iface = j.iface })) None)

  abbrev torn : Offers
  torn = changed (λ j v. cond (not (has (offers p g) j)) (Some o) None) (offers p f)

  -- what is torn is what was offered of the sender
  torn_at : offered f k ≡ Some o → offered g k ≡ None → (j : OfferKey) → get torn j ≡ cond (tie k o j && is_way p j) (Some o) None
  torn_at before gone j = get-changed offer_keys (λ j v. cond (not (has (offers p g) j)) (Some o) None) (offers p f) j ∙ by (tie k o j) refl
    where
      then : Option Offer → Option Offer
      then w = then_do w (λ v. cond (not (has (offers p g) j)) (Some o) None)

      stays : (w : Option Offer) → get (offers p f) j ≡ w → get (offers p g) j ≡ w → then w ≡ None
      stays None a b = refl
      stays (Some v) a b = ap (λ u. cond (not (is_some u)) (Some o) None) b

      mine : (b : Bool) → is_way p j ≡ b → get (offers p f) j ≡ cond b (Some o) None → get (offers p g) j ≡ cond b None None → then (get (offers p f) j) ≡ cond b (Some o) None
      mine true e a b = ap then a ∙ ap (λ u. cond (not (is_some u)) (Some o) None) b
      mine false e a b = ap then a

      by : (b : Bool) → tie k o j ≡ b → then (get (offers p f) j) ≡ cond (b && is_way p j) (Some o) None
      by true t =
          let e = tied_same sender_keys k (j.session, j.sender) t in
          mine (is_way p j) refl (here f j e ∙ ap (λ w. cond (is_way p j) w None) before) (here g j e ∙ ap (λ w. cond (is_way p j) w None) gone)
      by false t = stays (get (offers p f) j) refl (sym (same j t))

  torn_keys : (es : List (OfferKey × Offer)) → filter (λ j. not (has (offers p g) j)) (each (λ e. e.0) es) ≡ each (λ e. e.0) (changed_rows (λ j v. cond (not (has (offers p g) j)) (Some o) None) es)
  torn_keys [] = refl
  torn_keys (e ∷ es) = by (not (has (offers p g) e.0)) (torn_keys es)
    where
      by : (b : Bool) → filter (λ j. not (has (offers p g) j)) (each (λ e. e.0) es) ≡ each (λ e. e.0) (changed_rows (λ j v. cond (not (has (offers p g) j)) (Some o) None) es)
          → cond b (e.0 ∷ filter (λ j. not (has (offers p g) j)) (each (λ e. e.0) es)) (filter (λ j. not (has (offers p g) j)) (each (λ e. e.0) es))
          ≡ each (λ e. e.0) (kept_row e.0 (cond b (Some o) None) (changed_rows (λ j v. cond (not (has (offers p g) j)) (Some o) None) es))
      by true h = ap (λ ks. e.0 ∷ ks) h
      by false h = h

  pub tears_gone : offered f k ≡ Some o → offered g k ≡ None → path_tears p (offers p f) (offers p g) ≡ tears_told p k
  tears_gone was gone =
      ap (each (path_tear p)) (torn_keys (offers p f).rows)
      ∙ ap (λ (t : Offers). each (path_tear p) (each (λ e. e.0) t.rows)) (same_table offer_keys torn (listed_ones k o (λ i. goes_out p k.0 i k.1) (length p.ifaces))
      (λ j. torn_at was gone j ∙ sym (found_one k o (outward p k.0 k.1) j ∙ ways_of_one k o p j)))
      ∙ each_ones (outward p k.0 k.1)
    where
      each_ones : (is : List ℕ) → each (path_tear p) (each (λ e. e.0) (ones k o is)) ≡ each (λ i. path_tear p (offer_key k i)) is
      each_ones [] = refl
      each_ones (i ∷ is) = ap (λ ss. path_tear p (offer_key k i) ∷ ss) (each_ones is)

  -- where it is offered still, or was not, none is torn
  pub tears_none : (offered g k ≡ None → offered f k ≡ None) → path_tears p (offers p f) (offers p g) ≡ []
  tears_none more = ap (each (path_tear p)) (none (keys (offers p f)) (λ j i. in_keys offer_keys (offers p f) j i))
    where
      there : (j : OfferKey) → has (offers p f) j ≡ true → has (offers p g) j ≡ true
      there j h = by (tie k o j) refl
        where
          still : (w v : Option Offer) → offered f k ≡ w → offered g k ≡ v → (b : Bool) → is_some (cond b w None) ≡ true → is_some (cond b v None) ≡ true
          still w (Some v) a e true h = refl
          still None None a e true h = h
          still (Some w) None a e true h = let z : ◌≡◌ {A = Option Offer} None (Some w) = sym (more e) ∙ a in absurd (cc)
          still w v a e false h = h

          by : (b : Bool) → tie k o j ≡ b → has (offers p g) j ≡ true
          by true t =
              let e = tied_same sender_keys k (j.session, j.sender) t in
              ap is_some (here g j e) ∙ still (offered f k) (offered g k) refl refl (is_way p j) (sym (ap is_some (here f j e)) ∙ h)
          by false t = ap is_some (sym (same j t)) ∙ h

      none : (js : List OfferKey) → ((j : OfferKey) → In j js → has (offers p f) j ≡ true) → filter (λ j. not (has (offers p g) j)) js ≡ []
      none [] h = refl
      none (j ∷ js) h = ap (λ b. cond (not b) (j ∷ filter (λ j. not (has (offers p g) j)) js) (filter (λ j. not (has (offers p g) j)) js)) (there j (h j (inl refl))) ∙ none js (λ q i. h q (inr i))

-- ---- as the code tells it
module _ (k : SenderKey) (p : NodeConfig) (f g : Facts) (same : (j : OfferKey) → eq_by_cmp sender_keys.cmp k (j.session, j.sender) ≡ false → get (offers p f) j ≡ get (offers p g) j) where
  abbrev some_offer : Offer
  some_offer = record { tspec = record { r = 0; b = 0; p = Infinite; low = 0; most = 0 }; local = false; advert = Silent }

  pub onward_told : path_sends p (offers p f) (offers p g) empty ≡ told_new p k (offered f k) (offered g k)
  onward_told = by (offered g k) refl
    where
      by : (w : Option Offer) → offered g k ≡ w → path_sends p (offers p f) (offers p g) empty ≡ told_new p k (offered f k) w
      by None e = paths_none k some_offer p f g same e
      by (Some o) e = paths_onward k o p f g same e

  pub tears_onward : path_tears p (offers p f) (offers p g) ≡ told_gone p k (offered f k) (offered g k)
  tears_onward = by (offered f k) (offered g k) refl refl
    where
      by : (w v : Option Offer) → offered f k ≡ w → offered g k ≡ v → path_tears p (offers p f) (offers p g) ≡ told_gone p k w v
      by None v a b = tears_none k some_offer p f g same (λ e. a)
      by (Some o) None a b = tears_gone k o p f g same a b
      by (Some o) (Some n) a b = tears_none k some_offer p f g same (λ e. let z : ◌≡◌ {A = Option Offer} None (Some n) = sym e ∙ b in absurd (cc))

pub told_same : (p : NodeConfig) (k : SenderKey) (w : Option Offer) → told_new p k w w ≡ []
told_same p k None = refl
told_same p k (Some o) = ap (each (λ i. path_send p false (offer_key k i, o))) (none_pass (λ i. is_new_offer p i o (Some o)) (outward p k.0 k.1) (λ i. not_new p i o))
