-- Flows by sender, one sender more at a time; and names that are gone.
use Rattle.std.proofs.Common.{◌≡◌, ◌<◌, ◌≤◌, ◌+◌, ◌||◌, ℕ, Bool, true, false, cond, T, List, [], ◌∷◌, ◌++◌, length, take, get_or, map as each, is_some, Option, Some, None, Bor, refl, sym}
use Rattle.std.proofs.Common.{ap, ◌∙◌, arith}
use Rattle.std.specs.Prelude.{not}
use Rattle.std.specs.List.{filter, flat_map, list_any}
use Rattle.std.specs.Option.{option_copied, option_map}
use Rattle.std.specs.Ordering.{eq_by_cmp}
use Rattle.std.specs.FinMap.Entries.{below_all, is_sorted}
use Rattle.std.proofs.lemmas.List.{length-map, take_more}
use Rattle.rsvp_base.specs.Orders.{Names, senders, units}
use Rattle.rsvp_base.specs.Sets.{IsWithin, cut, set_of, union, with_key, with_keys}
use Rattle.rsvp_base.specs.Table.{Table, empty, get, has, keys, size, values, both, first, second}
use Rattle.rsvp_base.specs.TokenBucket.{TokenBucket}
use Rattle.rsvp_base.specs.declared.part.Part.{Part}
use Rattle.rsvp_base.specs.declared.session.Sender.{Sender}
use Rattle.rsvp_base.specs.declared.style.Unit.{Unit as UnitOf}
use Rattle.rsvp_base.specs.declared.style.Unit.TheVariants.{Of}
use Rattle.rsvp_base.proofs.Counts.{in_found, found_in, size_below}
use Rattle.rsvp_base.proofs.Lists.{with_keys-union}
use Rattle.rsvp_base.proofs.Members.{in_each}
use Rattle.rsvp_base.proofs.SetLaws.{and_both, cut-union, has-cut, size_within}
use Rattle.rsvp_base.proofs.Tables.{either, tied_same, get-put_in, same_table}
use Rattle.rsvp_messages.specs.FlowTable.{FlowTable}
use Rattle.style_rules.specs.Merge.{PartTable, put_some}
use Rattle.style_rules.specs.PartLaws.{union_least}
use Rattle.style_rules.proofs.Merges.{get-table_at}
use Rattle.router_rules.specs.Asking.{flow_at, flows_by_sender}
use Rattle.sent_state.specs.Listed.{AreFlowsOf, flows_with}

no_more : {A : Type 0} (xs : List A) → xs ++ [] ≡ xs
no_more [] = refl
no_more (x ∷ xs) = ap (λ zs. x ∷ zs) (no_more xs)

grouped : {A : Type 0} (xs ys zs : List A) → (xs ++ ys) ++ zs ≡ xs ++ (ys ++ zs)
grouped [] ys zs = refl
grouped (x ∷ xs) ys zs = ap (λ ws. x ∷ ws) (grouped xs ys zs)

-- ---- the names of parts
abbrev pub names_listed : List (UnitOf × Part) → List Sender
names_listed es = flat_map (λ part. keys part.senders) (each (λ e. e.1) es)

pub names_more : (es : List (UnitOf × Part)) (i : ℕ) (e : UnitOf × Part) → i < length es → e ≡ get_or es i e → names_listed (take (i + 1) es) ≡ names_listed (take i es) ++ keys e.1.senders
names_more es i e lt is = ap names_listed (take_more es i e lt ∙ ap (λ z. take i es ++ z ∷ []) (sym is)) ∙ last (take i es)
  where
    last : (xs : List (UnitOf × Part)) → names_listed (xs ++ e ∷ []) ≡ names_listed xs ++ keys e.1.senders
    last [] = no_more (keys e.1.senders)
    last (x ∷ xs) = ap (λ zs. keys x.1.senders ++ zs) (last xs) ∙ sym (grouped (keys x.1.senders) (names_listed xs) (keys e.1.senders))

-- ---- names that are gone
abbrev pub names_gone : PartTable → List (UnitOf × Part) → List Sender
names_gone after es = flat_map (λ e. keys e.1.senders) (filter (λ e. not (has after e.0)) es)

gone_last : (after : PartTable) (xs : List (UnitOf × Part)) (e : UnitOf × Part) → names_gone after (xs ++ e ∷ []) ≡ names_gone after xs ++ cond (has after e.0) [] (keys e.1.senders)
gone_last after [] e = by (has after e.0)
  where
    by : (b : Bool) → flat_map (λ (z : UnitOf × Part). keys z.1.senders) (cond (not b) (e ∷ []) []) ≡ cond b [] (keys e.1.senders)
    by true = refl
    by false = no_more (keys e.1.senders)
gone_last after (x ∷ xs) e = by (has after x.0) (gone_last after xs e)
  where
    by : (b : Bool) → names_gone after (xs ++ e ∷ []) ≡ names_gone after xs ++ cond (has after e.0) [] (keys e.1.senders)
        → flat_map (λ (z : UnitOf × Part). keys z.1.senders) (cond (not b) (x ∷ filter (λ z. not (has after z.0)) (xs ++ e ∷ [])) (filter (λ z. not (has after z.0)) (xs ++ e ∷ [])))
        ≡ flat_map (λ (z : UnitOf × Part). keys z.1.senders) (cond (not b) (x ∷ filter (λ z. not (has after z.0)) xs) (filter (λ z. not (has after z.0)) xs)) ++ cond (has after e.0) []
        (keys e.1.senders)
    by true rest = rest
    by false rest = ap (λ zs. keys x.1.senders ++ zs) rest ∙ sym (grouped (keys x.1.senders) (names_gone after xs) (cond (has after e.0) [] (keys e.1.senders)))

set_append : (xs ys : List Sender) (s : Names) → with_keys s (xs ++ ys) ≡ with_keys (with_keys s xs) ys
set_append [] ys s = refl
set_append (x ∷ xs) ys s = set_append xs ys (with_key s x)

-- one more part
pub gone_more : (after : PartTable) (among : Names) (es : List (UnitOf × Part)) (i : ℕ) (e : UnitOf × Part) (gone : Bool) (names : Names) → i < length es → e ≡ get_or es i e
    → gone ≡ not (has after e.0) → names ≡ cut (set_of (names_gone after (take i es))) among
    → cond gone (union names (cut e.1.senders among)) names ≡ cut (set_of (names_gone after (take (i + 1) es))) among
gone_more after among es i e gone names lt is out so_far =
    ap (λ b. cond b (union names (cut e.1.senders among)) names) out ∙ ap (λ (n : Names). cond (not (has after e.0)) (union n (cut e.1.senders among)) n) so_far ∙ by (has after e.0)
    ∙ ap (λ zs. cut (set_of zs) among) (sym (gone_last after (take i es) e)) ∙ ap (λ zs. cut (set_of (names_gone after zs)) among) (sym (take_more es i e lt ∙ ap (λ z. take i es ++ z ∷ []) (sym is)))
  where
    old : List Sender
    old = names_gone after (take i es)

    by : (b : Bool) → cond (not b) (union (cut (set_of old) among) (cut e.1.senders among)) (cut (set_of old) among) ≡ cut (set_of (old ++ cond b [] (keys e.1.senders))) among
    by true = ap (λ zs. cut (set_of zs) among) (sym (no_more old))
    by false = sym (cut-union senders (set_of old) e.1.senders among) ∙ ap (λ (n : Names). cut n among) (sym (set_append old (keys e.1.senders) empty ∙ with_keys-union (set_of old) e.1.senders))

pub within_cut : (s t : Names) → IsWithin (cut s t) t
within_cut s t q h = (and_both (has s q) (has t q) (sym (has-cut senders s t q) ∙ h)).1

pub few_within : (names more among : Names) → IsWithin names among → size among ≤ 16 → size (union names (cut more among)) ≤ 16
few_within names more among within few =
    let less = size_within senders (union names (cut more among)) among (union_least names (cut more among) among within (within_cut more among)) in
    omega (arith, less, few)

module _ (ps : PartTable) where
  -- with a sender and the flow of its unit
  get-put_some : (x : Sender) (w : Option TokenBucket) (t : FlowTable) (q : Sender) → get (put_some x w t) q ≡ cond (eq_by_cmp senders.cmp q x) (cond (is_some w) w (get t q)) (get t q)
  get-put_some x None t q = same (eq_by_cmp senders.cmp q x)
    where
      same : (b : Bool) → get t q ≡ cond b (get t q) (get t q)
      same true = refl
      same false = refl
  get-put_some x (Some f) t q = get-put_in senders t x f q

  pub flows_more : (x : Sender) (t : FlowTable) → AreFlowsOf ps t → AreFlowsOf ps (put_some x (flow_at ps x) t)
  flows_more x t are q f at =
      let g = sym (get-put_some x (flow_at ps x) t q) ∙ at in
      either (eq_by_cmp senders.cmp q x)
      (λ tie. let is = tied_same senders q x tie in
      by (flow_at ps x) refl (ap (flow_at ps) is) (sym (ap (λ b. cond b (cond (is_some (flow_at ps x)) (flow_at ps x) (get t q)) (get t q)) tie) ∙ g))
      (λ apart. are q f (sym (ap (λ b. cond b (cond (is_some (flow_at ps x)) (flow_at ps x) (get t q)) (get t q)) apart) ∙ g))
    where
      by : (w : Option TokenBucket) → flow_at ps x ≡ w → flow_at ps q ≡ flow_at ps x → cond (is_some w) w (get t q) ≡ Some f → flow_at ps q ≡ Some f
      by None is same e = are q f e
      by (Some y) is same e = same ∙ is ∙ e

  pub none_yet : AreFlowsOf ps empty
  none_yet x f at = cc

  pub flows_after : (xs : List Sender) (t : FlowTable) → AreFlowsOf ps t → AreFlowsOf ps (flows_with ps t xs)
  flows_after [] t are = are
  flows_after (x ∷ xs) t are = flows_after xs (put_some x (flow_at ps x) t) (flows_more x t are)

  pub get-flows_with : (xs : List Sender) (t : FlowTable) → AreFlowsOf ps t → (q : Sender) → get (flows_with ps t xs) q ≡ cond (list_any (eq_by_cmp senders.cmp q) xs) (flow_at ps q) (get t q)
  get-flows_with [] t are q = refl
  get-flows_with (x ∷ xs) t are q =
      get-flows_with xs (put_some x (flow_at ps x) t) (flows_more x t are) q ∙ ap (cond (list_any (eq_by_cmp senders.cmp q) xs) (flow_at ps q)) (get-put_some x (flow_at ps x) t q)
      ∙ either (eq_by_cmp senders.cmp q x)
      (λ tie. by_tie (list_any (eq_by_cmp senders.cmp q) xs) (eq_by_cmp senders.cmp q x) tie (flow_at ps x) refl (ap (flow_at ps) (tied_same senders q x tie)) (get t q) refl)
      (λ apart. by_apart (list_any (eq_by_cmp senders.cmp q) xs) (eq_by_cmp senders.cmp q x) apart)
    where
      by_apart : (b c : Bool) → c ≡ false → cond b (flow_at ps q) (cond c (cond (is_some (flow_at ps x)) (flow_at ps x) (get t q)) (get t q)) ≡ cond (c || b) (flow_at ps q) (get t q)
      by_apart b true e = absurd (cc)
      by_apart b false e = refl

      by_tie : (b c : Bool) → c ≡ true → (w : Option TokenBucket) → flow_at ps x ≡ w → flow_at ps q ≡ flow_at ps x → (v : Option TokenBucket) → get t q ≡ v
          → cond b (flow_at ps q) (cond c (cond (is_some (flow_at ps x)) (flow_at ps x) (get t q)) (get t q)) ≡ cond (c || b) (flow_at ps q) (get t q)
      by_tie b false e w is same v at = absurd (cc)
      by_tie true true e w is same v at = refl
      by_tie false true e (Some y) is same v at = ap (λ z. cond (is_some z) z (get t q)) is ∙ sym is ∙ sym same
      by_tie false true e None is same None at = ap (λ z. cond (is_some z) z (get t q)) is ∙ at ∙ sym is ∙ sym same
      by_tie false true e None is same (Some g) at = let z : None ≡ Some g = sym (same ∙ is) ∙ are q g at in absurd (cc)

  pub flows_append : (xs ys : List Sender) (t : FlowTable) → flows_with ps t (xs ++ ys) ≡ flows_with ps (flows_with ps t xs) ys
  flows_append [] ys t = refl
  flows_append (x ∷ xs) ys t = flows_append xs ys (put_some x (flow_at ps x) t)

  -- all of them
  pub flows_are : flows_with ps empty (flat_map (λ part. keys part.senders) (values ps)) ≡ flows_by_sender ps
  flows_are =
      let xs = flat_map (λ (part : Part). keys part.senders) (values ps) in
      same_table senders _ _ (λ q. get-flows_with xs empty none_yet q ∙ sym (get-table_at senders (flow_at ps) xs q))

  -- ---- as many senders as there are units of a sender, at most
  abbrev as_unit : Sender × TokenBucket → UnitOf × TokenBucket
  as_unit e = (Of e.0, e.1)

  below_units : (x : Sender) (es : List (Sender × TokenBucket)) → T (below_all senders.cmp x es) → T (below_all units.cmp (Of x) (each as_unit es))
  below_units x [] h = tt
  below_units x (e ∷ es) h = both _ _ (first _ _ h) (below_units x es (second _ _ h))

  sorted_units : (es : List (Sender × TokenBucket)) → T (is_sorted senders.cmp es) → T (is_sorted units.cmp (each as_unit es))
  sorted_units [] h = tt
  sorted_units (e ∷ es) h = both _ _ (below_units e.0 es (first _ _ h)) (sorted_units es (second _ _ h))

  pub flows_few : (t : FlowTable) → AreFlowsOf ps t → size t ≤ size ps
  flows_few t are =
      let few = size_below units us ps (λ u h. there u (got u h)) in
      omega (arith, few, length-map t.rows as_unit)
    where
      us : Table units TokenBucket
      us = record { rows = each as_unit t.rows; sorted = sorted_units t.rows t.sorted }

      got : (u : UnitOf) → has us u ≡ true → (f : TokenBucket) × (get us u ≡ Some f)
      got u h = by (get us u) refl h
        where
          by : (w : Option TokenBucket) → get us u ≡ w → is_some w ≡ true → (f : TokenBucket) × (get us u ≡ Some f)
          by None at e = cc
          by (Some f) at e = (f, at)

      has_unit : (x : Sender) (f : TokenBucket) → flow_at ps x ≡ Some f → has ps (Of x) ≡ true
      has_unit x f at = by (get ps (Of x)) refl at
        where
          by : (w : Option Part) → get ps (Of x) ≡ w → flow_at ps x ≡ Some f → has ps (Of x) ≡ true
          by None is e = let none : ◌≡◌ {A = Option TokenBucket} None (Some f) = sym (ap (option_map (λ (part : Part). part.flow)) is) ∙ e in absurd (cc)
          by (Some p) is e = ap is_some is

      there : (u : UnitOf) → (f : TokenBucket) × (get us u ≡ Some f) → has ps u ≡ true
      there u g =
          let r = in_each as_unit (u, g.0) t.rows (found_in units us u g.0 g.1) in
          let unit : u ≡ Of r.0.0 = ap (λ e. e.0) r.2 in
          ap (has ps) unit ∙ has_unit r.0.0 r.0.1 (are r.0.0 r.0.1 (in_found senders t r.0.0 r.0.1 r.1))

-- nothing was found exactly where a look-up has nothing
pub none_copied : {A : Type 0} (r : Option (Bor A)) (w : Option A) → option_copied r ≡ w → not (is_some r) ≡ not (is_some w)
none_copied None w e = ap (λ z. not (is_some z)) e
none_copied (Some a) w e = ap (λ z. not (is_some z)) e

pub flipped : (a b : Bool) → a ≡ not b → b ≡ not a
flipped a true e = sym (ap not e)
flipped a false e = sym (ap not e)
