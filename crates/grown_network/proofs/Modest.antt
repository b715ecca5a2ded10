-- The demands of a network of which little is asked fit.
use Rattle.std.proofs.Common.{◌≡◌, ℕ, ◌*◌, ◌≤◌, zero, suc, Bool, true, false, cond, List, [], ◌∷◌, ◌++◌, length, Option, None, Some, refl, sym, ap, subst, ◌∙◌, inl, inr, ⊎_elim, arith, length-append}
use Rattle.std.specs.Prelude.{map as each, is_some, not, ◌==◌, sum_by}
use Rattle.std.specs.Ordering.{eq_by_cmp}
use Rattle.std.specs.List.{filter, flat_map}
use Rattle.std.proofs.lemmas.List.{length-map}
use Rattle.std.proofs.lemmas.List.Sums.{sum_by-cons}
use Rattle.rsvp_base.specs.Members.{In}
use Rattle.rsvp_base.specs.Orders.{Names, entry_keys, senders, sessions, styles, units}
use Rattle.rsvp_base.specs.Sets.{is_none, set_of}
use Rattle.rsvp_base.specs.Styles.{name_of, part_unit, unit_of_first}
use Rattle.rsvp_base.specs.Table.{empty, get, has, keys, size, values}
use Rattle.rsvp_base.specs.TokenBucket.{TokenBucket}
use Rattle.rsvp_base.specs.declared.addr.Addr.{Addr}
use Rattle.rsvp_base.specs.declared.entry_key.EntryKey.{EntryKey}
use Rattle.rsvp_base.specs.declared.part.Part.{Part}
use Rattle.rsvp_base.specs.declared.session.Sender.{Sender}
use Rattle.rsvp_base.specs.declared.session.Session.{Session}
use Rattle.rsvp_base.specs.declared.style.StyleKind.{StyleKind}
use Rattle.rsvp_base.specs.declared.style.StyleKind.TheVariants.{Wild, Fixed, Shared}
use Rattle.rsvp_base.specs.declared.style.Unit.{Unit as UnitOf}
use Rattle.rsvp_base.specs.declared.style.Unit.TheVariants.{Of, One}
use Rattle.rsvp_base.proofs.Counts.{in_found, in_set_of, set_below, size-set_of, size_below}
use Rattle.rsvp_base.proofs.Members.{in_append, in_each, in_filter, in_flat_map, to_each}
use Rattle.rsvp_base.proofs.Tables.{tied_same}
use Rattle.style_rules.specs.CutLaws.{made_of}
use Rattle.style_rules.specs.Limits.{IsWithinLimits, line_keys_of, names_of, next_hops_of, of_session, of_style, sessions_of}
use Rattle.style_rules.specs.Lines.{Line, at_end, entry_key, held, line_key, line_keys, next_hop, next_hops}
use Rattle.style_rules.specs.Merge.{PartTable}
use Rattle.style_rules.specs.Parts.{has_name, part_charge, part_cut, part_join, part_of}
use Rattle.style_rules.proofs.Merges.{merge_keeps, merge_named, merge_source}
use Rattle.style_rules.proofs.StyleLaws.{a_name, in_named}
use Rattle.tree_model.specs.Fuel.{by_fuel}
use Rattle.tree_model.specs.Goals.{DemandsFit, addr_of, demand_of, goal, hop_lines, hops_in_order, sessions_named}
use Rattle.tree_model.specs.Networks.{Net, node_of}
use Rattle.tree_model.specs.Ranks.{followers, rank}
use Rattle.tree_model.specs.Trees.{goes_out_of, hops_of}
use Rattle.tree_model.specs.Wants.{Locals, as_list, brought, is_wanted_at, live, names, own, want, want_from, wanted_of}
use Rattle.tree_model.specs.declared.hops.LinkHop.{LinkHop}
use Rattle.tree_model.specs.declared.locals.LocalSender.{LocalSender}
use Rattle.tree_model.specs.declared.locals.LocalWant.{LocalWant}
use Rattle.tree_model.proofs.WantLaws.{a_fixed_unit_is_its_name, in_as_list, name_told, want_names}
use Rattle.grown_network.specs.Modest.{IsModest, IsSmallFlow}

-- ---- lists
flat_few : {A B : Type 0} (k : ℕ) (f : A → List B) (xs : List A) → ((x : A) → length (f x) ≤ k) → length (flat_map f xs) ≤ k * length xs
flat_few k f [] few = omega arith
flat_few k f (x ∷ xs) few =
    let rest = flat_few k f xs few in
    let here = few x in
    let size = length-append (f x) (flat_map f xs) in
    omega (arith, rest, here, size)

sum_few : {A : Type 0} (k : ℕ) (w : A → ℕ) (xs : List A) → ((x : A) → In x xs → w x ≤ k) → sum_by w xs ≤ k * length xs
sum_few k w [] few = omega arith
sum_few k w (x ∷ xs) few =
    let rest = sum_few k w xs (λ y i. few y (inr i)) in
    let here = few x (inl refl) in
    let sum = sum_by-cons w x xs in
    omega (arith, rest, here, sum)

pub shorter : {A : Type 0} (p : A → Bool) (xs : List A) → length (filter p xs) ≤ length xs
shorter p [] = omega arith
shorter {A} p (x ∷ xs) = by (p x) (shorter p xs)
  where
    by : (b : Bool) → length (filter p xs) ≤ length xs → length (cond b (x ∷ filter p xs) (filter p xs)) ≤ suc (length xs)
    by true le = omega (arith, le)
    by false le = omega (arith, le)

pub some_of : {A : Type 0} (o : Option A) → is_some o ≡ true → (x : A) × (o ≡ Some x)
some_of None t = absurd (cc)
some_of (Some x) t = (x, refl)

-- ---- flows
abbrev Small : Part → Type 0
Small p = IsSmallFlow p.flow

join_small : (a b : Part) → Small a → Small b → Small (part_join a b)
join_small a b s t = let r = s.rate in let m = s.most in let r' = t.rate in let m' = t.most in record { rate = omega (arith, r, r'); most = omega (arith, m, m') }

part_of_small : (ns : Names) (f : TokenBucket) (q : Part) → IsSmallFlow f → part_of ns f ≡ Some q → Small q
part_of_small ns f q small e = subst IsSmallFlow (sym (made_of ns f q e).flow) small

module _ (st : StyleKind) (net : Net) (l : Locals) (s : Session) (small : (w : LocalWant) → In w l.wants → Small w.part) where
  wanted_small : (k : StyleKind) (ns : Names) (p q : Part) → Small p → wanted_of k ns p ≡ Some q → Small q
  wanted_small Wild ns p q h e = part_of_small ns p.flow q h e
  wanted_small Fixed ns p q h e = part_of_small _ p.flow q h e
  wanted_small Shared ns p q h e = part_of_small _ p.flow q h e

  -- what comes together at a hop
  parts_small : (h : LinkHop) (f : LinkHop → PartTable) → ((y : LinkHop) (p : Part) → In p (values (f y)) → Small p) → (q : Part)
      → In q (own st net l s h ++ flat_map (brought st net l s h f) (followers net s.group h)) → Small q
  parts_small h f known q i =
      ⊎_elim
      (λ (j : In q (own st net l s h)).
      let w = in_flat_map (λ w. as_list (wanted_of st (names st net l s (h ∷ [])) w.part)) q (filter (is_wanted_at st s (node_of net.ends h.to)) l.wants) j in
      let there = in_filter (is_wanted_at st s (node_of net.ends h.to)) w.0 l.wants w.1 in
      wanted_small st (names st net l s (h ∷ [])) w.0.part q (small w.0 there.0) (in_as_list (wanted_of st (names st net l s (h ∷ [])) w.0.part) q w.2))
      (λ (j : In q (flat_map (brought st net l s h f) (followers net s.group h))).
      let y = in_flat_map (brought st net l s h f) q (followers net s.group h) j in
      let p = in_flat_map (λ p. as_list (part_cut p (names st net l s (h ∷ y.0 ∷ [])))) q (values (f y.0)) y.2 in
      part_of_small _ p.0.flow q (known y.0 p.0 p.1) (in_as_list (part_cut p.0 (names st net l s (h ∷ y.0 ∷ []))) q p.2))
      (in_append q (own st net l s h) (flat_map (brought st net l s h f) (followers net s.group h)) i)

  value_of : (t : PartTable) (p : Part) → In p (values t) → (u : UnitOf) × (get t u ≡ Some p)
  value_of t p i =
      let e = in_each (λ (e : UnitOf × Part). e.1) p t.rows i in
      (e.0.0, in_found units t e.0.0 p (subst (λ (z : Part). In (e.0.0, z) t.rows) (sym e.2) e.1))

  fuel_small : (n : ℕ) (h : LinkHop) (u : UnitOf) (p : Part) → get (by_fuel (want_from st net l s) empty n h) u ≡ Some p → Small p
  fuel_small zero h u p e = cc
  fuel_small (suc n) h u p e =
      merge_keeps units (part_unit st) (λ p. p) Small join_small (own st net l s h ++ flat_map (brought st net l s h (λ y. by_fuel (want_from st net l s) empty n y)) (followers net s.group h)) u p e
      (λ q i named unit. parts_small h (λ y. by_fuel (want_from st net l s) empty n y) (λ y r j. let v = value_of (by_fuel (want_from st net l s) empty n y) r j in fuel_small n y v.0 r v.1) q i)

  pub want_small : (h : LinkHop) (u : UnitOf) (p : Part) → get (want st net l s h) u ≡ Some p → Small p
  unfolding want
  want_small h u p e = fuel_small (rank net s.group h) h u p e

-- ---- how many parts are wanted over a hop
one_unit : (st : StyleKind) (p : Part) → (st ≡ Fixed → ⊥) → part_unit st p ≡ One
one_unit Wild p other = by (keys p.senders)
  where
    by : (ks : List Sender) → unit_of_first Wild ks ≡ One
    by [] = refl
    by (k ∷ ks) = refl
one_unit Fixed p other = absurd (other refl)
one_unit Shared p other = by (keys p.senders)
  where
    by : (ks : List Sender) → unit_of_first Shared ks ≡ One
    by [] = refl
    by (k ∷ ks) = refl

few_live : (l : Locals) (s : Session) → length l.senders ≤ 12 → length (live l s) ≤ 12
few_live l s few =
    let a = length-map (filter (λ (x : LocalSender). eq_by_cmp sessions.cmp s x.session) l.senders) (λ (x : LocalSender). x.sender) in
    let b = shorter (λ (x : LocalSender). eq_by_cmp sessions.cmp s x.session) l.senders in
    omega (arith, a, b, few)

module _ (net : Net) (l : Locals) (modest : IsModest net l) where
  -- a unit that is not of a sender
  fuel_unit : (st : StyleKind) (s : Session) (n : ℕ) (h : LinkHop) (u : UnitOf) (p : Part) → get (by_fuel (want_from st net l s) empty n h) u ≡ Some p
      → (has_name p ≡ true) × ((st ≡ Fixed → ⊥) → u ≡ One)
  fuel_unit st s zero h u p e = cc
  fuel_unit st s (suc n) h u p e =
      let ps : List Part = own st net l s h ++ flat_map (brought st net l s h (λ y. by_fuel (want_from st net l s) empty n y)) (followers net s.group h) in
      let from = merge_source units (part_unit st) (λ p. p) ps u p e in
      (merge_named units (part_unit st) (λ p. p) ps u p e, λ other. from.3 ∙ one_unit st from.0 other)

  unit_of : (st : StyleKind) (s : Session) (h : LinkHop) (u : UnitOf) (p : Part) → get (want st net l s h) u ≡ Some p → (has_name p ≡ true) × ((st ≡ Fixed → ⊥) → u ≡ One)
  unfolding want
  unit_of st s h u p e = fuel_unit st s (rank net s.group h) h u p e

  -- the units that there may be
  abbrev may_be : StyleKind → Session → List UnitOf
  may_be st s = One ∷ each Of (each (name_of st) (live l s))

  name_there : (st : StyleKind) (s : Session) (h : LinkHop) (u : UnitOf) (p : Part) (x : Sender) → get (want st net l s h) u ≡ Some p → has p.senders x ≡ true → In x (each (name_of st) (live l s))
  name_there st s h u p x e t =
      let a = name_told st net l s (h ∷ []) x (want_names st net l s h u p e x t) in
      subst (λ (y : Sender). In y (each (name_of st) (live l s))) (sym a.3) (to_each (name_of st) a.0 (live l s) a.1)

  unit_there : (st : StyleKind) (s : Session) (h : LinkHop) (u : UnitOf) (p : Part) → get (want st net l s h) u ≡ Some p → In u (may_be st s)
  unit_there Wild s h u p e = inl ((unit_of Wild s h u p e).1 (λ same. absurd (cc)))
  unit_there Fixed s h u p e =
      let x = a_name p.senders (named (is_none p.senders) (unit_of Fixed s h u p e).0) in
      let is = (a_fixed_unit_is_its_name net l s modest.one_sender h u p e).1 x.0 x.1 in
      inr (subst (λ (v : UnitOf). In v (each Of (each (name_of Fixed) (live l s)))) (sym is) (to_each Of x.0 (each (name_of Fixed) (live l s)) (name_there Fixed s h u p x.0 e x.1)))
    where
      named : (b : Bool) → not b ≡ true → b ≡ false
      named true e = cc
      named false e = refl
  unit_there Shared s h u p e = inl ((unit_of Shared s h u p e).1 (λ same. absurd (cc)))

  few_rows : (st : StyleKind) (s : Session) (h : LinkHop) → length (want st net l s h).rows ≤ 13
  few_rows st s h =
      let a = size_below units (want st net l s h) (set_of (may_be st s)) (λ u t. let p = some_of (get (want st net l s h) u) t in in_set_of units (may_be st s) u (unit_there st s h u p.0 p.1)) in
      let b = size-set_of units (may_be st s) in
      let c = length-map (each (name_of st) (live l s)) Of in
      let d = length-map (live l s) (name_of st) in
      let e = few_live l s modest.few_senders in
      omega (arith, a, b, c, d, e)

  -- ---- the goal of a node
  -- the hops of a group that go out of it
  abbrev out_of : ℕ → Session → List LinkHop
  out_of n s = filter (goes_out_of net.ends n) (hops_in_order (hops_of net.hops s.group))

  few_lines_of : (st : StyleKind) (s : Session) (h : LinkHop) → length (hop_lines st net l s h) ≤ 13
  few_lines_of st s h =
      let a = few_rows st s h in
      let b = length-map {B = Line} (want st net l s h).rows (λ (e : UnitOf × Part). record { style = st; session = s; end = h.from; next = addr_of net h.to; unit = e.0; part = e.1 }) in
      omega (arith, a, b)

  named_few : length (sessions_named l) ≤ 3
  named_few =
      let a = set_below sessions (flat_map (λ (w : LocalWant). w.session ∷ []) l.wants) modest.sessions
      (λ s i.
      let w = in_flat_map (λ (w : LocalWant). w.session ∷ []) s l.wants i in
      ⊎_elim (λ (e : s ≡ w.0.session). subst (λ (z : Session). In z modest.sessions) (sym e) (modest.of_them w.0 w.1)) (λ (none : ⊥). absurd none) w.2) in
      let b = size-set_of sessions modest.sessions in
      let c = length-map (set_of {o = sessions} (flat_map (λ (w : LocalWant). w.session ∷ []) l.wants)).rows (λ (e : Session × Unit {0}). e.0) in
      let few = modest.few_sessions in
      omega (arith, a, b, c, few)

  few_of_session : (st : StyleKind) (n : ℕ) (s : Session) → length (flat_map (hop_lines st net l s) (out_of n s)) ≤ 39
  few_of_session st n s =
      let a = flat_few 13 (hop_lines st net l s) (out_of n s) (few_lines_of st s) in
      let b = modest.few_hops n s.group in
      omega (arith, a, b)

  few_of_style : (n : ℕ) (st : StyleKind) → length (flat_map (λ s. flat_map (hop_lines st net l s) (out_of n s)) (sessions_named l)) ≤ 117
  few_of_style n st =
      let a = flat_few 39 (λ s. flat_map (hop_lines st net l s) (out_of n s)) (sessions_named l) (few_of_session st n) in
      let b = named_few in
      omega (arith, a, b)

  few_lines : (n : ℕ) → length (goal net l n) ≤ 351
  few_lines n = let a = flat_few 117 (λ st. flat_map (λ s. flat_map (hop_lines st net l s) (out_of n s)) (sessions_named l)) (Wild ∷ Fixed ∷ Shared ∷ []) (few_of_style n) in omega (arith, a)

  -- what a line of it is
  record IsOfGoal (n : ℕ) (x : Line) : Type 0 where
    pub style : StyleKind
    pub session : Session
    pub named : In session (sessions_named l)
    pub hop : LinkHop
    pub out : In hop (out_of n session)
    pub unit : UnitOf
    pub part : Part
    pub there : get (want style net l session hop) unit ≡ Some part
    pub is : x ≡ record { style = style; session = session; end = hop.from; next = addr_of net hop.to; unit = unit; part = part }

  of_goal : (n : ℕ) (x : Line) → In x (goal net l n) → IsOfGoal n x
  of_goal n x i =
      let st = in_flat_map (λ st. flat_map (λ s. flat_map (hop_lines st net l s) (out_of n s)) (sessions_named l)) x (Wild ∷ Fixed ∷ Shared ∷ []) i in
      let s = in_flat_map (λ s. flat_map (hop_lines st.0 net l s) (out_of n s)) x (sessions_named l) st.2 in
      let h = in_flat_map (hop_lines st.0 net l s.0) x (out_of n s.0) s.2 in
      let e = in_each (λ (e : UnitOf × Part). record { style = st.0; session = s.0; end = h.0.from; next = addr_of net h.0.to; unit = e.0; part = e.1 }) x (want st.0 net l s.0 h.0).rows h.2 in
      record { style = st.0; session = s.0; named = s.1; hop = h.0; out = h.1; unit = e.0.0; part = e.0.1; there = in_found units (want st.0 net l s.0 h.0) e.0.0 e.0.1 e.1; is = e.2 }

  small_line : (n : ℕ) (x : Line) → In x (goal net l n) → Small x.part
  small_line n x i =
      let o = of_goal n x i in
      subst (λ (y : Line). Small y.part) (sym o.is) (want_small o.style net l o.session modest.small o.hop o.unit o.part o.there)

  -- ---- its limits
  module _ (n : ℕ) (st : StyleKind) where
    lines : size (line_keys_of (of_style st (goal net l n))) ≤ 1024
    lines =
        let a = size-set_of line_keys (each line_key (of_style st (goal net l n))) in
        let b = length-map (of_style st (goal net l n)) line_key in
        let c = shorter (λ (x : Line). eq_by_cmp styles.cmp st x.style) (goal net l n) in
        let d = few_lines n in
        omega (arith, a, b, c, d)

    in_goal : (x : Line) → In x (of_style st (goal net l n)) → In x (goal net l n) × (x.style ≡ st)
    in_goal x i = let f = in_filter (λ (y : Line). eq_by_cmp styles.cmp st y.style) x (goal net l n) i in (f.0, sym (tied_same styles st x.style f.1))

    in_session : (s : Session) (x : Line) → In x (of_session s (of_style st (goal net l n))) → In x (goal net l n) × (x.style ≡ st) × (x.session ≡ s)
    in_session s x i =
        let f = in_filter (λ (y : Line). eq_by_cmp sessions.cmp s y.session) x (of_style st (goal net l n)) i in
        let g = in_goal x f.0 in
        (g.0, g.1, sym (tied_same sessions s x.session f.1))

    few_sessions : size (sessions_of (of_style st (goal net l n))) ≤ 32
    few_sessions =
        let a = set_below sessions (each (λ (x : Line). x.session) (of_style st (goal net l n))) (sessions_named l)
        (λ s i.
        let x = in_each (λ (x : Line). x.session) s (of_style st (goal net l n)) i in
        let o = of_goal n x.0 (in_goal x.0 x.1).0 in
        subst (λ (z : Session). In z (sessions_named l)) (sym (x.2 ∙ ap (λ (y : Line). y.session) o.is)) o.named) in
        let b = size-set_of sessions (sessions_named l) in
        let c = named_few in
        omega (arith, a, b, c)

    few_hops : (s : Session) → size (next_hops_of (of_session s (of_style st (goal net l n)))) ≤ 64
    few_hops s =
        let mine : List (ℕ × Addr) = each (λ (h : LinkHop). (h.from, addr_of net h.to)) (out_of n s) in
        let a = set_below next_hops (each next_hop (of_session s (of_style st (goal net l n)))) mine
        (λ k i.
        let x = in_each next_hop k (of_session s (of_style st (goal net l n))) i in
        let g = in_session s x.0 x.1 in
        let o = of_goal n x.0 g.0 in
        let same : o.session ≡ s = sym (ap (λ (y : Line). y.session) o.is) ∙ g.2 in
        subst (λ (z : ℕ × Addr). In z mine) (sym (x.2 ∙ ap next_hop o.is)) (to_each (λ (h : LinkHop). (h.from, addr_of net h.to)) o.hop (out_of n s)
        (subst (λ (z : Session). In o.hop (out_of n z)) same o.out))) in
        let b = size-set_of next_hops mine in
        let c = length-map {B = ℕ × Addr} (out_of n s) (λ (h : LinkHop). (h.from, addr_of net h.to)) in
        let d = modest.few_hops n s.group in
        omega (arith, a, b, c, d)

    few_names : (s : Session) → size (names_of (of_session s (of_style st (goal net l n)))) ≤ 16
    few_names s =
        let mine : List Sender = each (name_of st) (live l s) in
        let a = set_below senders (flat_map (λ (x : Line). keys x.part.senders) (of_session s (of_style st (goal net l n)))) mine
        (λ y i.
        let x = in_flat_map (λ (x : Line). keys x.part.senders) y (of_session s (of_style st (goal net l n))) i in
        let g = in_session s x.0 x.1 in
        let o = of_goal n x.0 g.0 in
        let session : o.session ≡ s = sym (ap (λ (z : Line). z.session) o.is) ∙ g.2 in
        let style : o.style ≡ st = sym (ap (λ (z : Line). z.style) o.is) ∙ g.1 in
        let there : In y (keys o.part.senders) = subst (λ (z : Line). In y (keys z.part.senders)) o.is x.2 in
        subst (λ (z : StyleKind). In y (each (name_of z) (live l s))) style (subst (λ (z : Session). In y (each (name_of o.style) (live l z))) session
        (name_there o.style o.session o.hop o.unit o.part y o.there (in_named o.part y there)))) in
        let b = size-set_of senders mine in
        let c = length-map (live l s) (name_of st) in
        let d = few_live l s modest.few_senders in
        omega (arith, a, b, c, d)

    limits : IsWithinLimits st (goal net l n)
    limits = record { lines = lines; sessions = few_sessions; next_hops = few_hops; names = few_names }

  -- ---- what an end has to carry
  module _ (e : ℕ) where
    abbrev mine : List Line
    mine = at_end e (goal net l (node_of net.ends e))

    small_entry : (k : EntryKey) (p : Part) → get (demand_of net l e) k ≡ Some p → Small p
    small_entry k p got =
        merge_keeps entry_keys entry_key (λ (x : Line). x.part) Small join_small mine k p got
        (λ x i named at. small_line (node_of net.ends e) x (in_filter (λ (y : Line). y.end == e) x (goal net l (node_of net.ends e)) i).0)

    few_entries : length (demand_of net l e).rows ≤ 351
    few_entries =
        let a = size_below entry_keys (demand_of net l e) (set_of (each entry_key mine))
        (λ k t.
        let p = some_of (get (demand_of net l e) k) t in
        let from = merge_source entry_keys entry_key (λ (x : Line). x.part) mine k p.0 p.1 in
        in_set_of entry_keys (each entry_key mine) k (subst (λ (z : EntryKey). In z (each entry_key mine)) (sym from.3) (to_each entry_key from.0 mine from.1))) in
        let b = size-set_of entry_keys (each entry_key mine) in
        let c = length-map mine entry_key in
        let d = shorter (λ (x : Line). x.end == e) (goal net l (node_of net.ends e)) in
        let f = few_lines (node_of net.ends e) in
        omega (arith, a, b, c, d, f)

    light : held (demand_of net l e) ≤ 16000000
    light =
        let a = sum_few 16000 (λ (r : EntryKey × Part). part_charge r.1) (demand_of net l e).rows (λ r i. (small_entry r.0 r.1 (in_found entry_keys (demand_of net l e) r.0 r.1 i)).rate) in
        let b = few_entries in
        omega (arith, a, b)

pub fits : (net : Net) (l : Locals) → IsModest net l → DemandsFit net l
fits net l modest = record {
  capacity = λ e x at. let a = light net l modest e in let b = modest.wide e x at in omega (arith, a, b);
  mtu = λ e x k p at got. let a = (small_entry net l modest e k p got).most in let b = modest.mtu e x at in omega (arith, a, b);
  one_style = modest.one_style;
  limits = limits net l modest;
}
