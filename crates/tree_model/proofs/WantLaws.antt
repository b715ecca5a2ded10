-- The want of a hop by its equation; its names; lines under the goal.
use Rattle.std.specs.Prelude.{◌≡◌, ℕ, ◌<◌, true, List, [], ◌∷◌, ◌++◌, map as each, Option, None, Some, refl}
use Rattle.std.specs.List.{filter, flat_map}
use Rattle.std.specs.FinMap.Entries.{where_key}
use Rattle.std.proofs.Common.{zero, suc, eqb, length, sym, ap, subst, ◌∙◌, inl, inr, ⊎_elim, arith}
use Rattle.rsvp_base.specs.Members.{In}
use Rattle.rsvp_base.specs.declared.addr.Addr.{Addr}
use Rattle.rsvp_base.specs.declared.part.Part.{Part}
use Rattle.rsvp_base.specs.declared.session.Session.{Session}
use Rattle.rsvp_base.specs.declared.session.Sender.{Sender}
use Rattle.rsvp_base.specs.declared.style.StyleKind.{StyleKind}
use Rattle.rsvp_base.specs.declared.style.StyleKind.TheVariants.{Wild, Fixed, Shared}
use Rattle.rsvp_base.specs.declared.style.Unit.{Unit as UnitOf}
use Rattle.rsvp_base.specs.declared.style.Unit.TheVariants.{Of}
use Rattle.rsvp_base.specs.Orders.{Names, senders, styles, units}
use Rattle.rsvp_base.specs.Sets.{set_of, cut, IsWithin, is_none}
use Rattle.rsvp_base.specs.Table.{empty, get, has, size, values}
use Rattle.rsvp_base.proofs.Counts.{in_found, in_set_of, set_of_in}
use Rattle.rsvp_base.proofs.Tables.{tied_same}
use Rattle.rsvp_base.proofs.Members.{in_each, to_each, in_filter, to_filter, in_flat_map, in_append, all_in, in_all}
use Rattle.rsvp_base.proofs.SetLaws.{and_both, has-cut}
use Rattle.rsvp_base.specs.Styles.{name_of, part_unit}
use Rattle.style_rules.specs.Parts.{part_cut, IsOfStyle}
use Rattle.style_rules.specs.PartLaws.{union_least, most_below}
use Rattle.style_rules.specs.CutLaws.{made_of, cut_senders, part_of_none}
use Rattle.style_rules.specs.Merge.{merge, PartTable}
use Rattle.style_rules.specs.Lines.{at_end}
use Rattle.style_rules.proofs.Merges.{merge_keeps}
use Rattle.style_rules.proofs.Books.{under_at_end, book_below, held_at_end_below}
use Rattle.style_rules.proofs.Claims.{merge_keeps_the_style}
use Rattle.style_rules.proofs.StyleLaws.{cut_of_style, fixed_parts, unit_of_names}
use Rattle.style_rules.proofs.Room.{within_below}
use Rattle.tree_model.specs.declared.hops.LinkHop.{LinkHop}
use Rattle.tree_model.specs.Networks.{Net, node_of}
use Rattle.tree_model.specs.Trees.{tree, hops_of}
use Rattle.tree_model.specs.Ranks.{has_hop, followers, rank, IsLoopFree}
use Rattle.tree_model.proofs.Following.{has_hop_in, in_has_hop, tree_group, follower_follows, follower_of_group}
use Rattle.tree_model.proofs.RankLaws.{rank_some, rank_falls_at}
use Rattle.tree_model.specs.Fuel.{by_fuel}
use Rattle.tree_model.specs.declared.locals.LocalWant.{LocalWant}
use Rattle.tree_model.specs.Wants.{Locals, live, goes_over, names, as_list, wanted_of, is_wanted_at, own, brought, want_from, want}
use Rattle.tree_model.specs.Goals.{goal, DemandsFit}
use Rattle.tree_model.specs.DemandLaws.{WantEquation, WantNames, AFixedUnitIsItsName, CommonNameMakesAFollower, FitBoundsTheGoal}
use Rattle.tree_model.proofs.FuelLaws.{equation, alone}

-- ---- lists
none_in : {A : Type 0} (xs : List A) → ((x : A) → In x xs → ⊥) → xs ≡ []
none_in [] none = refl
none_in (x ∷ xs) none = absurd (none x (inl refl))

flat_same : {A B : Type 0} (f g : A → List B) (xs : List A) → ((x : A) → In x xs → f x ≡ g x) → flat_map f xs ≡ flat_map g xs
flat_same f g [] e = refl
flat_same f g (x ∷ xs) e = λ i. e x (inl refl) i ++ flat_same f g xs (λ y j. e y (inr j)) i

flat_none : {A B : Type 0} (f : A → List B) (xs : List A) → ((x : A) → f x ≡ []) → flat_map f xs ≡ []
flat_none f [] e = refl
flat_none {A} {B} f (x ∷ xs) e = ap (λ (ys : List B). ys ++ flat_map f xs) (e x) ∙ flat_none f xs e

pub in_as_list : (o : Option Part) (p : Part) → In p (as_list o) → o ≡ Some p
in_as_list None p i = absurd i
in_as_list (Some q) p i = ⊎_elim (λ (e : p ≡ q). ap Some (sym e)) (λ (j : ⊥). absurd j) i

abbrev nobody : Names
nobody = empty

-- ---- names
module _ (st : StyleKind) (net : Net) (l : Locals) (s : Session) where
  -- a name stands for a live sender whose tree has the hops
  pub name_told : (hs : List LinkHop) (x : Sender) → has (names st net l s hs) x ≡ true → (a : Sender) × In a (live l s) × (goes_over net s hs a ≡ true) × (x ≡ name_of st a)
  name_told hs x e =
      let i = set_of_in senders (each (name_of st) (filter (goes_over net s hs) (live l s))) x e in
      let a = in_each (name_of st) x (filter (goes_over net s hs) (live l s)) i in
      let f = in_filter (goes_over net s hs) a.0 (live l s) a.1 in
      (a.0, f.0, f.1, a.2)

  pub name_made : (hs : List LinkHop) (a : Sender) → In a (live l s) → goes_over net s hs a ≡ true → has (names st net l s hs) (name_of st a) ≡ true
  name_made hs a i t = in_set_of senders (each (name_of st) (filter (goes_over net s hs) (live l s))) (name_of st a)
      (to_each (name_of st) a (filter (goes_over net s hs) (live l s)) (to_filter (goes_over net s hs) a (live l s) i t))

  over_in : (hs : List LinkHop) (a : Sender) → goes_over net s hs a ≡ true → (h : LinkHop) → In h hs → In h (tree net.hops s.group a.addr)
  over_in hs a t h i = has_hop_in (tree net.hops s.group a.addr) h (all_in (has_hop (tree net.hops s.group a.addr)) hs t h i)

  in_over : (hs : List LinkHop) (a : Sender) → ((h : LinkHop) → In h hs → In h (tree net.hops s.group a.addr)) → goes_over net s hs a ≡ true
  in_over hs a f = in_all (has_hop (tree net.hops s.group a.addr)) hs (λ h i. in_has_hop (tree net.hops s.group a.addr) h (f h i))

  -- names over more hops are fewer
  pub both_one : (h h' : LinkHop) → IsWithin (names st net l s (h ∷ h' ∷ [])) (names st net l s (h ∷ []))
  both_one h h' x e =
      let a = name_told (h ∷ h' ∷ []) x e in
      let over = in_over (h ∷ []) a.0 (λ y i. over_in (h ∷ h' ∷ []) a.0 a.2 y (⊎_elim (λ (q : y ≡ h). inl q) (λ (j : ⊥). absurd j) i)) in
      subst (λ (y : Sender). has (names st net l s (h ∷ [])) y ≡ true) (sym a.3) (name_made (h ∷ []) a.0 a.1 over)

  -- what is no hop of the group has no names
  no_names : (h : LinkHop) → (In h (hops_of net.hops s.group) → ⊥) → names st net l s (h ∷ []) ≡ empty
  no_names h off =
      ap (λ (xs : List Sender). set_of {o = senders} (each (name_of st) xs))
      (none_in (filter (goes_over net s (h ∷ [])) (live l s))
      (λ a i. let f = in_filter (goes_over net s (h ∷ [])) a (live l s) i in off (tree_group net.hops s.group a.addr h (over_in (h ∷ []) a f.1 h (inl refl)))))

  -- ---- the equation
  same_want : (h : LinkHop) (f g : LinkHop → PartTable) → ((y : LinkHop) → In y (followers net s.group h) → f y ≡ g y) → want_from st net l s h f ≡ want_from st net l s h g
  same_want h f g e =
      ap (λ (ps : List Part). merge st (own st net l s h ++ ps))
      (flat_same (brought st net l s h f) (brought st net l s h g) (followers net s.group h)
      (λ y i. ap (λ (t : PartTable). flat_map (λ p. as_list (part_cut p (names st net l s (h ∷ y ∷ [])))) (values t)) (e y i)))

  cut_nothing : (p : Part) → part_cut p empty ≡ None
  cut_nothing p = part_of_none (cut p.senders empty) p.flow refl_none
    where
      all_out : (es : List (Sender × Unit {0})) → where_key senders.cmp (has nobody) es ≡ []
      all_out [] = refl
      all_out (e ∷ es) = all_out es

      refl_none : is_none (cut p.senders empty) ≡ true
      refl_none = ap (λ (es : List (Sender × Unit {0})). eqb (length es) 0) (all_out p.senders.rows)

  wanted_nothing : (k : StyleKind) (p : Part) → wanted_of k empty p ≡ None
  wanted_nothing Wild p = part_of_none empty p.flow refl
  wanted_nothing Fixed p = cut_nothing p
  wanted_nothing Shared p = cut_nothing p

  off_tree : (h : LinkHop) (f : LinkHop → PartTable) → (In h (hops_of net.hops s.group) → ⊥) → want_from st net l s h f ≡ empty
  off_tree h f off =
      let no_own : own st net l s h ≡ [] =
      flat_none (λ w. as_list (wanted_of st (names st net l s (h ∷ [])) w.part)) (filter (is_wanted_at st s (node_of net.ends h.to)) l.wants)
      (λ w. ap (λ (ns : Names). as_list (wanted_of st ns w.part)) (no_names h off) ∙ ap as_list (wanted_nothing st w.part)) in
      let no_more : followers net s.group h ≡ [] = none_in (followers net s.group h) (λ y i. let r = follower_follows net s.group h y i in off (tree_group net.hops s.group r.source h r.first)) in
      ap (λ (ps : List Part). merge st (ps ++ flat_map (brought st net l s h f) (followers net s.group h))) no_own
      ∙ ap (λ (hs : List LinkHop). merge st (flat_map (brought st net l s h f) hs)) no_more

  module _ (free : IsLoopFree net) where
    rank_zero : (h : LinkHop) → rank net s.group h ≡ 0 → In h (hops_of net.hops s.group) → ⊥
    rank_zero h e i = let some = rank_some net free s.group h i in omega arith

    off : (h : LinkHop) (f : LinkHop → PartTable) → rank net s.group h ≡ 0 → want_from st net l s h f ≡ empty
    off h f e = off_tree h f (rank_zero h e)

    fall : (h y : LinkHop) → In y (followers net s.group h) → rank net s.group y < rank net s.group h
    fall h y i = rank_falls_at net free s.group h y (follower_follows net s.group h y i)

    pub want_equation : WantEquation st net l s
    unfolding want
    want_equation =
        record {
          equation = equation (want_from st net l s) empty (followers net s.group) (rank net s.group) same_want fall off;
          others = λ h no_hop. equation (want_from st net l s) empty (followers net s.group) (rank net s.group) same_want fall off h ∙ off_tree h (want st net l s) no_hop;
          alone = λ f solves h i. alone (want_from st net l s) empty (followers net s.group) (rank net s.group) same_want fall off (λ y. In y (hops_of net.hops s.group))
              (λ x y j. follower_of_group net s.group x y j) f solves h i;
        }

  -- ---- what is wanted names those that go over the hop
  within_right : (t u : Names) → IsWithin (cut t u) u
  within_right t u x e = (and_both (has t x) (has u x) (sym (has-cut senders t u x) ∙ e)).1

  wanted_within : (k : StyleKind) (ns : Names) (p q : Part) → wanted_of k ns p ≡ Some q → IsWithin q.senders ns
  wanted_within Wild ns p q e = let m = made_of ns p.flow q e in subst (λ (t : Names). IsWithin t ns) (sym m.senders) (λ x h. h)
  wanted_within Fixed ns p q e = subst (λ (t : Names). IsWithin t ns) (sym (cut_senders p q ns e)) (within_right p.senders ns)
  wanted_within Shared ns p q e = subst (λ (t : Names). IsWithin t ns) (sym (cut_senders p q ns e)) (within_right p.senders ns)

  parts_within : (h : LinkHop) (f : LinkHop → PartTable) (q : Part) → In q (own st net l s h ++ flat_map (brought st net l s h f) (followers net s.group h))
      → IsWithin q.senders (names st net l s (h ∷ []))
  parts_within h f q i =
      ⊎_elim
      (λ (j : In q (own st net l s h)).
      let w = in_flat_map (λ w. as_list (wanted_of st (names st net l s (h ∷ [])) w.part)) q (filter (is_wanted_at st s (node_of net.ends h.to)) l.wants) j in
      wanted_within st (names st net l s (h ∷ [])) w.0.part q (in_as_list (wanted_of st (names st net l s (h ∷ [])) w.0.part) q w.2))
      (λ (j : In q (flat_map (brought st net l s h f) (followers net s.group h))).
      let y = in_flat_map (brought st net l s h f) q (followers net s.group h) j in
      let p = in_flat_map (λ p. as_list (part_cut p (names st net l s (h ∷ y.0 ∷ [])))) q (values (f y.0)) y.2 in
      let e = in_as_list (part_cut p.0 (names st net l s (h ∷ y.0 ∷ []))) q p.2 in
      λ x t. both_one h y.0 x (within_right p.0.senders (names st net l s (h ∷ y.0 ∷ [])) x (subst (λ (u : Names). has u x ≡ true) (cut_senders p.0 q (names st net l s (h ∷ y.0 ∷ [])) e) t)))
      (in_append q (own st net l s h) (flat_map (brought st net l s h f) (followers net s.group h)) i)

  fuel_within : (n : ℕ) (h : LinkHop) (u : UnitOf) (p : Part) → get (by_fuel (want_from st net l s) empty n h) u ≡ Some p → IsWithin p.senders (names st net l s (h ∷ []))
  fuel_within zero h u p e = cc
  fuel_within (suc n) h u p e =
      merge_keeps units (part_unit st) (λ p. p) (λ q. IsWithin q.senders (names st net l s (h ∷ []))) (λ a b x y. union_least a.senders b.senders (names st net l s (h ∷ [])) x y)
      (own st net l s h ++ flat_map (brought st net l s h (λ y. by_fuel (want_from st net l s) empty n y)) (followers net s.group h)) u p e
      (λ q i named unit. parts_within h (λ y. by_fuel (want_from st net l s) empty n y) q i)

  pub want_names : WantNames st net l s
  unfolding want
  want_names h u p e = fuel_within (rank net s.group h) h u p e

  -- ---- a common name
  same_addr : (k : StyleKind) (a b : Sender) → name_of k a ≡ name_of k b → a.addr ≡ b.addr
  same_addr Wild a b e = ap (λ (x : Sender). x.addr) e
  same_addr Fixed a b e = ap (λ (x : Sender). x.addr) e
  same_addr Shared a b e = ap (λ (x : Sender). x.addr) e

  pub a_common_name : CommonNameMakesAFollower st net l s
  a_common_name h h' x e e' meet =
      let a = name_told (h ∷ []) x e in
      let b = name_told (h' ∷ []) x e' in
      let one = over_in (h ∷ []) a.0 a.2 h (inl refl) in
      let addr = same_addr st b.0 a.0 (sym b.3 ∙ a.3) in
      let two = subst (λ (y : Addr). In h' (tree net.hops s.group y)) addr (over_in (h' ∷ []) b.0 b.2 h' (inl refl)) in
      let over = in_over (h ∷ h' ∷ []) a.0 (λ y i. ⊎_elim (λ (q : y ≡ h). subst (λ (z : LinkHop). In z (tree net.hops s.group a.0.addr)) (sym q) one)
      (λ (j : In y (h' ∷ [])). ⊎_elim (λ (q : y ≡ h'). subst (λ (z : LinkHop). In z (tree net.hops s.group a.0.addr)) (sym q) two) (λ (k : ⊥). absurd k) j) i) in (
        subst (λ (y : Sender). has (names st net l s (h ∷ h' ∷ [])) y ≡ true) (sym a.3) (name_made (h ∷ h' ∷ []) a.0 a.1 over),
        record { source = a.0.addr; first = one; second = two; meet = meet },
      )

-- ---- fixed filters
module _ (net : Net) (l : Locals) (s : Session) (one : (w : LocalWant) → In w l.wants → w.style ≡ Fixed → size w.part.senders ≡ 1) where
  own_fixed : (h : LinkHop) (q : Part) → In q (own Fixed net l s h) → IsOfStyle Fixed q
  own_fixed h q i =
      let w = in_flat_map (λ w. as_list (wanted_of Fixed (names Fixed net l s (h ∷ [])) w.part)) q (filter (is_wanted_at Fixed s (node_of net.ends h.to)) l.wants) i in
      let f = in_filter (is_wanted_at Fixed s (node_of net.ends h.to)) w.0 l.wants w.1 in
      let at = and_both _ _ (and_both _ _ f.1).1 in
      cut_of_style Fixed w.0.part q (names Fixed net l s (h ∷ [])) ((fixed_parts w.0.part).1 (one w.0 f.0 (sym (tied_same styles Fixed w.0.style at.1))))
      (in_as_list (part_cut w.0.part (names Fixed net l s (h ∷ []))) q w.2)

  fixed_by : (n : ℕ) (h : LinkHop) (u : UnitOf) (p : Part) → get (by_fuel (want_from Fixed net l s) empty n h) u ≡ Some p → IsOfStyle Fixed p × (part_unit Fixed p ≡ u)
  fixed_by zero h u p e = cc
  fixed_by (suc n) h u p e =
      (merge_keeps_the_style Fixed).merge (own Fixed net l s h ++ flat_map (brought Fixed net l s h (λ y. by_fuel (want_from Fixed net l s) empty n y)) (followers net s.group h)) u p
      (λ q is.
      ⊎_elim (λ (j : In q (own Fixed net l s h)). own_fixed h q j)
      (λ (j : In q (flat_map (brought Fixed net l s h (λ y. by_fuel (want_from Fixed net l s) empty n y)) (followers net s.group h))).
      let y = in_flat_map (brought Fixed net l s h (λ y. by_fuel (want_from Fixed net l s) empty n y)) q (followers net s.group h) j in
      let r = in_flat_map (λ p. as_list (part_cut p (names Fixed net l s (h ∷ y.0 ∷ [])))) q (values (by_fuel (want_from Fixed net l s) empty n y.0)) y.2 in
      let e = in_each (λ (e : UnitOf × Part). e.1) r.0 (by_fuel (want_from Fixed net l s) empty n y.0).rows r.1 in
      let at : In (e.0.0, r.0) (by_fuel (want_from Fixed net l s) empty n y.0).rows = subst (λ (z : Part). In (e.0.0, z) (by_fuel (want_from Fixed net l s) empty n y.0).rows) (sym e.2) e.1 in
      let style = fixed_by n y.0 e.0.0 r.0 (in_found units (by_fuel (want_from Fixed net l s) empty n y.0) e.0.0 r.0 at) in
      cut_of_style Fixed r.0 q (names Fixed net l s (h ∷ y.0 ∷ [])) style.0 (in_as_list (part_cut r.0 (names Fixed net l s (h ∷ y.0 ∷ []))) q r.2))
      (in_append q (own Fixed net l s h) (flat_map (brought Fixed net l s h (λ y. by_fuel (want_from Fixed net l s) empty n y)) (followers net s.group h)) is.among))
      e

  fixed_of : (h : LinkHop) (u : UnitOf) (p : Part) → get (want Fixed net l s h) u ≡ Some p → (size p.senders ≡ 1) × ((x : Sender) → has p.senders x ≡ true → u ≡ Of x)
  unfolding want
  fixed_of h u p e =
      let r = fixed_by (rank net s.group h) h u p e in
      ((fixed_parts p).0 r.0, λ x t. sym r.1 ∙ unit_of_names Fixed p x r.0 t)

pub a_fixed_unit_is_its_name : (net : Net) (l : Locals) (s : Session) → AFixedUnitIsItsName net l s
a_fixed_unit_is_its_name net l s one h u p e = fixed_of net l s one h u p e

-- ---- lines under the goal
pub fit_bounds : (net : Net) (l : Locals) → DemandsFit net l → FitBoundsTheGoal net l
fit_bounds net l fit =
    record {
      limits = λ n st ls under. within_below st ls (goal net l n) under (fit.limits n st);
      capacity = λ e x ls is under. let a = held_at_end_below e ls (goal net l (node_of net.ends e)) under in let b = fit.capacity e x is in omega arith;
      mtu = λ e x ls k p is under got.
          let q = book_below (at_end e ls) (at_end e (goal net l (node_of net.ends e))) (under_at_end e ls (goal net l (node_of net.ends e)) under) k p got in
          let a = most_below p q.0 q.2 in
          let b = fit.mtu e x k q.0 is q.1 in
          omega arith;
    }
