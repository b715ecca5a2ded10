-- Ways into a node and out of it.
use Rattle.std.specs.Prelude.{◌≡◌, ◌↔◌, ◌⊎◌, ℕ, ◌+◌, ◌*◌, ◌^◌, ◌%◌, ◌<◌, ◌≤◌, Bool, true, false, ◌==◌, List, [], ◌∷◌, length, map as each, take, Option, None, Some, slice_index_or, bit_or}
use Rattle.std.specs.Prelude.{refl, if◌then◌else◌, not, ◌||◌}
use Rattle.std.specs.List.{filter, list_all}
use Rattle.std.proofs.Common.{zero, suc, sym, ap, subst, ◌∙◌, inl, inr, ⊎_elim, arith, w16}
use Rattle.std.specs.Int.{bit_at}
use Rattle.std.proofs.lemmas.Bool.{cases_eq}
use Rattle.std.proofs.lemmas.Nat.Bits.{bit_at_set_same, bit_at_set_other, bit_at-zero}
use Rattle.rsvp_base.specs.Members.{In}
use Rattle.rsvp_base.specs.declared.addr.Addr.{Addr}
use Rattle.rsvp_base.proofs.Members.{in_append, in_each, to_each, in_filter, in_left, in_right}
use Rattle.tree_model.specs.declared.hops.End.{End}
use Rattle.tree_model.specs.declared.hops.LinkHop.{LinkHop}
use Rattle.tree_model.specs.declared.hops.TreeHop.{TreeHop}
use Rattle.tree_model.specs.Networks.{Net, node_of, ends_from, ends_of, iface_of, among, link_of}
use Rattle.tree_model.specs.Trees.{of_tree, tree, first_by, goes_into, end_into, inward, sends_alone}
use Rattle.tree_model.specs.Valid.{IsValid}
use Rattle.tree_model.proofs.Following.{same_number, number_same, to_tree}
use Rattle.tree_model.proofs.TreeLaws.{out_told, out_tested, way_in_told, way_in_tested, first_told, first_none, none_first}
use Rattle.tree_model.proofs.Ifaces.{interfaces_are_ends}
use Rattle.tree_model.proofs.Links.{linked_from}
use Rattle.tree_routing.specs.Routes.{AreInOrder, LeavesBy, IsWayOf, IsWay}
use Rattle.tree_routing.proofs.HopLaws.{from_order, tree_from_order, tree_to_order}
use Rattle.tree_routing.proofs.LeastLaws.{take_one_more, at_in}
use Rattle.tree_routing.proofs.Vertices.{got_below}
use Rattle.tree_routing.proofs.ValidMore.{from_inside, to_inside}

-- ---- interfaces
some_less : (number : ℕ) (k : ℕ) (ends : List End) (n : ℕ) → length (ends_from number (take k ends) n) ≤ length (ends_from number ends n)
some_less number zero ends n = omega arith
some_less number (suc k) [] n = omega arith
some_less number (suc k) (e ∷ es) n = by (e.node == n) (some_less (number + 1) k es n)
  where
    by : (b : Bool) → length (ends_from (number + 1) (take k es) n) ≤ length (ends_from (number + 1) es n)
        → length (if b then number ∷ ends_from (number + 1) (take k es) n else ends_from (number + 1) (take k es) n) ≤ length
        (if b then number ∷ ends_from (number + 1) es n else ends_from (number + 1) es n)
    by true le = omega arith
    by false le = le

pub few_before : (ends : List End) (k m : ℕ) → ((n : ℕ) → length (ends_of ends n) ≤ 16) → length (ends_of (take k ends) m) ≤ 16
few_before ends k m few = let a = some_less 0 k ends m in let b = few m in omega arith

pub iface_below : (ends : List End) (e : ℕ) → ((n : ℕ) → length (ends_of ends n) ≤ 16) → e < length ends → iface_of ends e < 16
iface_below ends e few lt =
    let net : Net = record { nodes = 0; ends = ends; links = []; hops = [] } in
    let below = got_below (ends_of ends (node_of ends e)) (iface_of ends e) e ((interfaces_are_ends (record { nodes = 0; ends = ends; links = []; hops = [] })).end_of_iface e lt) in
    let le = few (node_of ends e) in
    omega arith

-- ---- a set of interfaces with one more
pub bits_with : (w k i : ℕ) → k < 16 → (bit_at (bit_or w (1 * 2 ^ k % 65536)) i ≡ 1) ↔ ((i ≡ k) ⊎ (bit_at w i ≡ 1))
bits_with w k i lt =
    elim (cases_eq i k) [
      | inl e ↦ ((λ b. inl e), λ b. subst (λ (j : ℕ). bit_at (bit_or w (1 * 2 ^ k % 65536)) j ≡ 1) (sym e) (bit_at_set_same w16 w k lt))
      | inr ne ↦
          let same = bit_at_set_other w16 w k lt i ne in
          ((λ b. inr (sym same ∙ b)), λ b. ⊎_elim (λ (e : i ≡ k). absurd (ne e)) (λ (t : bit_at w i ≡ 1). same ∙ t) b)
    ]

no_bits : (i : ℕ) → bit_at 0 i ≡ 1 → ⊥
no_bits i e = let z = bit_at-zero i in omega arith

pub ways_none : (ends : List End) (n i : ℕ) → (bit_at 0 i ≡ 1) ↔ IsWay ends n [] i
ways_none ends n i = ((λ b. absurd (no_bits i b)), λ r. absurd r.1)

pub ways_more : (ends : List End) (n : ℕ) (rs : List TreeHop) (at : ℕ) (d : TreeHop) (ways new : ℕ) → at < length rs
    → ((i : ℕ) → (bit_at ways i ≡ 1) ↔ IsWay ends n (take at rs) i) → ((i : ℕ) → (bit_at new i ≡ 1) ↔ (IsWayOf ends n (slice_index_or rs at d) i ⊎ (bit_at ways i ≡ 1)))
    → (i : ℕ) → (bit_at new i ≡ 1) ↔ IsWay ends n (take (at + 1) rs) i
ways_more ends n rs at d ways new lt so_far step i =
    let r = slice_index_or rs at d in
    let is = take_one_more rs at d lt in (
      λ b. subst (λ (xs : List TreeHop). IsWay ends n xs i) (sym is)
          (⊎_elim (λ (w : IsWayOf ends n (slice_index_or rs at d) i). (slice_index_or rs at d, in_right (slice_index_or rs at d) (take at rs) (slice_index_or rs at d ∷ []) (inl refl), w))
          (λ (t : bit_at ways i ≡ 1). let w = (so_far i).0 t in (w.0, in_left w.0 (take at rs) (slice_index_or rs at d ∷ []) w.1, w.2)) ((step i).0 b)),
      λ w. let v = subst (λ (xs : List TreeHop). IsWay ends n xs i) is w in
          (step i).1
          (⊎_elim (λ (j : In v.0 (take at rs)). inr ((so_far i).1 (v.0, j, v.2)))
          (λ (j : In v.0 (slice_index_or rs at d ∷ [])). ⊎_elim (λ (e : v.0 ≡ slice_index_or rs at d). inl (subst (λ (x : TreeHop). IsWayOf ends n x i) e v.2)) (λ (o : ⊥). absurd o) j)
          (in_append v.0 (take at rs) (slice_index_or rs at d ∷ []) v.1)),
    )

pub at_inside : (ends : List End) (rs : List TreeHop) (i : ℕ) (d : TreeHop) → ((r : TreeHop) → In r rs → r.hop.from < length ends) → i < length rs → (slice_index_or rs i d).hop.from < length ends
at_inside ends rs i d inside lt = inside (slice_index_or rs i d) (at_in rs i d lt)

-- ---- a valid network, and the hops of its trees in order
module _ (net : Net) (valid : IsValid net) (sorted : List TreeHop) (order : AreInOrder net.hops sorted) where
  -- the ends of a hop are there
  from_there : (r : TreeHop) → In r net.hops → r.hop.from < length net.ends
  from_there r i = from_inside net valid r.hop (linked_from net r.source [] (tree net.hops r.group r.source) (valid.grown r.group r.source) r.hop (to_tree net.hops r i))

  into_there : (n e : ℕ) (g s : Addr) → inward net n g s ≡ Some e → e < length net.ends
  into_there n e g s is =
      let h = way_in_told net valid n e g s is in
      let lt = to_inside net valid h.0 (linked_from net s [] (tree net.hops g s) (valid.grown g s) h.0 h.1) in
      let same = h.2 in
      omega arith

  -- one hop goes into a node, in whichever order they stand
  into_in_order : (n : ℕ) (g s : Addr) → end_into (first_by (goes_into net.ends n) (tree sorted g s)) ≡ inward net n g s
  into_in_order n g s = by (first_by (goes_into net.ends n) (tree sorted g s)) refl
    where
      by : (o : Option LinkHop) → first_by (goes_into net.ends n) (tree sorted g s) ≡ o → end_into (first_by (goes_into net.ends n) (tree sorted g s)) ≡ inward net n g s
      by None e =
          ap end_into e
          ∙ sym (ap end_into (none_first (goes_into net.ends n) (tree net.hops g s) (λ h i t. first_none (goes_into net.ends n) (tree sorted g s) e h (tree_to_order net.hops sorted order g s h i) t)))
      by (Some h) e =
          let r = first_told (goes_into net.ends n) (tree sorted g s) h e in
          ap end_into e ∙ sym (way_in_tested net valid n h.to g s (h, tree_from_order net.hops sorted order g s h r.0, refl, same_number _ n r.1))

  ways_leave : (n i : ℕ) (g s : Addr) → IsWay net.ends n (filter (of_tree g s) sorted) i ↔ LeavesBy net n g s i
  ways_leave n i g s = (
    λ w.
        let there = tree_from_order net.hops sorted order g s w.0.hop (to_each (λ (r : TreeHop). r.hop) w.0 (filter (of_tree g s) sorted) w.1) in
        (w.0.hop.from, out_tested net n w.0.hop.from g s (w.0.hop, there, refl, same_number _ _ w.2.0), w.2.1),
    λ l.
        let h = out_told net n l.0 g s l.1 in
        let r = in_each (λ (r : TreeHop). r.hop) h.0 (filter (of_tree g s) sorted) (tree_to_order net.hops sorted order g s h.0 h.1) in
        let from : r.0.hop.from ≡ l.0 = ap (λ (x : LinkHop). x.from) (sym r.2) ∙ h.2 in
        (r.0, r.1, (number_same _ _ (ap (node_of net.ends) from ∙ h.3), ap (iface_of net.ends) from ∙ l.2)),
  )

  -- of lists that are these
  module _ (ends : List End) (all hops : List TreeHop) (g s : Addr) (are_ends : ends ≡ net.ends) (are_all : all ≡ sorted) (are : hops ≡ filter (of_tree g s) all) where
    pub into_at : (n : ℕ) → end_into (first_by (goes_into ends n) (each (λ r. r.hop) hops)) ≡ inward net n g s
    into_at n =
        (λ i. end_into (first_by (goes_into (are_ends i) n) (each (λ r. r.hop) (are i)))) ∙ ap (λ (xs : List TreeHop). end_into (first_by (goes_into net.ends n) (tree xs g s))) are_all
        ∙ into_in_order n g s

    pub into_below : (n e : ℕ) (ends' : List End) → ends' ≡ net.ends → end_into (first_by (goes_into ends n) (each (λ r. r.hop) hops)) ≡ Some e → e < length ends'
    into_below n e ends' is found = let lt = into_there n e g s (sym (into_at n) ∙ found) in let size = ap length is in omega arith

    pub from_below : (r : TreeHop) → In r hops → r.hop.from < length ends
    from_below r i =
        let there = in_filter (of_tree g s) r sorted (subst (λ (xs : List TreeHop). In r xs) (are ∙ ap (filter (of_tree g s)) are_all) i) in
        let lt = from_there r (from_order net.hops sorted order r there.0) in
        let size = ap length are_ends in
        omega arith

    pub leaves_at : (n i bits : ℕ) → (bit_at bits i ≡ 1) ↔ IsWay ends n hops i → (bit_at bits i ≡ 1) ↔ LeavesBy net n g s i
    leaves_at n i bits w =
        let here : (bit_at bits i ≡ 1) ↔ IsWay net.ends n (filter (of_tree g s) sorted) i =
        subst (λ (xs : List TreeHop). (bit_at bits i ≡ 1) ↔ IsWay net.ends n xs i) (are ∙ ap (filter (of_tree g s)) are_all)
        (subst (λ (es : List End). (bit_at bits i ≡ 1) ↔ IsWay es n hops i) are_ends w) in
        let l = ways_leave n i g s in
        ((λ t. l.0 (here.0 t)), λ t. here.1 (l.1 t))

-- ---- an end in no link shares none
pub none_on_no_link : (links : List (List ℕ)) (e : ℕ) (hs : List LinkHop) → link_of links e ≡ [] → list_all (sends_alone links e) hs ≡ true
none_on_no_link links e hs free = ap (λ (l : List ℕ). list_all (λ (x : LinkHop). not (among x.from l) || (x.from == e)) hs) free ∙ all_true hs
  where
    all_true : (xs : List LinkHop) → list_all (λ (x : LinkHop). not (among x.from []) || (x.from == e)) xs ≡ true
    all_true [] = refl
    all_true (x ∷ xs) = all_true xs
