-- What a routing keeps, and what it answers, with a tree in the place of another.
use Rattle.std.specs.Prelude.{◌≡◌, ℕ, ◌+◌, ◌<◌, ◌≤◌, Bool, true, false, not, cond, List, [], ◌∷◌, ◌++◌, length, map as each, count_by, Option, Some, None, IfSome, Err, refl}
use Rattle.std.specs.List.{filter}
use Rattle.std.proofs.Common.{sym, ap, subst, ◌∙◌, arith, length-append}
use Rattle.std.proofs.lemmas.List.{length-map}
use Rattle.std.proofs.lemmas.List.Sums.{sum_by-cons}
use Rattle.rsvp_base.specs.declared.addr.Addr.{Addr}
use Rattle.tree_model.specs.declared.hops.End.{End}
use Rattle.tree_model.specs.declared.hops.LinkHop.{LinkHop}
use Rattle.tree_model.specs.declared.hops.TreeHop.{TreeHop}
use Rattle.tree_model.specs.Networks.{Net}
use Rattle.tree_model.specs.Trees.{of_group, of_tree, tree, IsGrown}
use Rattle.tree_model.specs.Ranks.{IsLoopFreeIn}
use Rattle.tree_model.specs.Valid.{IsValid}
use Rattle.tree_routing.specs.declared.known.Known.{Known}
use Rattle.tree_routing.specs.declared.link.Link.{Link}
use Rattle.tree_routing.specs.declared.hop_err.HopErr.{HopErr}
use Rattle.tree_routing.specs.declared.hop_err.HopErr.TheVariants.{NotTree, Loop, NoMemory}
use Rattle.tree_routing.specs.Answers.{IsLeastOnLoop}
use Rattle.tree_routing.specs.Known.{plain, net_of, net_with, vertex_before, AreKnown}
use Rattle.tree_routing.specs.Reroutes.{is_other, part, rerouted, tree_hop, with_hops, RerouteAnswer, IsRefused, AreBefore, IsLeastClosed}
use Rattle.tree_routing.proofs.ClosedChains.{none_closed, least_closed}
use Rattle.tree_routing.proofs.Parts.{filter_less, free_part, grown_part, least_part}
use Rattle.tree_routing.proofs.ValidReroutes.{grown_more, valid_rerouted}
use Rattle.tree_routing.proofs.Vertices.{before_told, vertex_below}

pub befores_below : (ends : List End) (ks ks' : List Known) → AreKnown ends ks → ks' ≡ ks → AreBefore (length ks') ks'
befores_below ends ks ks' known is =
    subst (λ (xs : List Known). AreBefore (length xs) xs) (sym is)
    (λ k i a e.
    let x = before_told ends k.hop ks a (sym (known k i).before ∙ e) in
    let lt = vertex_below ends ks known x.0 x.1 in
    let at = x.3 in
    omega arith)

pub before_below : (ends ends' : List End) (ks ks' ks'' : List Known) (r : TreeHop) (o : Option ℕ) → o ≡ vertex_before ends' r ks' → ends' ≡ ends → ks' ≡ ks → ks'' ≡ ks → AreKnown ends ks
    → IfSome o (λ b. b < length ks'')
before_below ends ends' ks ks' ks'' r None is same_ends same same' known = tt
before_below ends ends' ks ks' ks'' r (Some b) is same_ends same same' known =
    let found : vertex_before ends r ks ≡ Some b = sym (is ∙ ap (λ (x : List End). vertex_before x r ks') same_ends ∙ ap (λ (x : List Known). vertex_before ends r x) same) in
    let x = before_told ends r ks b found in
    let lt = vertex_below ends ks known x.0 x.1 in
    let at = x.3 in
    let size = ap length same' in
    omega arith

pub refused_answer : (R : Type 0) (net m : Net) (g s : Addr) (hops : List LinkHop) (why : HopErr) → m ≡ net → IsRefused m s hops why → RerouteAnswer {R = R} net g s hops (Err why)
refused_answer R net m g s hops NotTree is refused = subst (λ (n : Net). IsRefused n s hops NotTree) is refused
refused_answer R net m g s hops (Loop group from to) is refused = absurd refused
refused_answer R net m g s hops NoMemory is refused = tt

module _ (net : Net) (valid : IsValid net) (nodes : ℕ) (ends : List End) (links : List Link) (old : List TreeHop) (is_net : net_with nodes ends links old ≡ net) (g s : Addr) (hops : List LinkHop)
    (grown : IsGrown (net_with nodes ends links old) s hops)
    (ks : List Known) (known : AreKnown ends ks) (are : plain ks ≡ (part g (rerouted (net_with nodes ends links old) g s hops)).hops) where
  grown_in : IsGrown net s hops
  grown_in = subst (λ (n : Net). IsGrown n s hops) is_net grown

  abbrev whole : Net
  whole = rerouted net g s hops

  is_part : net_of nodes ends links ks ≡ part g whole
  is_part = (λ i. with_hops (net_with nodes ends links old) (are i)) ∙ ap (λ (n : Net). part g (rerouted n g s hops)) is_net

  all_grown : (g' s' : Addr) → IsGrown (net_of nodes ends links ks) s' (tree (plain ks) g' s')
  all_grown g' s' = subst (λ (n : Net). IsGrown n s' (tree n.hops g' s')) (sym is_part) (grown_part whole g (grown_more net valid g s hops grown_in) g' s')

  free_in : IsLeastClosed ks ks g None → IsLoopFreeIn whole g
  free_in none = free_part whole g (subst (λ (n : Net). IsLoopFreeIn n g) is_part (none_closed nodes ends links ks all_grown known g none))

  pub free_answer : IsLeastClosed ks ks g None → IsGrown net s hops × IsLoopFreeIn whole g
  free_answer none = (grown_in, free_in none)

  pub loop_answer : (h : LinkHop) → IsLeastClosed ks ks g (Some h) → IsGrown net s hops × (g ≡ g) × IsLeastOnLoop whole g h
  loop_answer h least = (grown_in, refl, least_part whole g h (subst (λ (n : Net). IsLeastOnLoop n g h) is_part (least_closed nodes ends links ks all_grown known g h least)))

  pub part_kept : plain ks ≡ (part g whole).hops
  part_kept = ap (λ (n : Net). n.hops) is_part

  pub part_few : length whole.hops ≤ 8192 → (ks' : List Known) → ks' ≡ ks → length ks' ≤ 8192
  part_few few ks' is =
      let a = ap length part_kept in
      let b = length-map ks (λ (k : Known). k.hop) in
      let c = filter_less (of_group g) (of_group g) whole.hops in
      let d = ap length is in
      omega arith

  pub valid_with : length whole.hops ≤ 8192 → IsLeastClosed ks ks g None → IsValid whole
  valid_with few none = valid_rerouted net valid g s hops few grown_in (free_in none)

-- ---- room
module _ (g s : Addr) where
  abbrev kept : List TreeHop → List TreeHop
  kept rs = filter (λ r. not (of_tree g s r)) rs

  others_count : (rs : List TreeHop) → length (kept rs) ≡ count_by (is_other g s) rs
  others_count [] = refl
  others_count (r ∷ rs) = by (is_other g s r) (others_count rs) ∙ sym (sum_by-cons (λ (x : TreeHop). cond (is_other g s x) 1 0) r rs)
    where
      by : (b : Bool) → length (kept rs) ≡ count_by (is_other g s) rs → length (cond b (r ∷ kept rs) (kept rs)) ≡ cond b 1 0 + count_by (is_other g s) rs
      by true e = omega (arith, e)
      by false e = omega (arith, e)

  pub hops_then : (net : Net) (rs : List TreeHop) (hs : List LinkHop) → net.hops ≡ rs → length (rerouted net g s hs).hops ≡ count_by (is_other g s) rs + length hs
  hops_then net rs hs are =
      ap (λ (rs : List TreeHop). length (filter (λ r. not (of_tree g s r)) rs ++ each (tree_hop g s) hs)) are
      ∙ length-append (kept rs) (each (tree_hop g s) hs)
      ∙ ap (λ n. n + length (each (tree_hop g s) hs)) (others_count rs)
      ∙ ap (λ n. count_by (is_other g s) rs + n) (length-map hs (tree_hop g s))
