-- The ends of a network's hops are of its nodes.
use Rattle.std.specs.Prelude.{◌≡◌, ℕ, ◌<◌, List, [], ◌∷◌, length, Some, slice_get, slice_index_or, refl}
use Rattle.std.proofs.Common.{zero, suc, ap, subst, inl, inr, arith}
use Rattle.rsvp_base.specs.Members.{In}
use Rattle.rsvp_base.specs.declared.addr.Addr.{Addr}
use Rattle.tree_model.specs.declared.hops.End.{End}
use Rattle.tree_model.specs.declared.hops.LinkHop.{LinkHop}
use Rattle.tree_model.specs.Networks.{Net, node_of, node_of_end, peers}
use Rattle.tree_model.specs.Trees.{hops_of}
use Rattle.tree_model.specs.Valid.{IsValid}
use Rattle.tree_model.proofs.Following.{in_group, to_tree}
use Rattle.tree_model.proofs.Links.{in_among, one_sending_end_on_a_link}
use Rattle.tree_routing.specs.declared.group_hop.GroupHop.{GroupHop}
use Rattle.tree_routing.specs.Order.{AreByRank}
use Rattle.tree_routing.proofs.ValidMore.{from_inside, to_inside}

pub index_in : {X : Type 0} (xs : List X) (i : ℕ) (d : X) → i < length xs → In (slice_index_or xs i d) xs
index_in [] i d lt = absurd (omega arith)
index_in (x ∷ xs) zero d lt = inl refl
index_in (x ∷ xs) (suc i) d lt = inr (index_in xs i d (omega arith))

pub end_there : (ends : List End) (e : ℕ) → e < length ends → (x : End) × In x ends × (slice_get ends e ≡ Some x)
end_there [] e lt = absurd (omega arith)
end_there (x ∷ xs) zero lt = (x, inl refl, refl)
end_there (x ∷ xs) (suc e) lt = let r = end_there xs e (omega arith) in (r.0, inr r.1, r.2)

module _ (net : Net) (valid : IsValid net) where
  node_inside : (e : ℕ) → e < length net.ends → node_of net.ends e < net.nodes
  node_inside e lt = let x = end_there net.ends e lt in let p = valid.placed x.0 x.1 in let n = ap node_of_end x.2 in omega arith

  pub ends_inside : (g : Addr) (h : LinkHop) → In h (hops_of net.hops g) → (h.from < length net.ends) × (h.to < length net.ends)
  ends_inside g h i =
      let r = in_group net.hops g h i in
      let on = (one_sending_end_on_a_link net valid).linked r.0.group r.0.source r.0.hop (to_tree net.hops r.0 r.1) in
      let t = in_among r.0.hop.to (peers net.links r.0.hop.from) on in
      subst (λ (x : LinkHop). (x.from < length net.ends) × (x.to < length net.ends)) r.3 (from_inside net valid r.0.hop t, to_inside net valid r.0.hop t)

  pub nodes_inside : (g : Addr) (h : LinkHop) → In h (hops_of net.hops g) → (node_of net.ends h.from < net.nodes) × (node_of net.ends h.to < net.nodes)
  nodes_inside g h i = let e = ends_inside g h i in (node_inside h.from e.0, node_inside h.to e.1)

  -- those of hops by rank, by how many nodes there are
  pub ranked_inside : (order : List GroupHop) → AreByRank net order → (k : ℕ) → k ≡ net.nodes → (i : ℕ) (d : GroupHop) → i < length order
      → (node_of net.ends (slice_index_or order i d).hop.from < k) × (node_of net.ends (slice_index_or order i d).hop.to < k)
  ranked_inside order ranked k size i d lt =
      let x = slice_index_or order i d in
      let inside = nodes_inside x.group x.hop (ranked.hops x (index_in order i d lt)) in
      let from = inside.0 in
      let to = inside.1 in
      (omega arith, omega arith)
