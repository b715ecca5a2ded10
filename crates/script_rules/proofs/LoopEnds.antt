-- The ends of a hop on a closed chain are there, since it is linked.
use Rattle.std.specs.Prelude.{◌≡◌, ◌<◌, true, not, List, [], ◌∷◌, ◌++◌, length, map as each}
use Rattle.std.specs.List.{filter}
use Rattle.std.proofs.Common.{subst, sym, ap, ◌∙◌, inl, inr, ⊎_elim}
use Rattle.rsvp_base.specs.Members.{In}
use Rattle.rsvp_base.specs.declared.addr.Addr.{Addr}
use Rattle.rsvp_base.proofs.Members.{in_append, in_each, in_filter}
use Rattle.tree_model.specs.declared.hops.LinkHop.{LinkHop}
use Rattle.tree_model.specs.declared.hops.TreeHop.{TreeHop}
use Rattle.tree_model.specs.Chains.{Chain}
use Rattle.tree_model.specs.Networks.{Net}
use Rattle.tree_model.specs.Ranks.{IsOnLoop, followers}
use Rattle.tree_model.specs.Trees.{IsGrown, hops_of, is_linked, of_tree, tree}
use Rattle.tree_model.specs.Valid.{IsValid}
use Rattle.tree_model.proofs.Following.{in_group, to_tree}
use Rattle.tree_model.proofs.Links.{linked_from}
use Rattle.tree_routing.specs.Answers.{Fits, with_hop}
use Rattle.tree_routing.specs.Reroutes.{rerouted, tree_hop, with_hops}
use Rattle.tree_routing.proofs.ValidMore.{from_inside, to_inside}

-- all in a chain are of those that it is a chain of
in_chain : {A : Type 0} (follow : A → List A) (all : List A) (x h : A) (c : List A) → Chain follow all (h ∷ c) → In x (h ∷ c) → In x all
in_chain follow all x h [] chain (inl e) = subst (λ y. In y all) (sym e) chain
in_chain follow all x h [] chain (inr i) = absurd i
in_chain follow all x h (h' ∷ hs) chain (inl e) = subst (λ y. In y all) (sym e) chain.0
in_chain follow all x h (h' ∷ hs) chain (inr i) = in_chain follow all x h' hs chain.2 i

abbrev AreThere : Net → LinkHop → Type 0
AreThere net h = (h.from < length net.ends) × (h.to < length net.ends)

module _ (net : Net) (valid : IsValid net) where
  linked_in : (r : TreeHop) → In r net.hops → is_linked net.links r.hop ≡ true
  linked_in r i = linked_from net r.source [] (tree net.hops r.group r.source) (valid.grown r.group r.source) r.hop (to_tree net.hops r i)

  -- the same of the network with other hops, each of which is linked
  there_with : (rs : List TreeHop) → ((r : TreeHop) → In r rs → is_linked net.links r.hop ≡ true) → (g : Addr) (h : LinkHop) → IsOnLoop (with_hops net rs) g h → AreThere net h
  there_with rs linked g h on =
      let i = in_chain (followers (with_hops net rs) g) (hops_of rs g) h on.head on.rest on.closed.0 on.there in
      let r = in_group rs g h i in
      let is : is_linked net.links h ≡ true = subst (λ (x : LinkHop). is_linked net.links x ≡ true) r.3 (linked r.0 r.1) in
      (from_inside net valid h is, to_inside net valid h is)

  -- with one more hop
  pub there_with_hop : (r : TreeHop) → Fits net r → (g : Addr) (h : LinkHop) → IsOnLoop (with_hop net r) g h → AreThere net h
  there_with_hop r fits g h on = there_with (net.hops ++ r ∷ []) linked g h on
    where
      linked : (x : TreeHop) → In x (net.hops ++ r ∷ []) → is_linked net.links x.hop ≡ true
      linked x i =
          ⊎_elim (λ (old : In x net.hops). linked_in x old)
          (λ (new : In x (r ∷ [])). ⊎_elim (λ (e : x ≡ r). ap (λ (y : TreeHop). is_linked net.links y.hop) e ∙ fits.linked) (λ (o : ⊥). absurd o) new)
          (in_append x net.hops (r ∷ []) i)

  -- with another tree
  pub there_rerouted : (a s : Addr) (hops : List LinkHop) → IsGrown net s hops → (g : Addr) (h : LinkHop) → IsOnLoop (rerouted net a s hops) g h → AreThere net h
  there_rerouted a s hops grown g h on = there_with (filter (λ r. not (of_tree a s r)) net.hops ++ each (tree_hop a s) hops) linked g h on
    where
      linked : (x : TreeHop) → In x (filter (λ r. not (of_tree a s r)) net.hops ++ each (tree_hop a s) hops) → is_linked net.links x.hop ≡ true
      linked x i =
          ⊎_elim (λ (old : In x (filter (λ r. not (of_tree a s r)) net.hops)). linked_in x (in_filter (λ r. not (of_tree a s r)) x net.hops old).0)
          (λ (new : In x (each (tree_hop a s) hops)).
          let y = in_each (tree_hop a s) x hops new in
          ap (λ (z : TreeHop). is_linked net.links z.hop) y.2 ∙ linked_from net s [] hops grown y.0 y.1)
          (in_append x (filter (λ r. not (of_tree a s r)) net.hops) (each (tree_hop a s) hops) i)
