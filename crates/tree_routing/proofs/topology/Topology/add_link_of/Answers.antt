use Rattle.std.proofs.Common.{◌≡◌, ◌++◌, ◌∷◌, [], List, arith, sym, subst}
use Rattle.std.proofs.lemmas.Grind.{common_steps}
use Rattle.tree_model.specs.Networks.{Net}
use Rattle.tree_model.specs.Valid.{IsValid}
use Rattle.tree_routing.specs.declared.link.Link.{Link}
use Rattle.tree_routing.specs.Answers.{TakesLink}
use Rattle.tree_routing.specs.Known.{net_of}
use Rattle.tree_routing.proofs.ValidMore.{valid_link, link_push}
use Rattle.tree_routing.proofs.topology.Topology.add_link_of.Goals as goal

pub invariant_of-self-2 : goal.invariant_of-self-2
invariant_of-self-2 c =
    let is : c.push.new.self.items ≡ c.self.inside.links.items ++ c.of.result ∷ [] = grind (arith, common_steps) in
    let net = net_of c.self.inside.nodes c.self.inside.ends.items c.self.inside.links.items c.self.inside.hops.items in
    let there = valid_link net c.self.invariant.0 c.args.ends.now (subst (λ (n : Net). TakesLink n c.args.ends.now) (sym c.self.view_is) c.requires) in (
      subst (λ (xs : List Link). IsValid (net_of c.self.inside.nodes c.self.inside.ends.items xs c.self.inside.hops.items)) (sym is)
          (subst (λ (n : Net). IsValid n)
          (sym (link_push c.self.inside.nodes c.self.inside.ends.items c.self.inside.links.items c.self.inside.hops.items c.of.result c.args.ends.now c.of.ensures)) there),
      c.self.invariant.1,
    )
