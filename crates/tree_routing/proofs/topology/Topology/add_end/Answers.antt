use Rattle.std.proofs.Common.{◌≡◌, ◌++◌, ◌∷◌, [], List, arith, sym, subst}
use Rattle.std.proofs.lemmas.Grind.{common_steps}
use Rattle.tree_model.specs.declared.hops.End.{End}
use Rattle.tree_model.specs.Networks.{Net}
use Rattle.tree_model.specs.Valid.{IsValid}
use Rattle.tree_routing.specs.Answers.{TakesEnd}
use Rattle.tree_routing.specs.Known.{net_of, AreKnown}
use Rattle.tree_routing.proofs.ValidMore.{valid_end, known_end, few_ends_in_all}
use Rattle.tree_routing.proofs.topology.Topology.add_end.Goals as goal

pub overflow_cast-number : goal.overflow_cast-number
overflow_cast-number c =
    let few = few_ends_in_all (net_of c.self.inside.nodes c.self.inside.ends.items c.self.inside.links.items c.self.inside.hops.items) c.self.invariant.0 in
    grind (arith, common_steps)

pub invariant_of-self-2 : goal.invariant_of-self-2
invariant_of-self-2 c =
    let is : c.push.new.self.items ≡ c.self.inside.ends.items ++ c.args.end ∷ [] = grind (arith, common_steps) in
    let net = net_of c.self.inside.nodes c.self.inside.ends.items c.self.inside.links.items c.self.inside.hops.items in
    subst (λ (xs : List End). IsValid (net_of c.self.inside.nodes xs c.self.inside.links.items c.self.inside.hops.items) × AreKnown xs c.self.inside.hops.items) (sym is) (
      valid_end net c.self.invariant.0 c.args.end (subst (λ (n : Net). TakesEnd n c.args.end) (sym c.self.view_is) c.requires),
      known_end c.self.inside.nodes c.self.inside.ends.items c.self.inside.links.items c.self.inside.hops.items c.args.end c.self.invariant.0 c.self.invariant.1,
    )
