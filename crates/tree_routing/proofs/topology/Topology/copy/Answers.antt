use Rattle.std.proofs.Common.{◌≡◌, rules}
use Rattle.tree_routing.proofs.topology.Topology.copy.Goals as goal

pub invariant_of-result : goal.invariant_of-result
invariant_of-result c =
    let ends : c.in_ok-to_vec.field-0.items ≡ c.self.inside.ends.items = search rules in
    let links : c.in_ok-to_vec-2.field-0.items ≡ c.self.inside.links.items = search rules in
    let hops : c.in_ok-to_vec-3.field-0.items ≡ c.self.inside.hops.items = search rules in
    rw (ends, links, hops) c.self.invariant
