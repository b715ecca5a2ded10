use Rattle.std.proofs.Common.{◌≡◌, rules}
use Rattle.tree_routing.proofs.routing.Routing.copy.Goals as goal

pub invariant_of-result : goal.invariant_of-result
invariant_of-result c =
    let ends : c.in_ok-to_vec.field-0.items ≡ c.self.inside.ends.items = search rules in
    let links : c.in_ok-to_vec-2.field-0.items ≡ c.self.inside.links.items = search rules in
    let hops : c.in_ok-to_vec-3.field-0.items ≡ c.self.inside.hops.items = search rules in
    let ranked : c.in_ok-to_vec-4.field-0.items ≡ c.self.inside.ranked.items = search rules in
    let order : c.in_ok-to_vec-5.field-0.items ≡ c.self.inside.order.items = search rules in
    let trees : c.in_ok-to_vec-6.field-0.items ≡ c.self.inside.trees.items = search rules in
    let sorted : c.in_ok-to_vec-7.field-0.items ≡ c.self.inside.sorted.items = search rules in
    rw (ends, links, hops, ranked, order, trees, sorted) c.self.invariant
