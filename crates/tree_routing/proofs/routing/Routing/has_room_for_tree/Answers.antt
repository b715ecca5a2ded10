use Rattle.std.proofs.Common.{◌≡◌, ◌+◌, ap, count_by, length, rules, sym, ◌∙◌}
use Rattle.tree_model.specs.Networks.{Net}
use Rattle.tree_routing.specs.Reroutes.{is_other, rerouted}
use Rattle.tree_routing.proofs.ReroutedLaws.{hops_then}
use Rattle.tree_routing.proofs.routing.Routing.has_room_for_tree.Goals as goal

pub returns-then-hops-le8192 : goal.returns-then-hops-le8192
returns-then-hops-le8192 c =
    let g = c.args.group in
    let s = c.args.source in
    let ks = c.self.inside.hops.items in
    let hs = c.args.hops.now in
    let count : c.other_hops.result ≡ count_by (is_other g s) ks = c.other_hops.ensures.count ∙ ap (count_by (is_other g s)) c.as_slice.ensures.value in
    let is : length (rerouted c.args.self.now g s hs).hops ≡ c.other_hops.result + length hs =
    hops_then g s c.args.self.now ks hs (ap (λ (n : Net). n.hops) (sym c.self.view_is)) ∙ ap (λ n. n + length hs) (sym count) in
    rw is (search rules)
