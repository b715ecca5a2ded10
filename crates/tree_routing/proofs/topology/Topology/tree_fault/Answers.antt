use Rattle.std.proofs.Common.{List, [], subst, sym, take, slice_index_or}
use Rattle.tree_model.specs.declared.hops.LinkHop.{LinkHop}
use Rattle.tree_model.specs.Trees.{IsGrown}
use Rattle.tree_routing.proofs.LeastLaws.{take_one_more}
use Rattle.tree_routing.proofs.ValidMore.{grown_push}
use Rattle.tree_routing.proofs.topology.Topology.tree_fault.Goals as goal

pub loop-place-preserved : goal.loop-place-preserved
loop-place-preserved c =
    let nothing : LinkHop = record { from = 0; to = 0 } in
    let before = take c.loop-place.place c.args.hops.now in
    let hop = slice_index_or c.args.hops.now c.loop-place.place nothing in
    subst (λ (hs : List LinkHop). IsGrown c.args.self.now c.args.source hs) (sym (take_one_more c.args.hops.now c.loop-place.place nothing c.loop-place-test.true))
    (grown_push c.args.self.now c.args.source [] before hop c.loop-place.invariant (c.in_default.ensures))
