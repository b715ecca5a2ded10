use Rattle.std.proofs.Common.{arith}
use Rattle.std.specs.Prelude.{true, slice_set}
use Rattle.tree_routing.proofs.MarkLaws.{reach_is, set_here, set_only, length_set}
use Rattle.tree_routing.proofs.marks.mark_from.Goals as goal

pub returns : goal.returns
returns c =
    let same = length_set c.args.marks.now c.args.from in
    reach_is c.args.hops.now c.args.from c.spread.ensures.passes.0 (slice_set c.args.marks.now c.args.from true) c.spread.new.marks c.spread.ensures.passes.1 c.spread.ensures.still
    (set_here c.args.marks.now c.args.from c.requires.from) (λ w e. set_only c.args.marks.now c.args.from w c.requires.none e)
    (λ k i. let lt = c.requires.below k i in omega arith)
