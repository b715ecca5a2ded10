use Rattle.tree_routing.proofs.MarkLaws.{smaller, carried_on, at_rest}
use Rattle.tree_routing.proofs.marks.spread.Goals as goal

pub loop-moved-smaller : goal.loop-moved-smaller
loop-moved-smaller c = smaller c.args.hops.now c.loop-moved.marks c.carry_all-moved.new.marks c.carry_all-moved.result c.loop-moved.moved c.carry_all-moved.ensures.told
    c.carry_all-moved.ensures.marks c.loop-moved-test.true

pub loop-moved-preserved : goal.loop-moved-preserved
loop-moved-preserved c = (
  carried_on c.args.hops.now c.args.marks.now c.loop-moved.marks c.carry_all-moved.new.marks c.carry_all-moved.ensures.marks c.loop-moved.invariant.0,
  at_rest c.args.hops.now c.loop-moved.marks c.carry_all-moved.new.marks c.carry_all-moved.result c.carry_all-moved.ensures.told c.carry_all-moved.ensures.marks,
)
