use Rattle.soft_table.specs.Ring.{Has}
use Rattle.soft_table.proofs.marks.middle.Given as goal

abbrev pub invariant-loop-step : goal.invariant-loop-step
invariant-loop-step g l = Has l.slots.slots l.at
