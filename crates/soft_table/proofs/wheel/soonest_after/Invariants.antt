use Rattle.soft_table.proofs.Passing.{AreEmpty}
use Rattle.soft_table.proofs.wheel.soonest_after.Given as goal

abbrev pub invariant-loop-step : goal.invariant-loop-step
invariant-loop-step l = AreEmpty l.lists.homes l.first l.step
