use Rattle.soft_table.proofs.Passing.{IsPassing}
use Rattle.std.proofs.Common.{◌≡◌}
use Rattle.soft_table.proofs.wheel.pass.Given as goal

abbrev pub invariant-loop-step : goal.invariant-loop-step
invariant-loop-step g l = IsPassing l.entries l.clock l.now l.first l.step l.lists.homes × (l.lists.room ≡ l.fn.lists.room)
