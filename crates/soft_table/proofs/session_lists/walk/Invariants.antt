use Rattle.std.proofs.Common.{◌≤◌, Some}
use Rattle.soft_table.specs.Lists.{IsStart}
use Rattle.soft_table.proofs.session_lists.walk.Given as goal

abbrev pub invariant-loop-step : goal.invariant-loop-step
invariant-loop-step g l = (w : IsStart g.O.RestOrder.rests l.keys l.slots.slots (l.session, l.rest) (Some l.slot)) × (l._step ≤ w.place)
