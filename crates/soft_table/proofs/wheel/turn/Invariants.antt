use Rattle.soft_table.proofs.Turns.{IsSorting, IsPuttingBack, count}
use Rattle.std.proofs.Common.{◌≡◌}
use Rattle.soft_table.proofs.wheel.turn.Given as goal

abbrev pub invariant-loop-slot : goal.invariant-loop-slot
invariant-loop-slot g l = IsSorting l.list l.now l.entries l.fn.lists.homes l.lists.homes × (l.lists.room ≡ l.fn.lists.room)

abbrev pub decreases-loop-slot : goal.decreases-loop-slot
decreases-loop-slot g l = count l.list l.lists.homes

abbrev pub invariant-loop-slot-2 : goal.invariant-loop-slot-2
invariant-loop-slot-2 g l = IsPuttingBack l.list l.now l.entries l.fn.lists.homes l.lists.homes × (l.lists.room ≡ l.fn.lists.room)

abbrev pub decreases-loop-slot-2 : goal.decreases-loop-slot-2
decreases-loop-slot-2 g l = count 2 l.lists.homes
