use Rattle.std.proofs.Common.{◌≤◌, ◌-◌, length, IfSome}
use Rattle.soft_table.specs.Lists.{IsUpTo}
use Rattle.soft_table.proofs.session_lists.pass_marks.Given as goal

abbrev pub invariant-loop-count : goal.invariant-loop-count
invariant-loop-count g l = record {
  last : IfSome l.last (λ s. IsUpTo g.O.RestOrder.rests l.keys (l.session, l.rest) s);
  below : l.count ≤ l.behind;
  within : l.behind ≤ length l.marks;
}

abbrev pub decreases-loop-count : goal.decreases-loop-count
decreases-loop-count g l = l.behind - l.count
