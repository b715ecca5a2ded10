use Rattle.std.proofs.Common.{◌≡◌, take}
use Rattle.rsvp_base.specs.Table.{changed}
use Rattle.resv_sends.proofs.Unmarked.{without_marks}
use Rattle.resv_sends.proofs.marks.unmark_all.Given as goal

abbrev pub invariant-loop-i : goal.invariant-loop-i
invariant-loop-i l = l.wants ≡ changed (without_marks l.session (take l.i l.list)) l.initial.wants
