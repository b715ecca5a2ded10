use Rattle.std.proofs.Common.{◌≡◌, ◌-◌, length, drop, map as each}
use Rattle.rsvp_base.specs.Table.{changed_rows}
use Rattle.local_state.specs.Wants.{asked_row, own_want}
use Rattle.local_state.proofs.wants.LocalWants.own.Given as goal

abbrev pub invariant-loop-i : goal.invariant-loop-i
invariant-loop-i l = l.parts.rows ≡ changed_rows (own_want l.style l.names) (each asked_row (drop (length l.wants - l.i) l.wants))
