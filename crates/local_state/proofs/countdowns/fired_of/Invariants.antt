use Rattle.std.proofs.Common.{◌≡◌, take, map as each}
use Rattle.std.specs.List.{filter_map}
use Rattle.local_state.specs.Counting.{fired_row}
use Rattle.local_state.specs.Rows.{session_row}
use Rattle.local_state.proofs.countdowns.fired_of.Given as goal

abbrev pub invariant-loop-i : goal.invariant-loop-i
invariant-loop-i l = each session_row l.list.items ≡ filter_map (fired_row l.ms) (take l.i l.rows)
