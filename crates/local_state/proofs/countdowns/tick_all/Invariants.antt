use Rattle.std.proofs.Common.{◌≡◌}
use Rattle.std.specs.Prelude.{vec_capacity}
use Rattle.local_state.specs.Counting.{ticked_row}
use Rattle.local_state.proofs.Ticking.{front_done}
use Rattle.local_state.proofs.countdowns.tick_all.Given as goal

abbrev pub invariant-loop-i : goal.invariant-loop-i
invariant-loop-i l =
    record {
      rows : l.rows.items ≡ front_done (ticked_row l.quarter l.ms l.word) l.i l.initial.rows.items;
      capacity : vec_capacity l.rows ≡ vec_capacity l.initial.rows;
    }
