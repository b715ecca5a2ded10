use Rattle.std.proofs.Common.{◌≡◌, length}
use Rattle.blockade_state.specs.Touched.{sessions_of, touched_by}
use Rattle.blockade_state.proofs.table.pull_touching.Given as goal

abbrev pub invariant-loop-kept : goal.invariant-loop-kept
invariant-loop-kept l =
    record {
      facts : l.table.facts ≡ l.initial.table.facts;
      room : l.table.room ≡ l.initial.table.room;
      touched : touched_by (sessions_of l.table.dead) l.touched ≡ touched_by (sessions_of l.initial.table.dead) l.initial.touched;
    }

abbrev pub decreases-loop-kept : goal.decreases-loop-kept
decreases-loop-kept l = length l.table.dead
