use Rattle.std.proofs.Common.{◌≡◌, length}
use Rattle.blockade_state.proofs.table.pull_all.Given as goal

abbrev pub invariant-loop : goal.invariant-loop
invariant-loop l = record { facts : l.table.facts ≡ l.initial.table.facts; room : l.table.room ≡ l.initial.table.room }

abbrev pub decreases-loop : goal.decreases-loop
decreases-loop l = length l.table.dead
