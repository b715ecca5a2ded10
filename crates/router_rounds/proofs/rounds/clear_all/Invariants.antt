use Rattle.std.proofs.Common.{take, map as each}
use Rattle.router_state.specs.Whole.{state_of}
use Rattle.router_rounds.specs.Rounds.{AreCleared}
use Rattle.router_rounds.specs.Nears.{near_row}
use Rattle.router_rounds.proofs.rounds.clear_all.Given as goal

abbrev pub invariant-loop-i : goal.invariant-loop-i
invariant-loop-i l = AreCleared (state_of l.tables l.initial.said) (each near_row (take l.i l.list)) l.said
