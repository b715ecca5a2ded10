use Rattle.std.proofs.Common.{take}
use Rattle.laws_sends.specs.Saying.{IsCleared}
use Rattle.router_state.specs.Whole.{state_of}
use Rattle.resv_sends.specs.Rounds.{lanes_of}
use Rattle.resv_sends.proofs.clearing.clear_style.Given as goal

abbrev pub invariant-loop-i : goal.invariant-loop-i
invariant-loop-i l = IsCleared (state_of l.tables l.initial.said) l.session (lanes_of l.style (take l.i l.list)) l.said
