use Rattle.resv_state.proofs.Forgets.{Forgot}
use Rattle.resv_state.proofs.table.ResvTable.forget_sender.Given as goal

abbrev pub invariant-loop-k : goal.invariant-loop-k
invariant-loop-k g l = Forgot l.session l.gone l.fn.self l.self l.next l.k
