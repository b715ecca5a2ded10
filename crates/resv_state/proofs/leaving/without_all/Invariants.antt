use Rattle.std.proofs.Common.{take}
use Rattle.resv_state.specs.Leaving.{stays}
use Rattle.resv_state.proofs.Kept.{AreKept}
use Rattle.resv_state.proofs.leaving.without_all.Given as goal

abbrev pub invariant-loop-name : goal.invariant-loop-name
invariant-loop-name l = AreKept (stays l.gone) l.senders l.left (take l.name-index l.name-items)
