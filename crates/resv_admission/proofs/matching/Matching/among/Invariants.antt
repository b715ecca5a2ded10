use Rattle.std.specs.Prelude.{take}
use Rattle.rsvp_base.specs.Table.{has}
use Rattle.resv_state.proofs.Kept.{AreKept}
use Rattle.resv_admission.proofs.matching.Matching.among.Given as goal

abbrev pub invariant-loop-name : goal.invariant-loop-name
invariant-loop-name l = AreKept (has l.self) l.names l.left (take l.name-index l.name-items)
