use Rattle.std.specs.Prelude.{not, take}
use Rattle.rsvp_base.specs.Table.{has}
use Rattle.resv_state.proofs.Kept.{AreKept}
use Rattle.resv_admission.proofs.matching.Matching.beside.Given as goal

abbrev pub invariant-loop-name : goal.invariant-loop-name
invariant-loop-name l = AreKept (λ x. not (has l.self x)) l.names l.left (take l.name-index l.name-items)
