use Rattle.std.proofs.Common.{take}
use Rattle.rsvp_base.specs.Table.{has}
use Rattle.resv_state.specs.Merging.{names_by}
use Rattle.resv_state.proofs.Kept.{AreKept}
use Rattle.resv_state.proofs.merging.names_by.Given as goal

abbrev pub invariant-loop-name : goal.invariant-loop-name
invariant-loop-name l = AreKept (has (names_by l.iface l.up)) l.names l.left (take l.name-index l.name-items)
