use Rattle.std.proofs.Common.{take}
use Rattle.resv_state.proofs.Tears.{Torn}
use Rattle.resv_state.proofs.table.ResvTable.remove.Given as goal

abbrev pub invariant-loop-name : goal.invariant-loop-name
invariant-loop-name g l = Torn g.S.Style.kind_is l.session (l.iface, l.next) l.gone l.fn.self l.self l.had (take l.name-index l.name-items)
