use Rattle.std.proofs.Common.{◌≡◌, take}
use Rattle.stale_state.proofs.Interfaces.{ifaces_in, own}
use Rattle.stale_state.proofs.ifaces.ifaces_of.Given as goal

-- those of the node so far
abbrev pub invariant-loop-end : goal.invariant-loop-end
invariant-loop-end l = l.ifaces.items ≡ ifaces_in (own l.node (take l.end-index l.ends))
