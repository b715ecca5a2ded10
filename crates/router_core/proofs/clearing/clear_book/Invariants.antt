use Rattle.std.proofs.Common.{◌≡◌}
use Rattle.router_core.proofs.Emptying.{IsEmptyBelow}
use Rattle.router_core.proofs.clearing.clear_book.Given as goal

abbrev pub invariant-loop-iface : goal.invariant-loop-iface
invariant-loop-iface l = record { done : IsEmptyBelow l.iface l.book.entries; ifaces : l.book.ifaces ≡ l.fn.book.ifaces }
