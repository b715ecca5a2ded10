use Rattle.std.proofs.Common.{◌≡◌, drop}
use Rattle.std.specs.List.{list_any}
use Rattle.tree_model.specs.Goals.{addr_of}
use Rattle.network_model.specs.NodeConfig.{is_addr}
use Rattle.network_flight.proofs.sending.has_addressed.Given as goal

abbrev pub invariant-loop-end : goal.invariant-loop-end
invariant-loop-end l =
    list_any (λ e. is_addr (addr_of l.wires e) l.dst) (drop l.end-index l.ends) ≡ list_any (λ e. is_addr (addr_of l.wires e) l.dst) l.ends
