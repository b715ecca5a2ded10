use Rattle.std.proofs.Common.{◌≡◌, ◌++◌, take}
use Rattle.std.specs.Prelude.{map as each}
use Rattle.std.specs.List.{filter}
use Rattle.message_codec.specs.Encoding.{encoding}
use Rattle.network_model.specs.NodeConfig.{is_addr}
use Rattle.tree_model.specs.Goals.{addr_of}
use Rattle.network_flight.specs.Parcels.{parcel}
use Rattle.network_flight.proofs.sending.put_addressed.Given as goal

abbrev pub invariant-loop-end : goal.invariant-loop-end
invariant-loop-end l =
    record { put : l.flight ≡ l.initial.flight ++ each (parcel l.dst (encoding l.message)) (filter (λ e. is_addr (addr_of l.wires e) l.dst) (take l.end-index l.ends)) }
