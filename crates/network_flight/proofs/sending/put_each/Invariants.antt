use Rattle.std.proofs.Common.{◌≡◌, ◌++◌, take}
use Rattle.std.specs.Prelude.{map as each}
use Rattle.message_codec.specs.Encoding.{encoding}
use Rattle.network_flight.specs.Parcels.{parcel}
use Rattle.network_flight.proofs.sending.put_each.Given as goal

abbrev pub invariant-loop-end : goal.invariant-loop-end
invariant-loop-end l = record { put : l.flight ≡ l.initial.flight ++ each (parcel l.dst (encoding l.message)) (take l.end-index l.ends) }
