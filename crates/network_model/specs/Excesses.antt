-- What an interface has too little of for the merged reservations on it (RFC 2205, 1: admission control).
use Rattle.std.specs.Prelude.{ℕ, List, Option, None, Some, nat_lt, option_and_then, slice_get, if◌then◌else◌}
use Rattle.rsvp_base.specs.Table.{get}
use Rattle.rsvp_base.specs.declared.iface.Iface.{Iface}
use Rattle.rsvp_base.specs.declared.part.Part.{Part}
use Rattle.router_examples.specs.RouterRules.Lines.{held}
use Rattle.router_examples.specs.RouterRules.Books.{book}
use Rattle.router_examples.specs.RouterRules.Calls.{entry_of}
use Rattle.router_examples.specs.RouterRules.Facts.{Facts}
use Rattle.router_examples.specs.RouterRules.Inputs.{Stale, StalePath, StaleResv, StaleWall}
use Rattle.network_model.specs.declared.excess.Excess.{Excess}
use Rattle.network_model.specs.declared.excess.Excess.TheVariants.{Packet, Rate}

-- where the rates of all entries come to this sum: the packets of an entry are above the MTU; or else the sum is above the capacity
abbrev pub excess_on : Iface → ℕ → Option Part → Option Excess
excess_on on sum None = None
excess_on on sum (Some part) = if nat_lt on.mtu part.flow.most then Some (Packet part.flow.most on.mtu) else (if nat_lt on.capacity sum then Some (Rate sum on.capacity) else None)

-- by the entry of a fact that is left over at a node with these interfaces and facts; only a reservation has one
abbrev pub excess_at : List Iface → Stale → Facts → Option Excess
excess_at ifaces (StalePath k x) f = None
excess_at ifaces (StaleResv st k r) f = option_and_then (λ on. excess_on on (held (book f k.1.0.0)) (get (book f k.1.0.0) (entry_of st k))) (slice_get ifaces k.1.0.0)
excess_at ifaces (StaleWall k b) f = None
