-- The reservations that are left over at a node.
use Rattle.std.specs.Prelude.{List, Option, None, Some}
use Rattle.rsvp_base.specs.declared.iface.Iface.{Iface}
use Rattle.router_rules.specs.Facts.{ResvTables, no_resvs}
use Rattle.stale_state.specs.Tables.{tables_of}
use Rattle.stale_state.specs.declared.resvs.ResvsLeft.{ResvsLeft}

abbrev pub tables_in : ResvsLeft → ResvTables
tables_in r = tables_of r.wild.facts r.fixed.facts r.shared.facts

abbrev pub resvs_in : Option ResvsLeft → ResvTables
resvs_in None = no_resvs
resvs_in (Some r) = tables_in r

-- the interfaces whose book is kept, where reservations are left over
abbrev pub ifaces_in : Option ResvsLeft → Option (List Iface)
ifaces_in None = None
ifaces_in (Some r) = Some r.book.ifaces
