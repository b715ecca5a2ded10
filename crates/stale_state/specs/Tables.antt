-- The facts that tables stand for when a script begins, at the moment 0: a fact dies when it has lived what is left of it.
use Rattle.std.specs.Prelude.{List, [], Option, None, Some}
use Rattle.rsvp_base.specs.declared.iface.Iface.{Iface}
use Rattle.rsvp_base.specs.Table.{changed, empty}
use Rattle.resv_state.specs.Resvs.{ResvFacts}
use Rattle.path_state.specs.Paths.{PathMap}
use Rattle.blockade_state.specs.Blockades.{WallMap}
use Rattle.resv_admission.specs.RouterState.State.{path_at, resv_at, wall_at}
use Rattle.router_rules.specs.Bounds.{AreBooked}
use Rattle.router_rules.specs.Facts.{Facts, Paths, ResvTables, Walls}
use Rattle.router_rules.specs.NodeConfig.{NodeConfig}

abbrev pub paths_of : Option PathMap → Paths
paths_of None = empty
paths_of (Some t) = changed (path_at 0) t.facts

abbrev pub walls_of : Option WallMap → Walls
walls_of None = empty
walls_of (Some t) = changed (wall_at 0) t

abbrev pub tables_of : ResvFacts → ResvFacts → ResvFacts → ResvTables
tables_of wild fixed shared = record { wild = changed (resv_at 0) wild; fixed = changed (resv_at 0) fixed; shared = changed (resv_at 0) shared }

-- a node that has learnt this, and has no local senders and wants
abbrev pub learnt : Paths → ResvTables → Walls → Facts
learnt paths resvs walls = record { senders = empty; advertised = empty; wants = empty; paths = paths; resvs = resvs; walls = walls; due = empty }

abbrev pub only_resvs : ResvTables → Facts
only_resvs resvs = learnt empty resvs empty

-- somewhere, with these interfaces
abbrev pub place_with : List Iface → NodeConfig
place_with ifaces = record { quarter = 0; ifaces = ifaces; routes = [] }

-- the merged reservations on each of these interfaces pass neither its capacity nor its MTU (RFC 2205, 1: admission control)
abbrev pub AreAdmitted : List Iface → Facts → Type 0
AreAdmitted ifaces f = AreBooked (place_with ifaces) f
