-- A place as code has it.
use Rattle.std.specs.Prelude.{ℕ, List}
use Rattle.rsvp_base.specs.Table.{Table}
use Rattle.rsvp_base.specs.declared.addr.Addr.{Addr}
use Rattle.router_rules.specs.NodeConfig.{NodeConfig}
use Rattle.router_rules.specs.declared.route.Route.{Route}
use Rattle.node_stream.specs.Blames.{IsPlaceBlame}
use Rattle.node_stream.specs.Rules.{tree_keys, tree_of}
use Rattle.node_stream.specs.declared.placing.Place.{Place}
use Rattle.node_stream.specs.declared.placing.PlaceErr.{PlaceErr}
use Rattle.node_stream.specs.declared.placing.PlaceErr.TheVariants.{Bad, NoMemory}

abbrev pub place_of : Place → NodeConfig
place_of q = record { quarter = q.quarter; ifaces = q.ifaces.items; routes = q.routes.items }

-- a route under its group and source
abbrev pub tree_row : Route → (Addr × Addr) × Route
tree_row r = (tree_of r, r)

abbrev pub RouteTable : Type 0
RouteTable = Table tree_keys Route

-- there is something to blame, or memory ran out
abbrev pub IsBadPlace : List ℕ → PlaceErr → Type 0
IsBadPlace contents (Bad b) = IsPlaceBlame contents b
IsBadPlace contents NoMemory = Unit {0}
