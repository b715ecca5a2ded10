-- What a node tells a table of reservations of a previous hop: the names via it, each with its way out and its blockade, and
-- the local wants.
use Rattle.std.specs.Prelude.{ℕ, cond, Option, Some, None}
use Rattle.rsvp_base.specs.Orders.{Names}
use Rattle.rsvp_base.specs.Table.{changed}
use Rattle.rsvp_base.specs.declared.part.Part.{Part}
use Rattle.rsvp_base.specs.declared.session.Sender.{Sender}
use Rattle.rsvp_base.specs.declared.style.StyleKind.{StyleKind}
use Rattle.rsvp_base.specs.declared.style.StyleKind.TheVariants.{Wild, Fixed, Shared}
use Rattle.rsvp_base.specs.declared.style.Unit.{Unit as UnitOf}
use Rattle.router_state.specs.StyleRules.declared.wall.Wall.{Wall}
use Rattle.router_state.specs.StyleRules.Merge.{PartTable}
use Rattle.router_state.specs.StyleRules.Ways.{Way, WayTable}
use Rattle.router_state.specs.StyleRules.declared.target.Target.TheVariants as target
use Rattle.router_state.specs.Routes.{ways_out}
use Rattle.router_state.specs.RouterRules.Facts.{Facts, Want, Walls, wants_in}
use Rattle.router_state.specs.RouterRules.Known.{Lane, names_via}
use Rattle.router_state.specs.RouterRules.NodeConfig.{NodeConfig, tree}
use Rattle.router_state.specs.RouterRules.Requests.{is_style, wall_at}

-- the blockade of a name: for the wildcard style that of the hop
abbrev pub wall_for : StyleKind → Walls → Lane → Sender → Option Wall
wall_for Wild w l x = wall_at w (l.session, target.Hop l.hop.0 l.hop.1)
wall_for Fixed w l x = wall_at w (l.session, target.Sender x)
wall_for Shared w l x = wall_at w (l.session, target.Sender x)

abbrev pub way_for : NodeConfig → Facts → Lane → Sender → Way
way_for p f l x = record { outward = ways_out (tree p l.session x); wall = wall_for l.style f.walls l x }

abbrev pub up_for : NodeConfig → Facts → Lane → WayTable
up_for p f l = changed (λ x _. Some (way_for p f l x)) (names_via f l)

abbrev pub own_part : StyleKind → Names → Part → Part
own_part Wild names w = record { senders = names; flow = w.flow }
own_part Fixed names w = w
own_part Shared names w = w

abbrev pub own_want : StyleKind → Names → UnitOf → Want → Option Part
own_want st names u w = cond (is_style w.style st) (Some (own_part st names w.part)) None

abbrev pub own_for : Facts → Lane → PartTable
own_for f l = changed (own_want l.style (names_via f l)) (wants_in f l.session)
