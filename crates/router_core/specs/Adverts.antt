-- What the paths of a node offer, as its table of paths has them.
use Rattle.std.specs.Prelude.{ℕ, ◌==◌, cond, List, map as each, Option, None, Some}
use Rattle.std.specs.List.{filter_map}
use Rattle.std.specs.Option.{option_map}
use Rattle.rsvp_objects.specs.declared.adspec.Adspec.{Adspec}
use Rattle.path_state.specs.Paths.{path_keys}
use Rattle.path_state.specs.declared.fact.PathFact.{PathFact}
use Rattle.rsvp_base.specs.Orders.{sessions, senders}
use Rattle.rsvp_base.specs.Table.{Table}
use Rattle.rsvp_base.specs.Under.{under}
use Rattle.rsvp_base.specs.declared.session.Session.{Session}
use Rattle.router_rules.specs.Facts.{PathState, SenderKey}

-- what the path of a sender keeps
abbrev pub kept_in : Option PathState → Option Adspec
kept_in None = None
kept_in (Some x) = x.adspec

-- of a path that came by this interface, the ADSPEC that it keeps
abbrev pub fact_advert : ℕ → PathFact → Option (SenderKey × Adspec)
fact_advert i f = cond (f.iface == i) (option_map (λ a. ((f.session, f.sender), a)) f.adspec) None

-- those of a session
abbrev pub session_adverts : ℕ → Table path_keys (PathFact × ℕ) → Session → List (SenderKey × Adspec)
session_adverts i paths s = filter_map (fact_advert i) (each (λ e. e.1.0) (under sessions senders paths s).rows)
