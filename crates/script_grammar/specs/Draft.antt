-- What the lines of a script have said so far.
use Rattle.std.specs.Prelude.{◌≡◌, ℕ, ◌*◌, ◌/◌, Bool, List, [], ◌∷◌, ◌++◌, Option, None, Some, length, position, slice_get, unwrap_or, if◌then◌else◌}
use Rattle.std.specs.List.{list_any}
use Rattle.std.specs.Ordering.{eq_by_cmp}
use Rattle.std.specs.Str.{bytes_eq}
use Rattle.rsvp_base.specs.declared.addr.Addr.{Addr}
use Rattle.rsvp_base.specs.declared.session.Session.{Session}
use Rattle.rsvp_base.specs.Orders.{sessions as by_session}
use Rattle.network_model.specs.RouterRules.Inputs.{Stale}
use Rattle.network_model.specs.TreeModel.declared.hops.TreeHop.{TreeHop}
use Rattle.network_model.specs.TreeModel.Networks.{Net}
use Rattle.network_model.specs.TreeModel.Wants.{Locals}
use Rattle.tree_routing.specs.Answers.{no_net}
use Rattle.network_model.specs.Events.{Event}
use Rattle.network_model.specs.Runs.{Plan}

-- Nodes and ends have numbers from 0 in the order of their lines. `net` is the network that is declared, with the hops of
-- its `hop` lines; `force` are the hops of the trees in force, which `reroute` changes. `locals` are the senders that send
-- and the wants that stand behind these lines.
pub record Draft : Type 0 where
  -- in milliseconds
  pub period : Option ℕ
  pub seed : Option ℕ
  -- the names of nodes and of ends, by number
  pub nodes : List (List ℕ)
  pub names : List (List ℕ)
  pub net : Net
  pub force : List TreeHop
  -- the ends of which a line says the latency
  pub timed : List ℕ
  -- what is left over, each at its node
  pub stale : List (ℕ × Stale)
  -- the sessions that were named, each once
  pub sessions : List Session
  pub locals : Locals
  pub events : List Event

abbrev pub nothing : Draft
nothing = record {
  period = None;
  seed = None;
  nodes = [];
  names = [];
  net = no_net;
  force = [];
  timed = [];
  stale = [];
  sessions = [];
  locals = record { senders = []; wants = [] };
  events = [];
}

-- ---- periods and lifetimes, in milliseconds
-- the period R where no line gives one (RFC 2205, 3.7)
abbrev pub usual_period : ℕ
usual_period = 30000

abbrev pub period_of : Draft → ℕ
period_of d = unwrap_or d.period usual_period

-- the lifetime of state that was refreshed with this period: 21 quarters of it, which is (K + 0.5) * 1.5 * R with K = 3
-- (RFC 2205, 3.7)
abbrev pub lifetime_of_period : ℕ → ℕ
lifetime_of_period period = 21 * (period / 4)

-- that of a blockade
abbrev pub wall_lifetime_of_period : ℕ → ℕ
wall_lifetime_of_period period = 4 * period

-- where the random words start if no line says so
abbrev pub usual_seed : ℕ
usual_seed = 1

-- ---- names
-- the place of a name in a list
abbrev pub place_of : List (List ℕ) → List ℕ → Option ℕ
place_of names name = position (bytes_eq name) names

abbrev pub node_named : Draft → List ℕ → Option ℕ
node_named d name = place_of d.nodes name

abbrev pub end_named : Draft → List ℕ → Option ℕ
end_named d name = place_of d.names name

-- their numbers; 0 where there is none
abbrev pub node_number : Draft → List ℕ → ℕ
node_number d name = unwrap_or (node_named d name) 0

abbrev pub end_number : Draft → List ℕ → ℕ
end_number d name = unwrap_or (end_named d name) 0

-- ---- the routing in force
abbrev pub with_hops : Net → List TreeHop → Net
with_hops net hops = record { nodes = net.nodes; ends = net.ends; links = net.links; hops = hops }

abbrev pub routing : Draft → Net
routing d = with_hops d.net d.force

-- ---- sessions
abbrev pub same_session : Session → Session → Bool
same_session a b = eq_by_cmp by_session.cmp a b

-- with a session that is named, once
abbrev pub with_session : List Session → Session → List Session
with_session named s = if list_any (same_session s) named then named else named ++ s ∷ []

-- ---- what these lines say as a whole
abbrev pub plan_of : Draft → Plan
plan_of d = record {
  quarter = period_of d / 4;
  seed = unwrap_or d.seed usual_seed;
  net = d.net;
  names = d.names;
  stale = d.stale;
  events = d.events;
}
