-- A datagram that is being delivered.
use Rattle.std.specs.Prelude.{◌≡◌, ℕ, List, [], Option, None, Some, slice_get}
use Rattle.rsvp_base.specs.declared.addr.Addr.{Addr}
use Rattle.tree_model.specs.Networks.{Net}
use Rattle.tree_model.specs.declared.hops.End.{End}
use Rattle.network_flight.specs.Runs.{node_facts, delivery_text}
use Rattle.network_flight.specs.Steps.{Deliver, outcome}
use Rattle.network_flight.specs.Worlds.{Item, World}
use Rattle.router_rules.specs.Facts.{Facts}
use Rattle.router_rules.specs.Inputs.{Arrival}
use Rattle.router_rules.specs.declared.answers.Heard.{Heard}
use Rattle.network_flight.specs.Parcels.{parcel}
use Rattle.network_replay.specs.Agreeing.{IsItem}

-- what the node of its end makes of an item, where both are there
abbrev pub heard_at : ℕ → World → ℕ → Item → Option End → Option Facts → Option Heard
heard_at q w k x (Some e) (Some f) = Some (outcome q (Deliver k) w e.node f).heard
heard_at q w k x (Some e) None = None
heard_at q w k x None f = None

abbrev pub heard_of : ℕ → World → ℕ → Item → Option Heard
heard_of q w k x = heard_at q w k x (slice_get w.net.ends x.end) (node_facts w (slice_get w.net.ends x.end))

-- its trace line, where the end has a name
abbrev pub told : Option (List ℕ) → Arrival → Option Heard → List ℕ
told (Some name) a (Some h) = delivery_text name a h
told (Some name) a None = []
told None a h = []

-- it is the one at a place of the world, whose network this is
pub record IsDue (net : Net) (end : ℕ) (dst : Addr) (bytes : List ℕ) (w : World) (k : ℕ) : Type 0 where
  pub item : Item
  pub there : slice_get w.flight k ≡ Some item
  pub is : IsItem (parcel dst bytes end) item
  pub wired : w.net ≡ net
