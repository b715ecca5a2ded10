-- Small networks that meet the premises.
use Rattle.std.specs.Prelude.{◌≡◌, ℕ, false, true, [], ◌∷◌, Option, Some, codes, slice_get, unwrap_or}
use Rattle.std.specs.Option.{option_map}
use Rattle.rsvp_base.specs.declared.flow.Peak.TheVariants.{Finite}
use Rattle.rsvp_base.specs.declared.iface.Iface.{Iface}
use Rattle.rsvp_base.specs.Table.{get}
use Rattle.rsvp_messages.specs.RsvpObjects.declared.adspec.Adspec.{Adspec}
use Rattle.calm_rounds.specs.Machine.{run}
use Rattle.calm_rounds.specs.Rounds.{Rounds}
use Rattle.adspec_path.specs.Composing.{start}
use Rattle.router_rules.specs.Facts.{PathState, no_facts}
use Rattle.router_rules.specs.Inputs.{AdvertAs, StalePath}
use Rattle.network_model.specs.ThreeRouters.{first, group, s1, session, usual}
use Rattle.tree_model.specs.declared.hops.LinkHop.{LinkHop}
use Rattle.network_model.specs.Bounds.{AreBounds, AreHosts}
use Rattle.network_model.specs.Locals.{IsLive}
use Rattle.network_model.specs.Runs.{Plan, first_facts, first_world}
use Rattle.network_model.specs.Steps.{At, Deliver, machine, step}
use Rattle.network_model.specs.Worlds.{World}
use Rattle.laws_network.specs.Example.{pair_net, sending_world}
use Rattle.laws_network.specs.Rounds.{rounds_of}
use Rattle.settle_adverts.specs.Adverts.{AreAdvertsExact, AreAdvertsThere, advert_at}
use Rattle.settle_adverts.specs.Ways.{way}

-- ---- a left-over path of a sender that nobody is, with the ADSPEC with which a Path leaves its sender's node
abbrev pub on : Iface
on = record { addr = s1; capacity = 20000; mtu = 1500; latency = 100 }

abbrev pub kept_path : PathState
kept_path = record { iface = 0; hop = record { addr = s1; handle = 0 }; tspec = usual; police = false; adspec = Some (start on); dies = 157500 }

abbrev pub kept_plan : Plan
kept_plan = record {
  quarter = 7500;
  seed = 1;
  net = pair_net;
  names = codes "s1" ∷ codes "r1" ∷ [];
  stale = (1, StalePath (session, first) kept_path) ∷ [];
  events = [];
}

abbrev pub kept_world : World
kept_world = first_world kept_plan

pub record AnAdspecIsLeftOver : Type 0 where
  pub bounds : AreBounds 7500 kept_world
  pub hosts : AreHosts kept_world
  -- however many rounds, they are calm
  pub rounds : (k : ℕ) → Rounds (machine 7500) (rounds_of 7500 k kept_world) kept_world
  pub there : get (first_facts kept_plan 1).paths (session, first) ≡ Some kept_path
  -- what is promised does not hold yet
  pub not_yet : AreAdvertsExact kept_world → ⊥

-- ---- a host that sends, and is told to advertise
abbrev pub advertised_world : World
advertised_world = step 7500 (At 0 (AdvertAs session first)) sending_world

-- one hop, and what the interface of its node has
abbrev pub one_hop : Adspec
one_hop = record { broken = false; hops = 1; rate = Finite 10000; latency = 0; mtu = 1500; load = Some false; others = [] }

-- what the other node keeps, once the Path without an ADSPEC and the one with it have arrived
abbrev pub heard_world : World
heard_world = run (machine 7500) (Deliver 0 ∷ Deliver 0 ∷ []) advertised_world

pub record ASenderIsAdvertised : Type 0 where
  pub bounds : AreBounds 7500 advertised_world
  pub hosts : AreHosts advertised_world
  pub live : IsLive advertised_world (session, first) usual
  pub rounds : (k : ℕ) → Rounds (machine 7500) (rounds_of 7500 k advertised_world) advertised_world
  pub goes : way pair_net group s1 1 ≡ record { from = 0; to = 1 } ∷ []
  pub composed : advert_at advertised_world (session, first) 1 ≡ Some one_hop
  -- what is promised does not hold yet
  pub not_yet : AreAdvertsThere advertised_world → ⊥
  pub heard : option_map (λ x. x.adspec) (get (unwrap_or (slice_get heard_world.nodes 1) no_facts).paths (session, first)) ≡ Some (Some one_hop)
