-- The pair of nodes meets the premises of the laws of paths.
use Rattle.std.specs.Prelude.{◌≡◌, ℕ, false, [], ◌∷◌, Some, codes, None}
use Rattle.rsvp_base.specs.Table.{get}
use Rattle.calm_rounds.specs.Rounds.{Rounds}
use Rattle.router_rules.specs.Facts.{PathState}
use Rattle.router_rules.specs.Inputs.{StalePath}
use Rattle.network_model.specs.ThreeRouters.{s1, session, first, usual}
use Rattle.tree_model.specs.Ranks.{longest}
use Rattle.network_model.specs.Bounds.{AreBounds, AreHosts}
use Rattle.network_model.specs.Locals.{IsLive}
use Rattle.network_model.specs.Runs.{Plan, first_facts, first_world}
use Rattle.network_model.specs.Sound.{ArePathsComplete, ArePathsSound}
use Rattle.network_model.specs.Steps.{machine}
use Rattle.network_model.specs.Worlds.{World}
use Rattle.laws_network.specs.Example.{pair_net, sending_world}
use Rattle.laws_network.specs.Rounds.{rounds_of}

pub record MeetsThePremises : Type 0 where
  pub bounds : AreBounds 7500 sending_world
  pub locals : AreHosts sending_world
  pub live : IsLive sending_world (session, first) usual
  pub hop : longest sending_world.net ≡ 1
  -- however many rounds, they are calm
  pub rounds : (k : ℕ) → Rounds (machine 7500) (rounds_of 7500 k sending_world) sending_world
  -- what is promised does not hold yet
  pub not_yet : ArePathsComplete sending_world → ⊥

-- ---- a left-over path of a sender that nobody is
abbrev pub stale_path : PathState
stale_path = record { iface = 0; hop = record { addr = s1; handle = 0 }; tspec = usual; police = false; adspec = None; dies = 157500 }

abbrev pub stale_plan : Plan
stale_plan = record { quarter = 7500; seed = 1; net = pair_net; names = codes "s1" ∷ codes "r1" ∷ []; stale = (1, StalePath (session, first) stale_path) ∷ []; events = [] }

abbrev pub stale_world : World
stale_world = first_world stale_plan

pub record APathIsLeftOver : Type 0 where
  pub bounds : AreBounds 7500 stale_world
  pub rounds : (k : ℕ) → Rounds (machine 7500) (rounds_of 7500 k stale_world) stale_world
  pub there : get (first_facts stale_plan 1).paths (session, first) ≡ Some stale_path
  -- what is promised does not hold yet
  pub not_yet : ArePathsSound stale_world → ⊥
