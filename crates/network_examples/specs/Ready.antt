-- The pair of nodes on its way: its paths are settled, a host asks, and its Resv is in flight. Three worlds meet the premises of
-- the rows in the middle of convergence, and what these promise does not hold yet.
use Rattle.std.specs.Prelude.{◌≡◌, ℕ, suc, ◌+◌, ◌*◌, length}
use Rattle.rsvp_messages.specs.declared.message.Message.TheVariants as message
use Rattle.calm_rounds.specs.Hold.{Hold}
use Rattle.calm_rounds.specs.Rounds.{Rounds}
use Rattle.router_rules.specs.Inputs.{Spelt}
use Rattle.router_examples.specs.ThreeRouters.{r1, u1}
use Rattle.tree_model.specs.Goals.{DemandsFit}
use Rattle.tree_model.specs.Ranks.{longest}
use Rattle.network_model.specs.Bounds.{AreBounds, AreHosts}
use Rattle.network_model.specs.Locals.{locals_of}
use Rattle.network_model.specs.Sound.{ArePathsComplete, ArePathsSound, AreResvsExact, AreResvsSound, HasNoFlowError, IsFreeOfBlockade, TakesAll}
use Rattle.network_model.specs.Steps.{Deliver, Inject, machine, step}
use Rattle.network_model.specs.Worlds.{World}
use Rattle.laws_network.specs.Rounds.{rounds_of}
use Rattle.settle_resvs.specs.HopExample.{asking_world}
use Rattle.settle_resvs.specs.BlockadeExample.{the_error, the_resv}

-- the premises, through so many rounds
pub record IsReady (k : ℕ) (w : World) : Type 0 where
  pub hosts : AreHosts w
  pub fit : DemandsFit w.net (locals_of w)
  pub bounds : AreBounds 7500 w
  pub rounds : Rounds (machine 7500) (rounds_of 7500 k w) w
  pub number : length (rounds_of 7500 k w) ≡ k
  pub so_far : Hold (machine 7500) 0 (rounds_of 7500 k w) w (λ u. ArePathsSound u × (ArePathsComplete u × AreResvsSound u))

-- ---- a Resv that asks for what is wanted, to an address that its node does not have: it is dropped when it arrives, and gone
-- after a round
abbrev pub stray_world : World
stray_world = step 7500 (Inject 0 u1 (Spelt (message.Resv the_resv))) asking_world

pub record AResvGoesAstray : Type 0 where
  pub ready : IsReady 2 stray_world
  pub not_yet : TakesAll 7500 (Deliver 1) stray_world → ⊥

-- ---- an error with a flow: it is in flight, and gone after two rounds
abbrev pub blaming_world : World
blaming_world = step 7500 (Inject 1 r1 (Spelt (message.ResvErr the_error))) asking_world

pub record AnErrorIsOnItsWay : Type 0 where
  pub ready : IsReady 3 blaming_world
  pub enough : suc (longest blaming_world.net) ≡ 2
  pub not_yet : HasNoFlowError blaming_world → ⊥

-- ---- a reservation that is asked for, and does not stand yet
pub record AReservationIsOnItsWay : Type 0 where
  pub ready : IsReady 4 asking_world
  pub free : Hold (machine 7500) 0 (rounds_of 7500 4 asking_world) asking_world (λ u. (ArePathsSound u × (ArePathsComplete u × AreResvsSound u)) × IsFreeOfBlockade u)
  pub enough : 1 + 2 * longest asking_world.net ≡ 3
  pub not_yet : AreResvsExact asking_world → ⊥
