-- The pair of nodes with a reservation that is left over, of a next hop that no end has: it is not sound. And the pair in which
-- a host asks, but nothing is reserved yet: reservations are not exact.
use Rattle.std.specs.Prelude.{◌≡◌, ℕ, [], ◌∷◌, Some}
use Rattle.rsvp_base.specs.declared.style.StyleKind.TheVariants.{Wild}
use Rattle.rsvp_base.specs.declared.style.Unit.TheVariants.{One}
use Rattle.rsvp_base.specs.Table.{get}
use Rattle.style_rules.specs.Lines.{LineKey}
use Rattle.calm_rounds.specs.Hold.{Hold}
use Rattle.calm_rounds.specs.Rounds.{Rounds}
use Rattle.router_rules.specs.Facts.{resvs_of}
use Rattle.router_rules.specs.Inputs.{StaleResv}
use Rattle.network_model.specs.ThreeRouters.{r2, session}
use Rattle.tree_model.specs.Ranks.{longest}
use Rattle.network_model.specs.Bounds.{IsStart, IsSettled, all_of}
use Rattle.network_model.specs.Runs.{Plan, first_facts, first_world}
use Rattle.network_model.specs.Sound.{ArePathsSound, AreResvsSound, AreResvsExact}
use Rattle.network_model.specs.Steps.{machine}
use Rattle.network_model.specs.Worlds.{World}
use Rattle.laws_network.specs.Beginning.{left_plan, left_resv}
use Rattle.laws_network.specs.Rounds.{rounds_of}
use Rattle.settle_resvs.specs.HopExample.{asking_world}

-- ---- a left-over reservation of 10.0.2.1, which no end has
abbrev pub lost_key : LineKey
lost_key = (session, ((0, r2), One))

abbrev pub lost_plan : Plan
lost_plan = record left_plan { stale = (0, StaleResv Wild lost_key left_resv) ∷ [] }

abbrev pub lost_world : World
lost_world = first_world lost_plan

pub record AReservationIsLost : Type 0 where
  pub start : IsStart 7500 lost_world
  pub hop : longest lost_world.net ≡ 1
  -- however many rounds, they are calm, and with 32 the network has settled
  pub rounds : (k : ℕ) → Rounds (machine 7500) (rounds_of 7500 k lost_world) lost_world
  pub settled : IsSettled 7500 lost_world (all_of (rounds_of 7500 32 lost_world))
  -- paths are sound through the ten rounds after which reservations are
  pub paths : Hold (machine 7500) 0 (rounds_of 7500 10 lost_world) lost_world ArePathsSound
  -- what is promised does not hold yet
  pub there : get (resvs_of Wild (first_facts lost_plan 0)) lost_key ≡ Some left_resv
  pub not_yet : AreResvsSound lost_world → ⊥

-- ---- a host asks, and nothing is reserved
pub record NothingIsReservedYet : Type 0 where
  pub not_exact : AreResvsExact asking_world → ⊥
