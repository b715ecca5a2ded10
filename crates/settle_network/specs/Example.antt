-- A start at which nothing has settled yet.
use Rattle.std.specs.Prelude.{◌+◌, ◌*◌, ◌≡◌}
use Rattle.calm_rounds.specs.Rounds.{Rounds}
use Rattle.tree_model.specs.Ranks.{longest}
use Rattle.network_model.specs.Bounds.{IsStart}
use Rattle.network_model.specs.Steps.{machine}
use Rattle.laws_network.specs.Rounds.{rounds_of}
use Rattle.settle_resvs.specs.LeftOverExample.{lost_world}
use Rattle.settle_network.specs.Settled.{HasSettled}

-- a reservation is left over of a next hop that no end has
pub record ItHasNotSettledYet : Type 0 where
  pub start : IsStart 7500 lost_world
  pub rounds : Rounds (machine 7500) (rounds_of 7500 26 lost_world) lost_world
  pub enough : 13 * longest lost_world.net + 13 ≡ 26
  -- what is promised does not hold yet
  pub not_yet : HasSettled 7500 lost_world → ⊥
