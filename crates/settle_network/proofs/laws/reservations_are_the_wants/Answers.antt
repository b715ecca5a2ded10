use Rattle.std.specs.Prelude.{◌+◌, ◌*◌}
use Rattle.calm_rounds.proofs.Holding.{hold_map}
use Rattle.tree_model.specs.Ranks.{longest}
use Rattle.network_model.specs.Sound.{AreResvsExact}
use Rattle.network_model.specs.Steps.{machine}
use Rattle.settle_network.specs.Settled.{HasSettled}
use Rattle.settle_network.proofs.Settled.{a_network_settles}
use Rattle.settle_network.proofs.laws.reservations_are_the_wants.Goals as goal

pub returns : goal.returns
returns c q w rs calm start = hold_map (machine q) (HasSettled q) AreResvsExact (λ u h. h.resvs_exact) (13 * longest w.net + 13) rs w (a_network_settles q w rs calm start)
