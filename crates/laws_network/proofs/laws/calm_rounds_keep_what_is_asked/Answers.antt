use Rattle.calm_rounds.proofs.Holding.{hold_map}
use Rattle.network_model.specs.Steps.{machine}
use Rattle.laws_network.specs.Known.{IsSameNet, IsKnown}
use Rattle.laws_network.proofs.Keeping.{calm_rounds_keep_bounds}
use Rattle.laws_network.proofs.Known.{known_hold}
use Rattle.laws_network.proofs.laws.calm_rounds_keep_what_is_asked.Goals as goal

pub returns : goal.returns
returns c q w rs calm bounds = hold_map (machine q) (IsKnown q w) (IsSameNet w) (λ u h. h.same) 0 rs w (known_hold q w rs calm (calm_rounds_keep_bounds q w rs calm bounds))
