use Rattle.laws_network.proofs.Keeping.{calm_rounds_keep_bounds}
use Rattle.settle_resvs.proofs.Blockades.{blockades_are_gone}
use Rattle.settle_resvs.proofs.acceptance.blockades_are_gone.Goals as goal

pub returns : goal.returns
returns c q s w rs calm bounds none = blockades_are_gone q s w rs calm (calm_rounds_keep_bounds q w rs calm bounds) none
