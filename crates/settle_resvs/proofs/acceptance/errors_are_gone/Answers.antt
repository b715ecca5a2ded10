use Rattle.laws_network.proofs.Keeping.{calm_rounds_keep_bounds}
use Rattle.settle_resvs.proofs.Errors.{errors_go}
use Rattle.settle_resvs.proofs.acceptance.errors_are_gone.Goals as goal

pub returns : goal.returns
returns c q s w rs calm locals fit bounds so_far = errors_go q s w rs calm locals fit (calm_rounds_keep_bounds q w rs calm bounds) so_far
