use Rattle.laws_network.proofs.Keeping.{calm_rounds_keep_bounds}
use Rattle.settle_resvs.proofs.Accepting.{arrivals_are_taken}
use Rattle.settle_resvs.proofs.acceptance.arrivals_are_taken.Goals as goal

pub returns : goal.returns
returns c q s w rs calm locals fit bounds so_far = arrivals_are_taken q s w rs calm locals fit (calm_rounds_keep_bounds q w rs calm bounds) so_far
