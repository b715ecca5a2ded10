use Rattle.settle_paths.proofs.Keeping.{calm_rounds_keep_bounds}
use Rattle.settle_resvs.proofs.ExactResvs.{reservations_become_exact}
use Rattle.settle_resvs.proofs.exactness.reservations_become_exact.Goals as goal

pub returns : goal.returns
returns c q s w rs calm locals fit bounds so_far = reservations_become_exact q s w rs calm locals fit (calm_rounds_keep_bounds q w rs calm bounds) so_far
