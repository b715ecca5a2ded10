use Rattle.settle_openings.proofs.Worked.{nothing_lasts_without_passes}
use Rattle.settle_openings.proofs.rows.nothing_lasts_without_passes.Goals as goal

pub returns : goal.returns
returns c = nothing_lasts_without_passes
