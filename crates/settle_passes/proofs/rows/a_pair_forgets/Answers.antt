use Rattle.settle_passes.proofs.Worked.{a_pair_forgets}
use Rattle.settle_passes.proofs.rows.a_pair_forgets.Goals as goal

pub returns : goal.returns
returns c = a_pair_forgets
