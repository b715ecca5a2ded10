use Rattle.settle_passes.proofs.Worked.{a_pair_is_set_up}
use Rattle.settle_passes.proofs.rows.a_pair_is_set_up.Goals as goal

pub returns : goal.returns
returns c = a_pair_is_set_up
