use Rattle.network_model.proofs.Worked.{larger_rate}
use Rattle.network_model.proofs.rows.larger_rate.Goals as goal

pub returns : goal.returns
returns c = larger_rate
