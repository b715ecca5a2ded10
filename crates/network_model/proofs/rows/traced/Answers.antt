use Rattle.network_model.proofs.Worked.{traced}
use Rattle.network_model.proofs.rows.traced.Goals as goal

pub returns : goal.returns
returns c = traced
