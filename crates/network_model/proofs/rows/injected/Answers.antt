use Rattle.network_model.proofs.Worked.{injected}
use Rattle.network_model.proofs.rows.injected.Goals as goal

pub returns : goal.returns
returns c = injected
