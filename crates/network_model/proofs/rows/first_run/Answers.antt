use Rattle.network_model.proofs.Worked.{first_run}
use Rattle.network_model.proofs.rows.first_run.Goals as goal

pub returns : goal.returns
returns c = first_run
