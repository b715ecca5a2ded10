use Rattle.network_model.proofs.Worked.{shared_link}
use Rattle.network_model.proofs.rows.shared_link.Goals as goal

pub returns : goal.returns
returns c = shared_link
