use Rattle.script_theorem.proofs.Still.{a_network_stays_settled}
use Rattle.script_theorem.proofs.reports.a_network_stays_settled.Goals as goal

pub returns : goal.returns
returns c = a_network_stays_settled
