use Rattle.grown_network.proofs.Askable.{can_be_asked}
use Rattle.grown_network.proofs.summary_laws.a_grown_network_can_be_asked.Goals as goal

pub returns : goal.returns
returns c = can_be_asked
