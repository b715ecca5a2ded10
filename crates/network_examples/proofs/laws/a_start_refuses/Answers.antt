use Rattle.network_examples.proofs.Starts.{a_start_refuses}
use Rattle.network_examples.proofs.laws.a_start_refuses.Goals as goal

pub returns : goal.returns
returns c = a_start_refuses
