use Rattle.network_examples.proofs.Confirmed.{confirmations_in_a_pair}
use Rattle.network_examples.proofs.laws.confirmations_in_a_pair.Goals as goal

pub returns : goal.returns
returns c = confirmations_in_a_pair
