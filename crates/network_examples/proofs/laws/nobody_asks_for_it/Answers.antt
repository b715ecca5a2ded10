use Rattle.network_examples.proofs.Said.{nobody_asks_for_it}
use Rattle.network_examples.proofs.laws.nobody_asks_for_it.Goals as goal

pub returns : goal.returns
returns c = nobody_asks_for_it
