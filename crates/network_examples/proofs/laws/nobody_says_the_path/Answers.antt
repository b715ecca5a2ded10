use Rattle.network_examples.proofs.Said.{nobody_says_the_path}
use Rattle.network_examples.proofs.laws.nobody_says_the_path.Goals as goal

pub returns : goal.returns
returns c = nobody_says_the_path
