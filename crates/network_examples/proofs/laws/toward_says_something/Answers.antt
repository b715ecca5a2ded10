use Rattle.network_examples.proofs.Previous.{toward_says_something}
use Rattle.network_examples.proofs.laws.toward_says_something.Goals as goal

pub returns : goal.returns
returns c = toward_says_something
