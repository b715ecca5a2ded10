use Rattle.network_examples.proofs.Ready.{an_error_is_on_its_way}
use Rattle.network_examples.proofs.laws.an_error_is_on_its_way.Goals as goal

pub returns : goal.returns
returns c = an_error_is_on_its_way
