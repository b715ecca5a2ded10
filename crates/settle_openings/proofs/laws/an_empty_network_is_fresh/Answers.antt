use Rattle.settle_openings.proofs.Beginning.{an_empty_network_is_fresh}
use Rattle.settle_openings.proofs.laws.an_empty_network_is_fresh.Goals as goal

pub returns : goal.returns
returns c q w o = an_empty_network_is_fresh q w o
