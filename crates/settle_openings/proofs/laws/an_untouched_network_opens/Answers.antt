use Rattle.settle_openings.proofs.Halves.{an_untouched_network_opens}
use Rattle.settle_openings.proofs.laws.an_untouched_network_opens.Goals as goal

pub returns : goal.returns
returns c q w o = an_untouched_network_opens q w o
