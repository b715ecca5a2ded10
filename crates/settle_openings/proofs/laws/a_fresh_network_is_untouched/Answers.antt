use Rattle.settle_openings.proofs.Beginning.{a_fresh_network_is_untouched}
use Rattle.settle_openings.proofs.laws.a_fresh_network_is_untouched.Goals as goal

pub returns : goal.returns
returns c q w r hosts fit = a_fresh_network_is_untouched q w r hosts fit
