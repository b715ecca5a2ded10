use Rattle.settle_releases.proofs.Releasing.{a_settled_network_serves_less}
use Rattle.settle_releases.proofs.laws.a_settled_network_serves_less.Goals as goal

pub returns : goal.returns
returns c q n s st names flow confirm w start settled quiet list sound no_more = a_settled_network_serves_less q n s st names flow confirm w start settled quiet list sound no_more
