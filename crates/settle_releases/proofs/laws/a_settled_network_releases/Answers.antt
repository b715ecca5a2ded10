use Rattle.settle_releases.proofs.Releasing.{a_settled_network_releases}
use Rattle.settle_releases.proofs.laws.a_settled_network_releases.Goals as goal

pub returns : goal.returns
returns c q xs w start settled quiet = a_settled_network_releases q xs w start settled quiet
