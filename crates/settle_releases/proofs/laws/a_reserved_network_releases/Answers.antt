use Rattle.settle_releases.proofs.Releasing.{a_reserved_network_releases}
use Rattle.settle_releases.proofs.laws.a_reserved_network_releases.Goals as goal

pub returns : goal.returns
returns c q xs w reserved s = a_reserved_network_releases q xs w reserved s
