use Rattle.settle_adverts.proofs.Demanded.{settled_adverts_are_demanded}
use Rattle.settle_adverts.proofs.laws.settled_adverts_are_demanded.Goals as goal

pub returns : goal.returns
returns c = settled_adverts_are_demanded
