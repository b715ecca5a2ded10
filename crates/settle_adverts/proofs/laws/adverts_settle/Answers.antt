use Rattle.laws_network.proofs.Keeping.{calm_rounds_keep_bounds}
use Rattle.settle_adverts.proofs.Settling.{adverts_settle}
use Rattle.settle_adverts.proofs.laws.adverts_settle.Goals as goal

pub returns : goal.returns
returns c q w rs calm bounds hosts = adverts_settle q w rs calm hosts (calm_rounds_keep_bounds q w rs calm bounds)
