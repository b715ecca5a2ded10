use Rattle.laws_network.proofs.Keeping.{calm_rounds_keep_bounds}
use Rattle.settle_adverts.proofs.Settling.{adverts_are_exact}
use Rattle.settle_adverts.proofs.laws.adverts_are_exact.Goals as goal

pub returns : goal.returns
returns c q w rs calm bounds hosts = adverts_are_exact q w rs calm hosts (calm_rounds_keep_bounds q w rs calm bounds)
