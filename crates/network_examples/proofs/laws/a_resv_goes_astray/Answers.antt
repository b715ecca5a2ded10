use Rattle.network_examples.proofs.Ready.{a_resv_goes_astray}
use Rattle.network_examples.proofs.laws.a_resv_goes_astray.Goals as goal

pub returns : goal.returns
returns c = a_resv_goes_astray
