use Rattle.settle_network.proofs.Settled.{a_session_settles}
use Rattle.settle_network.proofs.laws.a_session_settles.Goals as goal

pub returns : goal.returns
returns c q s w rs calm bounds hosts fit = a_session_settles q w rs calm bounds hosts s fit
