use Rattle.settle_network.proofs.RunsSettle.{a_session_of_a_run_settles}
use Rattle.settle_network.proofs.laws.a_session_of_a_run_settles.Goals as goal

pub returns : goal.returns
returns c p run_fit senders ss ts front is s fit = a_session_of_a_run_settles p run_fit senders ss ts front is s fit
