use Rattle.settle_network.proofs.RunsSettle.{a_run_settles}
use Rattle.settle_network.proofs.laws.a_run_settles.Goals as goal

pub returns : goal.returns
returns c p run_fit senders ss ts front is fit = a_run_settles p run_fit senders ss ts front is fit
