use Rattle.network_examples.proofs.Kept.{a_run_can_be_unfit}
use Rattle.network_examples.proofs.laws.a_run_can_be_unfit.Goals as goal

pub returns : goal.returns
returns c = a_run_can_be_unfit
