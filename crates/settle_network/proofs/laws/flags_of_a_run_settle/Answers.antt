use Rattle.settle_network.proofs.RunsSettle.{flags_of_a_run_settle}
use Rattle.settle_network.proofs.laws.flags_of_a_run_settle.Goals as goal

pub returns : goal.returns
returns c = flags_of_a_run_settle
