use Rattle.settle_refreshes.proofs.Plain.{a_plain_run_stays_plain}
use Rattle.settle_refreshes.proofs.laws.a_plain_run_stays_plain.Goals as goal

pub returns : goal.returns
returns c = a_plain_run_stays_plain
