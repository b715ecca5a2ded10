use Rattle.settle_refreshes.proofs.Plain.{a_plain_run_ends_in_refreshes}
use Rattle.settle_refreshes.proofs.laws.a_plain_run_ends_in_refreshes.Goals as goal

pub returns : goal.returns
returns c = a_plain_run_ends_in_refreshes
