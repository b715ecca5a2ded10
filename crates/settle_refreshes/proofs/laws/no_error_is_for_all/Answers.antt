use Rattle.settle_refreshes.proofs.Plain.{no_error_is_for_all}
use Rattle.settle_refreshes.proofs.laws.no_error_is_for_all.Goals as goal

pub returns : goal.returns
returns c = no_error_is_for_all
