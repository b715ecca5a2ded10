use Rattle.settle_refreshes.proofs.Runs.{a_run_ends_in_refreshes}
use Rattle.settle_refreshes.proofs.laws.a_run_ends_in_refreshes.Goals as goal

pub returns : goal.returns
returns c p fit_run senders is fit none = a_run_ends_in_refreshes p fit_run senders is fit none
