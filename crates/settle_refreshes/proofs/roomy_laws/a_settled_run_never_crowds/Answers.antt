use Rattle.settle_refreshes.proofs.RoomyRuns.{a_settled_run_never_crowds}
use Rattle.settle_refreshes.proofs.roomy_laws.a_settled_run_never_crowds.Goals as goal

pub returns : goal.returns
returns c p fit_run senders uncrowded is fit only most n = a_settled_run_never_crowds p fit_run senders is uncrowded fit only most n
