use Rattle.settle_refreshes.proofs.WorkedRoom.{confirmations_multiply}
use Rattle.settle_refreshes.proofs.roomy_rows.confirmations_multiply.Goals as goal

pub returns : goal.returns
returns c = confirmations_multiply
