use Rattle.settle_refreshes.proofs.WorkedRoom.{a_refusal_comes_back}
use Rattle.settle_refreshes.proofs.roomy_rows.a_refusal_comes_back.Goals as goal

pub returns : goal.returns
returns c = a_refusal_comes_back
