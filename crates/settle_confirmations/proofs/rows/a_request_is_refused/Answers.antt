use Rattle.settle_confirmations.proofs.Worked.{a_request_is_refused}
use Rattle.settle_confirmations.proofs.rows.a_request_is_refused.Goals as goal

pub returns : goal.returns
returns c = a_request_is_refused
