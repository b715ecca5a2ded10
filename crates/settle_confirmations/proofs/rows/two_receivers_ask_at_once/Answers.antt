use Rattle.settle_confirmations.proofs.Worked.{two_receivers_ask_at_once}
use Rattle.settle_confirmations.proofs.rows.two_receivers_ask_at_once.Goals as goal

pub returns : goal.returns
returns c = two_receivers_ask_at_once
