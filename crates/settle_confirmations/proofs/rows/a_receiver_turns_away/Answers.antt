use Rattle.settle_confirmations.proofs.Worked.{a_receiver_turns_away}
use Rattle.settle_confirmations.proofs.rows.a_receiver_turns_away.Goals as goal

pub returns : goal.returns
returns c = a_receiver_turns_away
