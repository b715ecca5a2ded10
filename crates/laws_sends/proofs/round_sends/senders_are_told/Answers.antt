use Rattle.laws_sends.proofs.Senders.{senders_are_told}
use Rattle.laws_sends.proofs.round_sends.senders_are_told.Goals as goal

pub returns : goal.returns
returns c = senders_are_told
