use Rattle.laws_sends.proofs.Waits.{wait_is_told}
use Rattle.laws_sends.proofs.round_sends.wait_is_told.Goals as goal

pub returns : goal.returns
returns c = wait_is_told
