use Rattle.laws_sends.proofs.Laned.{rerouting_is_told}
use Rattle.laws_sends.proofs.round_sends.rerouting_is_told.Goals as goal

pub returns : goal.returns
returns c = rerouting_is_told
