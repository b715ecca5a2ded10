use Rattle.laws_sends.proofs.Waits.{unharmed_stays}
use Rattle.laws_sends.proofs.round_sends.unharmed_stays.Goals as goal

pub returns : goal.returns
returns c = unharmed_stays
