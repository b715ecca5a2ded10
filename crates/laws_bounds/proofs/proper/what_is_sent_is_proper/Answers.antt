use Rattle.laws_bounds.proofs.Wording.{what_is_sent_is_proper}
use Rattle.laws_bounds.proofs.proper.what_is_sent_is_proper.Goals as goal

pub returns : goal.returns
returns c = what_is_sent_is_proper
