use Rattle.network_examples.proofs.Kept.{what_is_asked_can_change}
use Rattle.network_examples.proofs.laws.what_is_asked_can_change.Goals as goal

pub returns : goal.returns
returns c = what_is_asked_can_change
