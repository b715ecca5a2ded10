use Rattle.network_model.proofs.Changing.{what_is_sent_is_copied}
use Rattle.network_model.proofs.laws.what_is_sent_is_copied.Goals as goal

pub returns : goal.returns
returns c q s w = what_is_sent_is_copied q s w
