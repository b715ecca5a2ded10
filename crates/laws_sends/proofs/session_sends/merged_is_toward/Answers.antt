use Rattle.laws_sends.proofs.Seeing.{merged_is}
use Rattle.laws_sends.proofs.session_sends.merged_is_toward.Goals as goal

pub returns : goal.returns
returns c = merged_is
