use Rattle.settle_resvs.proofs.WantStyles.{want_parts}
use Rattle.settle_resvs.proofs.goals.local_wants_are_shaped.Goals as goal

pub returns : goal.returns
returns c q w bounds = want_parts q w bounds
