use Rattle.settle_resvs.proofs.UnderTheGoal.{one_style}
use Rattle.settle_resvs.proofs.goals.a_session_has_one_style.Goals as goal

pub returns : goal.returns
returns c net l s fit = one_style net l s fit
