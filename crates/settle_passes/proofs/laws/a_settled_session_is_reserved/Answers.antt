use Rattle.settle_passes.proofs.Wanting.{a_settled_session_is_reserved}
use Rattle.settle_passes.proofs.laws.a_settled_session_is_reserved.Goals as goal

pub returns : goal.returns
returns c q s w paths sound fit free exact quiet = a_settled_session_is_reserved q s w paths sound fit free exact quiet
