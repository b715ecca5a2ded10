use Rattle.router_rounds.proofs.WaitRounds.{wait_is_rounds}
use Rattle.router_rounds.proofs.laws.wait_is_rounds.Goals as goal

pub returns : goal.returns
returns c = wait_is_rounds
