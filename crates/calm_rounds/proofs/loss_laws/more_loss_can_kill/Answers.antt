use Rattle.calm_rounds.proofs.LampLaws.{loss_can_kill}
use Rattle.calm_rounds.proofs.loss_laws.more_loss_can_kill.Goals as goal

pub returns : goal.returns
returns c = loss_can_kill
