use Rattle.calm_rounds.proofs.LampLaws.{meets_the_premises}
use Rattle.calm_rounds.proofs.loss_laws.a_lamp_meets_the_premises.Goals as goal

pub returns : goal.returns
returns c = meets_the_premises
