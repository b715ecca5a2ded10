use Rattle.laws_safety.proofs.Confirming.{each_confirmation_has_begun}
use Rattle.laws_safety.proofs.laws.each_confirmation_has_begun.Goals as goal

pub returns : goal.returns
returns c = each_confirmation_has_begun
