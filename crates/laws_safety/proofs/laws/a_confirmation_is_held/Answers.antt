use Rattle.laws_safety.specs.Confirmations.{AConfirmationIsHeld}
use Rattle.laws_safety.proofs.Confirming.{a_confirmation_is_held}
use Rattle.laws_safety.proofs.Runs.{at_every_step}
use Rattle.laws_safety.proofs.laws.a_confirmation_is_held.Goals as goal

pub returns : goal.returns
returns c = at_every_step AConfirmationIsHeld a_confirmation_is_held
