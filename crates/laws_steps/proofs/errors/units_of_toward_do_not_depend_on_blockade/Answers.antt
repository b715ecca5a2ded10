use Rattle.laws_steps.proofs.Blockading.{units_of_toward_do_not_depend_on_blockade}
use Rattle.laws_steps.proofs.errors.units_of_toward_do_not_depend_on_blockade.Goals as goal

pub returns : goal.returns
returns c = units_of_toward_do_not_depend_on_blockade
