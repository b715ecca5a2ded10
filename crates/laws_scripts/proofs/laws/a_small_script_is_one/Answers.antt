use Rattle.laws_scripts.proofs.Small.{a_small_script_is_one}
use Rattle.laws_scripts.proofs.laws.a_small_script_is_one.Goals as goal

pub returns : goal.returns
returns c = a_small_script_is_one
