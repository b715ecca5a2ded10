use Rattle.script_theorem.proofs.Same.{the_same_is_demanded}
use Rattle.script_theorem.proofs.worlds.the_same_is_demanded.Goals as goal

pub returns : goal.returns
returns c = the_same_is_demanded
