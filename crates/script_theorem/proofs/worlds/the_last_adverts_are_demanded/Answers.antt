use Rattle.script_theorem.proofs.WorldAdverts.{the_last_adverts_are_demanded}
use Rattle.script_theorem.proofs.worlds.the_last_adverts_are_demanded.Goals as goal

pub returns : goal.returns
returns c = the_last_adverts_are_demanded
