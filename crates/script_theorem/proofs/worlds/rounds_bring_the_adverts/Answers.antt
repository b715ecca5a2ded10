use Rattle.script_theorem.proofs.WorldAdverts.{rounds_bring_the_adverts}
use Rattle.script_theorem.proofs.worlds.rounds_bring_the_adverts.Goals as goal

pub returns : goal.returns
returns c = rounds_bring_the_adverts
