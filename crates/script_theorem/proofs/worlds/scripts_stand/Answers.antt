use Rattle.script_theorem.proofs.WorldDemands.{scripts_stand}
use Rattle.script_theorem.proofs.worlds.scripts_stand.Goals as goal

pub returns : goal.returns
returns c = scripts_stand
