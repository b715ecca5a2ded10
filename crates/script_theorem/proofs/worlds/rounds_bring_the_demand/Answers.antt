use Rattle.script_theorem.proofs.WorldDemands.{rounds_bring_the_demand}
use Rattle.script_theorem.proofs.worlds.rounds_bring_the_demand.Goals as goal

pub returns : goal.returns
returns c = rounds_bring_the_demand
