use Rattle.router_state.proofs.Passing.{time_passes}
use Rattle.router_state.proofs.laws.time_passes.Goals as goal

pub returns : goal.returns
returns c = time_passes
