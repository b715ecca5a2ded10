use Rattle.live_router.proofs.Doing.{an_input_keeps_bounds}
use Rattle.live_router.proofs.laws.an_input_keeps_bounds.Goals as goal

pub returns : goal.returns
returns c = an_input_keeps_bounds
