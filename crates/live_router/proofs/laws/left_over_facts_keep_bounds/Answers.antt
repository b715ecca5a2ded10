use Rattle.live_router.proofs.Doing.{left_over_facts_keep_bounds}
use Rattle.live_router.proofs.laws.left_over_facts_keep_bounds.Goals as goal

pub returns : goal.returns
returns c = left_over_facts_keep_bounds
