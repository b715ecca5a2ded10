use Rattle.live_router.proofs.Doing.{no_facts_are_bounded}
use Rattle.live_router.proofs.laws.no_facts_are_bounded.Goals as goal

pub returns : goal.returns
returns c = no_facts_are_bounded
