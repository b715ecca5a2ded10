use Rattle.live_router.proofs.Opened.{none_if_opened}
use Rattle.live_router.proofs.serves.LiveRouterServes.open_alone.Goals as goal

pub returns-clause-first : goal.returns-clause-first
returns-clause-first c = none_if_opened c.open.result c.new.result c.open.ensures
