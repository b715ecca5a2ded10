use Rattle.router_rules.specs.Inputs.{Clear}
use Rattle.live_router.proofs.Doing.{stays_bounded}
use Rattle.live_router.proofs.Living.{lives_on}
use Rattle.live_router.proofs.router.LiveRouterRouter.clear.Goals as goal

pub invariant_of-self : goal.invariant_of-self
invariant_of-self c = lives_on c.self.inside.node c.clear.new.self c.self.inside.spare.items c.self.invariant c.clear.ensures.place
    (stays_bounded c.self.inside.node c.clear.new.self 0 Clear c.self.invariant.bounded c.clear.ensures.place tt (c.clear.ensures.facts 0))
