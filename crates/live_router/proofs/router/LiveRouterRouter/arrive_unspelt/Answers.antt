use Rattle.std.proofs.Common.{subst}
use Rattle.router_rules.specs.Inputs.{Came, Unspelt}
use Rattle.live_router.specs.Bounded.{IsBounded}
use Rattle.live_router.proofs.Doing.{sends_proper}
use Rattle.live_router.proofs.router.LiveRouterRouter.arrive_unspelt.Goals as goal

pub returns-clause-fit : goal.returns-clause-fit
returns-clause-fit g c = λ clock. sends_proper c.args.self.now clock (Came c.args.iface c.args.dst (Unspelt c.args.fault.now)) (subst IsBounded c.self.view_is c.self.invariant.bounded)
    (c.requires, tt)
