use Rattle.std.proofs.Common.{◌≤◌, ◌*◌, sym, subst}
use Rattle.router_rules.specs.Inputs.{Wait}
use Rattle.router_state.specs.State.{State}
use Rattle.live_router.specs.Bounded.{IsBounded}
use Rattle.live_router.proofs.Doing.{sends_proper, stays_bounded}
use Rattle.live_router.proofs.Living.{lives_on}
use Rattle.live_router.proofs.router.LiveRouterRouter.wait.Goals as goal

pub invariant_of-self : goal.invariant_of-self
invariant_of-self g c =
    let short = subst (λ (z : State). c.args.ms ≤ 2 * z.place.quarter) (sym c.self.view_is) c.requires in
    lives_on c.self.inside.node c.wait.new.self c.self.inside.spare.items c.self.invariant c.wait.ensures.place
    (stays_bounded c.self.inside.node c.wait.new.self 0 (Wait c.args.ms c.args.word) c.self.invariant.bounded c.wait.ensures.place short (c.wait.ensures.facts 0))

pub returns-clause-fit : goal.returns-clause-fit
returns-clause-fit g c = λ clock. sends_proper c.args.self.now clock (Wait c.args.ms c.args.word) (subst IsBounded c.self.view_is c.self.invariant.bounded) c.requires
