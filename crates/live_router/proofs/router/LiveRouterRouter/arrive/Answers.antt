use Rattle.std.proofs.Common.{◌<◌, length, sym, subst}
use Rattle.router_rules.specs.Inputs.{Came, Spelt}
use Rattle.router_state.specs.State.{State}
use Rattle.live_router.specs.Bounded.{IsBounded}
use Rattle.live_router.proofs.Doing.{sends_proper, stays_bounded}
use Rattle.live_router.proofs.Living.{lives_on}
use Rattle.live_router.proofs.router.LiveRouterRouter.arrive.Goals as goal

pub invariant_of-self : goal.invariant_of-self
invariant_of-self g c =
    let there = subst (λ (z : State). c.args.iface < length z.place.ifaces) (sym c.self.view_is) c.requires.iface in
    lives_on c.self.inside.node c.arrive.new.self c.self.inside.spare.items c.self.invariant c.arrive.ensures.place
    (stays_bounded c.self.inside.node c.arrive.new.self 0 (Came c.args.iface c.args.dst (Spelt c.args.message.now)) c.self.invariant.bounded c.arrive.ensures.place (there, c.requires.proper)
    (c.arrive.ensures.facts 0))

pub returns-clause-fit : goal.returns-clause-fit
returns-clause-fit g c = λ clock.
    sends_proper c.args.self.now clock (Came c.args.iface c.args.dst (Spelt c.args.message.now)) (subst IsBounded c.self.view_is c.self.invariant.bounded) (c.requires.iface, c.requires.proper)
