use Rattle.std.proofs.Common.{sym, subst, ◌∙◌}
use Rattle.std.proofs.lemmas.Result.{on_err_weaker}
use Rattle.router_rules.specs.Steps.{IsFitStale}
use Rattle.router_state.specs.State.{State}
use Rattle.router_core.specs.LeftOver.{resv_left}
use Rattle.live_router.proofs.Doing.{left_over_facts_keep_bounds}
use Rattle.live_router.proofs.Living.{lives_on}
use Rattle.live_router.proofs.live_router.LiveRouter.stale_resv.Goals as goal

pub invariant_of-self : goal.invariant_of-self
invariant_of-self c =
    let fit = subst (λ (z : State). IsFitStale z.place 0 (resv_left c.args.style 0 c.args.fact c.args.left)) (sym c.self.view_is) c.requires in
    lives_on c.self.inside.node c.stale_resv.new.self c.self.inside.spare.items c.self.invariant c.stale_resv.ensures.place
    (left_over_facts_keep_bounds c.self.inside.node c.stale_resv.new.self 0 (resv_left c.args.style 0 c.args.fact c.args.left) c.self.invariant.bounded c.stale_resv.ensures.place fit
    (c.stale_resv.ensures.facts 0))

pub returns-clause-kept : goal.returns-clause-kept
returns-clause-kept c = on_err_weaker c.stale_resv.result (λ same. same ∙ c.self.view_is) c.stale_resv.ensures.kept
