use Rattle.std.proofs.Common.{sym, subst, ◌∙◌}
use Rattle.std.proofs.lemmas.Result.{on_err_weaker}
use Rattle.router_rules.specs.Steps.{IsFitStale}
use Rattle.router_state.specs.State.{State}
use Rattle.router_core.specs.Coming.{stale_path}
use Rattle.live_router.proofs.Doing.{left_over_facts_keep_bounds}
use Rattle.live_router.proofs.Living.{lives_on}
use Rattle.live_router.proofs.live_router.LiveRouter.stale_path.Goals as goal

pub invariant_of-self : goal.invariant_of-self
invariant_of-self c =
    let fit = subst (λ (z : State). IsFitStale z.place 0 (stale_path 0 c.args.fact c.args.left)) (sym c.self.view_is) c.requires in
    lives_on c.self.inside.node c.stale_path.new.self c.self.inside.spare.items c.self.invariant c.stale_path.ensures.place
    (left_over_facts_keep_bounds c.self.inside.node c.stale_path.new.self 0 (stale_path 0 c.args.fact c.args.left) c.self.invariant.bounded c.stale_path.ensures.place fit
    (c.stale_path.ensures.facts 0))

pub returns-clause-kept : goal.returns-clause-kept
returns-clause-kept c = on_err_weaker c.stale_path.result (λ same. same ∙ c.self.view_is) c.stale_path.ensures.kept
