-- A router without facts is within bounds.
use Rattle.std.specs.Prelude.{ℕ, ◌≤◌}
use Rattle.std.proofs.Common.{◌∙◌, ap, sym, subst}
use Rattle.router_rules.specs.NodeConfig.{NodeConfig}
use Rattle.router_state.specs.Routes.{AreRoutes}
use Rattle.live_router.proofs.Living.{lives_first}
use Rattle.live_router.proofs.live_router.LiveRouter.open.Goals as goal

-- src/live_router.rt:43:9
pub invariant_of-result : goal.invariant_of-result
invariant_of-result c =
    let same = sym c.room_for_routes.ensures.same in
    let some = subst (λ (k : ℕ). 1 ≤ k) c.quarter-quarter.ensures.is c.quarter-quarter.ensures.some in
    lives_first c.in_ok-node.node c.room_for_routes.new.config c.in_ok-spare.spare.items c.in_ok-node.ensures
    (subst (λ (p : NodeConfig). 1 ≤ p.quarter) same some)
    (subst (λ (p : NodeConfig). AreRoutes p.routes) same c.room_for_routes.ensures.routed)
    (c.in_ok-spare.ensures.room ∙ ap (λ (p : NodeConfig). p.routes) same)
