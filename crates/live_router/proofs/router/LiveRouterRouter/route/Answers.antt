use Rattle.std.proofs.Common.{◌≡◌, Global, List, Vec, ap, subst, sym, ◌∙◌}
use Rattle.router_rules.specs.Inputs.{Moved}
use Rattle.router_rules.specs.NodeConfig.{NodeConfig}
use Rattle.router_rules.specs.Rule.{facts_after}
use Rattle.router_rules.specs.declared.route.Route.{Route}
use Rattle.network_replay.specs.Routed.{trees_in}
use Rattle.router_state.specs.Routes.{AreRoutes}
use Rattle.router_state.specs.State.{State, facts_at}
use Rattle.live_router.specs.Bounded.{IsBounded}
use Rattle.live_router.proofs.Doing.{an_input_keeps_bounds, bounded_nodes_send_proper_messages, rerouted_node}
use Rattle.live_router.proofs.Living.{lives_moved, same_order}
use Rattle.live_router.proofs.router.LiveRouterRouter.route.Goals as goal

pub route-requires : goal.route-requires
route-requires g c =
    let trees = subst (λ (z : State). trees_in z.place.routes ≡ trees_in c.args.routes.now) (sym c.self.view_is) c.requires in
    let copied = ap (λ (v : Vec Route Global). v.items) c.replace-next.ensures.value ∙ c.copy_from_slice.ensures.items in
    subst AreRoutes (sym copied) (same_order c.self.inside.node.place.routes c.args.routes.now trees c.self.invariant.routed)

pub invariant_of-self : goal.invariant_of-self
invariant_of-self g c =
    let trees = subst (λ (z : State). trees_in z.place.routes ≡ trees_in c.args.routes.now) (sym c.self.view_is) c.requires in
    let copied = ap (λ (v : Vec Route Global). v.items) c.replace-next.ensures.value ∙ c.copy_from_slice.ensures.items in
    let n = c.self.inside.node in
    let new = c.route.new.self in
    let there : new.place ≡ record n.place { routes = c.args.routes.now } = c.route.ensures.place ∙ ap (λ (rs : List Route). record n.place { routes = rs }) copied in
    let bounded = c.self.invariant.bounded in
    lives_moved n new c.args.routes.now c.route.result.items c.self.invariant.routed trees there c.route.ensures.old
    (an_input_keeps_bounds n new 0 Moved bounded (rerouted_node n new.place c.args.routes.now bounded there) tt
    (c.route.ensures.facts 0 ∙ ap (λ (p : NodeConfig). facts_after n.place p 0 Moved (facts_at 0 n)) (sym c.route.ensures.place)))

pub returns-clause-fit : goal.returns-clause-fit
returns-clause-fit g c = λ clock.
    let copied = ap (λ (v : Vec Route Global). v.items) c.replace-next.ensures.value ∙ c.copy_from_slice.ensures.items in
    let kept = subst IsBounded c.self.view_is c.self.invariant.bounded in
    let new = c.route.new.self in
    let there : new.place ≡ record c.args.self.now.place { routes = c.args.routes.now } =
    c.route.ensures.place ∙ ap (λ (rs : List Route). record c.self.inside.node.place { routes = rs }) copied ∙ ap (λ (z : State). record z.place { routes = c.args.routes.now }) c.self.view_is in
    bounded_nodes_send_proper_messages c.args.self.now new.place clock Moved kept (rerouted_node c.args.self.now new.place c.args.routes.now kept there) tt
