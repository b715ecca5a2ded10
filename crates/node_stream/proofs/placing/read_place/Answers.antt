use Rattle.std.proofs.Common.{List, ap, ◌∙◌}
use Rattle.std.specs.Prelude.{map as each}
use Rattle.rsvp_base.specs.declared.addr.Addr.{Addr}
use Rattle.router_rules.specs.declared.route.Route.{Route}
use Rattle.node_stream.specs.Layout.{route_count}
use Rattle.node_stream.proofs.Placed.{are_in_order}
use Rattle.node_stream.proofs.placing.read_place.Goals as goal

pub returns-clause-routes : goal.returns-clause-routes
returns-clause-routes c =
    are_in_order c.args.contents.now (route_count c.args.contents.now) c.in_ok-routes.routes.items
    (c.in_ok-routes.ensures ∙ ap (λ (xs : List ((Addr × Addr) × Route)). each (λ e. e.1) xs) (c.as_slice.ensures.value ∙ c.in_ok-rows.ensures.rows))
