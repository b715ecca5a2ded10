use Rattle.std.proofs.Common.{◌∙◌, ap, ℕ, Option}
use Rattle.router_rules.specs.declared.route.Route.{Route}
use Rattle.tree_routing.specs.Routes.{inward_iface}
use Rattle.network_replay.proofs.Moves.{ways_are}
use Rattle.network_replay.proofs.moving.move_route.Goals as goal

pub returns : goal.returns
returns c =
    let net = c.args.routing.now in
    let old = c.args.route.now in
    let r : Option ℕ → ℕ → Route = λ i o. record { group = old.group; source = old.source; inward = i; outward = o } in
    ap (λ i. r i c.outward-route.result) c.inward-route.ensures ∙ ap (λ o. r (inward_iface net c.args.node old.group old.source) o)
    (ways_are net c.args.node old.group old.source c.outward-route.result c.outward-route.ensures)
