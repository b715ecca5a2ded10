use Rattle.std.proofs.Common.{◌∙◌, ap, ℕ, Option}
use Rattle.router_rules.specs.declared.route.Route.{Route}
use Rattle.tree_routing.specs.Routes.{inward_iface}
use Rattle.network_replay.proofs.Moves.{ways_are}
use Rattle.live_router.proofs.place.route_at.Goals as goal

pub returns : goal.returns
returns c =
    let net = c.args.routing.now in
    let r : Option ℕ → ℕ → Route = λ i o. record { group = c.args.group; source = c.args.source; inward = i; outward = o } in
    ap (λ i. r i c.outward.result) c.inward.ensures ∙ ap (λ o. r (inward_iface net c.args.node c.args.group c.args.source) o)
    (ways_are net c.args.node c.args.group c.args.source c.outward.result c.outward.ensures)
