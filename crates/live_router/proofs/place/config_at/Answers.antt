use Rattle.std.proofs.Common.{◌∙◌, List, ap}
use Rattle.tree_model.specs.declared.hops.End.{End}
use Rattle.tree_model.specs.Networks.{ends_of}
use Rattle.network_model.specs.Worlds.{ifaces_at}
use Rattle.live_router.proofs.Routes.{are_routes, few_ifaces}
use Rattle.live_router.proofs.place.config_at.Goals as goal

pub new-requires-clause-few : goal.new-requires-clause-few
new-requires-clause-few c =
    let n = c.args.node in
    few_ifaces c.args.routing.now.ends n c.in_ok-ifaces.ifaces.items (c.in_ok-ifaces.ensures ∙ ap (λ (es : List End). ifaces_at es (ends_of es n)) c.ends.ensures.ends)
    (c.ends.ensures.valid.few_ends n)

pub new-requires-clause-routed : goal.new-requires-clause-routed
new-requires-clause-routed c = are_routes c.args.routing.now c.args.node c.in_ok-routes.routes.items c.in_ok-routes.ensures
