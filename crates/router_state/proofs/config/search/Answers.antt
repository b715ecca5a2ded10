use Rattle.std.proofs.Common.{rules, of_calls}
use Rattle.std.proofs.lemmas.Fn.{always_returns_same}
use Rattle.rsvp_base.proofs.Rows.{searched_found, searched_absent}
use Rattle.router_rules.specs.declared.route.Route.{Route}
use Rattle.router_state.specs.Routes.{route_keys, route_row}
use Rattle.router_state.proofs.config.search.Goals as goal

pub returns-clause-there : goal.returns-clause-there
returns-clause-there c =
    let is = c.binary_search_by.ensures.position (λ (x : Route). route_keys.cmp (x.group, x.source) (c.args.group, c.args.source)) (always_returns_same _ _ _ (λ a r f k. search (rules, of_calls))) in
    searched_found route_keys route_row c.args.rows.now (c.args.group, c.args.source) c.binary_search_by.result c.requires c.binary_search_by.ensures.bound is

pub returns-clause-absent : goal.returns-clause-absent
returns-clause-absent c =
    let is = c.binary_search_by.ensures.position (λ (x : Route). route_keys.cmp (x.group, x.source) (c.args.group, c.args.source)) (always_returns_same _ _ _ (λ a r f k. search (rules, of_calls))) in
    searched_absent route_keys route_row c.args.rows.now (c.args.group, c.args.source) c.binary_search_by.result c.requires c.binary_search_by.ensures.bound is
