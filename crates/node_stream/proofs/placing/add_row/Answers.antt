use Rattle.std.proofs.Common.{List, subst}
use Rattle.rsvp_base.specs.Rows.{HasRowAt}
use Rattle.rsvp_base.specs.declared.addr.Addr.{Addr}
use Rattle.router_rules.specs.declared.route.Route.{Route}
use Rattle.node_stream.specs.Rules.{tree_keys, tree_of}
use Rattle.node_stream.proofs.Placed.{row_there}
use Rattle.node_stream.proofs.placing.add_row.Goals as goal

pub returns-in-Ok-clause-there : goal.returns-in-Ok-clause-there
returns-in-Ok-clause-there c = λ t e same.
    row_there t c.args.rows.now.items (tree_of c.args.route) c.in-Ok.field-0 e
    (subst (λ (xs : List ((Addr × Addr) × Route)). HasRowAt tree_keys (λ x. x) xs (tree_of c.args.route) c.in-Ok.field-0) c.as_slice.ensures.value c.in-Ok.ensures.there)
