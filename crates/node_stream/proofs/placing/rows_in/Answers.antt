use Rattle.std.proofs.Common.{rules, ◌≡◌, Bool, true, false, None, sym, ap, subst, arith}
use Rattle.std.specs.Prelude.{is_some, Ok}
use Rattle.rsvp_base.specs.Table.{get}
use Rattle.router_rules.specs.declared.route.Route.{Route}
use Rattle.node_stream.specs.Rules.{routes_to, tree_of}
use Rattle.node_stream.proofs.Placed.{is_same_tree, one_more_once, one_more_row}
use Rattle.node_stream.proofs.placing.rows_in.Goals as goal

pub returns-then-not-branch-clause-bad : goal.returns-then-not-branch-clause-bad
returns-then-not-branch-clause-bad c =
    let t = routes_to c.args.contents.now c.loop-k.k in
    let no : c.in_ok-add_row.field-0 ≡ false = search rules in
    let there = c.in_ok-add_row.ensures.there t (sym c.loop-k.invariant.rows) (ap Ok no) in (
      omega (arith, c.loop-k-test.true, c.route_count-k-end.ensures.is),
      is_same_tree c.args.contents.now c.loop-k.k (subst (λ (r : Route). is_some (get t (tree_of r)) ≡ true) c.route_at-route.ensures there),
    )

pub loop-k-preserved : goal.loop-k-preserved
loop-k-preserved c =
    let t = routes_to c.args.contents.now c.loop-k.k in
    let yes : c.in_ok-add_row.field-0 ≡ true = search rules in
    let added = c.in_ok-add_row.ensures.added t (sym c.loop-k.invariant.rows) (ap Ok yes) in
    record {
      rows = one_more_row c.args.contents.now c.loop-k.k c.route_at-route.result c.add_row.new.rows.items c.route_at-route.ensures added.1;
      once = one_more_once c.args.contents.now c.loop-k.k c.loop-k.invariant.once (subst (λ (r : Route). get t (tree_of r) ≡ None) c.route_at-route.ensures added.0);
    }
