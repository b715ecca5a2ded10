use Rattle.std.proofs.Common.{◌≡◌, ◌∙◌, Some, None, length, subst, sym, ap, arith}
use Rattle.std.specs.Prelude.{slice_get, map as each}
use Rattle.std.proofs.lemmas.List.{take_all}
use Rattle.network_model.specs.Worlds.{route_of}
use Rattle.tree_model.specs.Trees.{trees_of}
use Rattle.network_replay.proofs.Moves.{past_end}
use Rattle.live_router.proofs.Routes.{one_more}
use Rattle.live_router.proofs.place.routes_at.Goals as goal

pub loop-group-preserved : goal.loop-group-preserved
loop-group-preserved c =
    let ts = trees_of c.args.routing.now.hops in
    let rs = c.loop-group.routes.items in
    let many : c.len.result ≡ length rs = omega (arith, c.len.ensures, c.loop-group.routes.ok.0) in
    let at : slice_get ts (length rs) ≡ Some (c.in-Some.group, c.in-Some.source) = subst (λ k. slice_get ts k ≡ Some (c.in-Some.group, c.in-Some.source)) many (sym c.in-Some.ensures) in
    one_more (route_of c.args.routing.now c.args.node) rs c.push.new.self.items ts (
      c.in-Some.group,
      c.in-Some.source,
    ) c.route_at.result c.loop-group.invariant.0 at c.route_at.ensures c.in_ok-push.ensures.items

pub returns : goal.returns
returns c =
    let ts = trees_of c.args.routing.now.hops in
    let rs = c.loop-group.routes.items in
    let f = route_of c.args.routing.now c.args.node in
    let many : c.len.result ≡ length rs = omega (arith, c.len.ensures, c.loop-group.routes.ok.0) in
    let none : slice_get ts (length rs) ≡ None = subst (λ k. slice_get ts k ≡ None) many (sym c.in_default.ensures) in
    c.loop-group.invariant.0 ∙ ap (each f) (take_all (length rs) ts (past_end ts (length rs) none))
