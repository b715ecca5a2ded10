use Rattle.std.proofs.Common.{◌≡◌, ◌∙◌, Some, None, length, subst, sym, arith}
use Rattle.std.specs.Prelude.{slice_get}
use Rattle.std.proofs.lemmas.List.{take_all}
use Rattle.router_rules.specs.declared.route.Route.{Route}
use Rattle.tree_model.specs.Trees.{trees_of}
use Rattle.network_replay.proofs.Moves.{one_route, past_end}
use Rattle.network_replay.proofs.moving.routes_of.Goals as goal

pub loop-group-preserved : goal.loop-group-preserved
loop-group-preserved c =
    let ts = trees_of c.args.routing.now.hops in
    let rs = c.loop-group.routes.items in
    let r : Route = record { group = c.in-Some.group; source = c.in-Some.source; inward = None; outward = 0 } in
    let many : c.len.result ≡ length rs = omega (arith, c.len.ensures, c.loop-group.routes.ok.0) in
    let at : slice_get ts (length rs) ≡ Some (c.in-Some.group, c.in-Some.source) = subst (λ k. slice_get ts k ≡ Some (c.in-Some.group, c.in-Some.source)) many (sym c.in-Some.ensures) in
    one_route rs c.push.new.self.items r ts c.loop-group.invariant.0 at c.in_ok-push.ensures.items

pub returns : goal.returns
returns c =
    let ts = trees_of c.args.routing.now.hops in
    let rs = c.loop-group.routes.items in
    let many : c.len.result ≡ length rs = omega (arith, c.len.ensures, c.loop-group.routes.ok.0) in
    let none : slice_get ts (length rs) ≡ None = subst (λ k. slice_get ts k ≡ None) many (sym c.in_default.ensures) in
    c.loop-group.invariant.0 ∙ take_all (length rs) ts (past_end ts (length rs) none)
