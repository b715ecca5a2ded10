use Rattle.std.proofs.Common.{◌≡◌, ◌<◌, ◌≤◌, ◌∙◌, List, Some, ap, sym, refl, arith, length, add-one}
use Rattle.std.specs.Prelude.{slice_get, slice_set}
use Rattle.std.proofs.lemmas.Option.{slice_get_read}
use Rattle.router_rules.specs.declared.route.Route.{Route}
use Rattle.network_flight.specs.Worlds.{route_of}
use Rattle.network_replay.proofs.Moves.{mixed, mixed_all, mixed_get, mixed_step}
use Rattle.network_replay.proofs.Nodes.{length_set}
use Rattle.network_replay.proofs.moving.put_routes.Goals as goal

pub loop-k-preserved : goal.loop-k-preserved
loop-k-preserved c =
    let inv = c.loop-k.invariant in
    let k = c.loop-k.k in
    let rs = c.args.routes.now.items in
    let f = route_of c.args.routing.now c.args.node in
    let old = c.index_mut.result.now in
    let new = c.move_route.new.route in
    let lt : k < length c.loop-k.routes.items = omega (arith, c.loop-k-test.true, c.len-k-end.ensures, inv.many, c.args.routes.now.ok.0) in
    let here = slice_get_read c.loop-k.routes.items _ k old refl lt c.index_mut.ensures.value in
    let at : slice_get rs k ≡ Some old = sym (mixed_get f rs k) ∙ sym (ap (λ (l : List Route). slice_get l k) inv.are) ∙ here in
    record {
      many = length_set c.loop-k.routes.items k new ∙ inv.many;
      are = ap (λ (l : List Route). slice_set l k new) inv.are ∙ ap (λ (y : Route). slice_set (mixed f rs k) k y) c.move_route.ensures ∙ mixed_step f rs k old at
          ∙ ap (λ m. mixed f rs m) (sym (add-one k));
    }

pub returns : goal.returns
returns c =
    let inv = c.loop-k.invariant in
    let rs = c.args.routes.now.items in
    let le : length rs ≤ c.loop-k.k = omega (arith, c.loop-k-test.false, c.len-k-end.ensures, c.args.routes.now.ok.0) in
    inv.are ∙ mixed_all (route_of c.args.routing.now c.args.node) rs c.loop-k.k le
