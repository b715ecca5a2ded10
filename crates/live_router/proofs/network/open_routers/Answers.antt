use Rattle.std.proofs.Common.{◌≡◌, ◌∷◌, [], ◌++◌, ◌∙◌, ap, arith}
use Rattle.std.specs.Prelude.{map as each}
use Rattle.std.specs.List.{range_with_len}
use Rattle.stale_state.specs.AtNodes.{list_of}
use Rattle.network_model.specs.Runs.{left_over}
use Rattle.network_flight.proofs.MadeTables.{made_more}
use Rattle.router_state.specs.State.{facts_at}
use Rattle.router_rules.specs.Facts.{no_facts}
use Rattle.stale_state.specs.Fit.{place_of}
use Rattle.live_router.proofs.Opened.{first_of}
use Rattle.live_router.proofs.network.open_routers.Goals as goal

pub loop-node-preserved : goal.loop-node-preserved
loop-node-preserved c =
    let q = c.args.quarter in
    let net = c.args.routing.now in
    let rs = c.loop-node.routers.items in
    let n = c.loop-node.node in
    let r = c.in_ok-router.router in
    let kept : c.push.new.self.items ≡ rs ++ r ∷ [] = c.in_ok-push.ensures.items in
    record {
      placed = made_more (λ r. r.place) (place_of q net) rs n c.loop-node.invariant.placed c.push.new.self.items r kept c.in_ok-router.ensures.place;
      first = made_more (λ r. facts_at 0 r)
          (λ m. left_over (place_of q net m) m (list_of c.args.left.now) no_facts) rs n c.loop-node.invariant.first c.push.new.self.items r kept c.in_ok-router.ensures.facts;
    }

pub returns : goal.returns
returns c =
    let q = c.args.quarter in
    let net = c.args.routing.now in
    let end : c.loop-node.node ≡ net.nodes = omega (arith, c.loop-node.auto.node-end, c.loop-node-test.false, c.nodes-node-end.ensures.nodes) in
    let placed = c.loop-node.invariant.placed ∙ ap (λ k. each (place_of q net) (range_with_len 0 k)) end in
    let first = c.loop-node.invariant.first ∙ ap (λ k. each (λ m. left_over (place_of q net m) m (list_of c.args.left.now) no_facts) (range_with_len 0 k)) end in
    record { placed = placed; first = λ p quarter wires stale. first_of q net (list_of c.args.left.now) c.loop-node.routers.items first p quarter wires stale }
