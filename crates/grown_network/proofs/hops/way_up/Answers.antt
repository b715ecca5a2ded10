use Rattle.std.proofs.Common.{◌≡◌, ℕ, ◌+◌, ◌-◌, suc, List, ◌++◌, sym, ap, ◌∙◌, arith}
use Rattle.grown_network.specs.Hops.{climb, way_up}
use Rattle.grown_network.proofs.Climbs.{way_pushed, way_ended, way_done}
use Rattle.grown_network.proofs.hops.way_up.Goals.{then-node-ne0+in_ok-push, else-node-ne0}
use Rattle.grown_network.proofs.hops.way_up.Goals as goal

pub loop-level-init : goal.loop-level-init
unfolding way_up
loop-level-init c = ap (λ (xs : List ℕ). xs ++ climb 6 c.args.root) c.new-way.ensures.items

pub loop-level-preserved : goal.loop-level-preserved
loop-level-preserved c =
    let n = 6 - (c.loop-level._level + 1) in
    let left : 6 - c.loop-level._level ≡ suc n = omega arith in
    let inv = ap (λ m. c.loop-level.way.items ++ climb m c.loop-level.node) (sym left) ∙ c.loop-level.invariant in
    elim c.if-node-ne0.branch [
      | then-node-ne0+in_ok-push w ↦ way_pushed c.loop-level.way.items c.if-node-ne0.way'.items (way_up c.args.root) n c.loop-level.node c.if-node-ne0.node
          (ap (λ v. v.items) w.way'-is ∙ w.in_ok-push.ensures.items) (w.node-is ∙ w.above-node.ensures) (omega arith) inv
      | else-node-ne0 w ↦ way_ended c.loop-level.way.items c.if-node-ne0.way'.items (way_up c.args.root) n c.loop-level.node c.if-node-ne0.node (ap (λ v. v.items) w.way'-is) w.node-is
          (omega arith) inv
    ]

pub returns : goal.returns
returns c = way_done c.loop-level.way.items (way_up c.args.root) c.loop-level._level c.loop-level.node (omega arith) c.loop-level.invariant
