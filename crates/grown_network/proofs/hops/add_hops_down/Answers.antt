use Rattle.std.proofs.Common.{◌≡◌, ◌+◌, ◌-◌, [], ◌∷◌, ◌++◌, ap, ◌∙◌, arith}
use Rattle.tree_model.specs.declared.hops.LinkHop.{LinkHop}
use Rattle.grown_network.proofs.HopLists.{down_at, down_none, down_past, down_pushed}
use Rattle.grown_network.proofs.hops.add_hops_down.Goals.{then-not-is_among+in_ok-push, else-not-is_among}
use Rattle.grown_network.proofs.hops.add_hops_down.Goals as goal

pub loop-node-init : goal.loop-node-init
loop-node-init c = down_none c.args.hops.now.items c.args.way.now

pub loop-node-preserved : goal.loop-node-preserved
loop-node-preserved c =
    let before = c.args.hops.now.items in
    let way = c.args.way.now in
    let n = c.loop-node.node - 1 in
    let next : c.loop-node.node ≡ n + 1 = omega arith in
    let k : c.loop-node.node ≡ c.loop-node.node + 1 - 1 = omega arith in
    down_at before c.if-not-is_among.hops.items way c.loop-node.node (c.loop-node.node + 1 - 1) k
    (elim c.if-not-is_among.branch [
      | then-not-is_among+in_ok-push w ↦ down_pushed before c.loop-node.hops.items c.if-not-is_among.hops.items way n c.loop-node.node next (cc)
          (ap (λ v. v.items) w.hops-is ∙ w.in_ok-push.ensures.items ∙ ap (λ (h : LinkHop). c.loop-node.hops.items ++ h ∷ []) w.hop_down.ensures) c.loop-node.invariant
      | else-not-is_among w ↦ down_past before c.loop-node.hops.items c.if-not-is_among.hops.items way n c.loop-node.node next (cc) (ap (λ v. v.items) w.hops-is) c.loop-node.invariant
    ])

pub returns : goal.returns
returns c = down_at c.args.hops.now.items c.loop-node.hops.items c.args.way.now (c.loop-node.node - 1) 63 (omega arith) c.loop-node.invariant
