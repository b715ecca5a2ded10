use Rattle.std.proofs.Common.{◌≡◌, ◌++◌, ◌∷◌, [], ◌∙◌, ◌+◌, ◌-◌, replicate, ap, sym, append_assoc, arith}
use Rattle.std.proofs.lemmas.Grind.{common_steps}
use Rattle.network_demand.proofs.Pools.{rest_more}
use Rattle.network_demand.proofs.asked.nothing_asked.Goals as goal

pub loop-node-preserved : goal.loop-node-preserved
loop-node-preserved c =
    let more = rest_more [] c.args.nodes c.loop-node._node (omega arith) in
    let pushed : c.push.new.self.items ≡ c.loop-node.all.items ++ c.new.result ∷ [] = grind (arith, common_steps) in
    ap (λ xs. xs ++ replicate (c.args.nodes - (c.loop-node._node + 1)) []) (pushed ∙ ap (λ x. c.loop-node.all.items ++ x ∷ []) c.new.ensures)
    ∙ append_assoc c.loop-node.all.items ([] ∷ []) (replicate (c.args.nodes - (c.loop-node._node + 1)) [])
    ∙ ap (λ xs. c.loop-node.all.items ++ xs) (sym more) ∙ c.loop-node.invariant
