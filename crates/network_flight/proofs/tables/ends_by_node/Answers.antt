use Rattle.std.proofs.Common.{◌≡◌, ◌∷◌, [], ◌++◌, arith}
use Rattle.std.proofs.lemmas.Grind.{common_steps}
use Rattle.tree_model.specs.Networks.{ends_of}
use Rattle.network_flight.proofs.MadeTables.{made_more}
use Rattle.network_flight.proofs.tables.ends_by_node.Goals as goal

pub loop-node-preserved : goal.loop-node-preserved
loop-node-preserved c =
    let kept : c.push.new.self.items ≡ c.loop-node.table.items ++ c.in_ok-found.found ∷ [] = grind (arith, common_steps) in
    made_more (λ v. v.items) (ends_of c.args.ends.now) c.loop-node.table.items c.loop-node.node c.loop-node.invariant c.push.new.self.items c.in_ok-found.found kept c.in_ok-found.ensures
