use Rattle.std.proofs.Common.{◌≡◌, ◌∷◌, [], ◌++◌, arith}
use Rattle.std.proofs.lemmas.Grind.{common_steps}
use Rattle.tree_model.specs.Networks.{peers}
use Rattle.network_flight.proofs.MadeTables.{made_more}
use Rattle.network_flight.proofs.tables.peers_by_end.Goals as goal

pub loop-end-preserved : goal.loop-end-preserved
loop-end-preserved c =
    let kept : c.push.new.self.items ≡ c.loop-end.table.items ++ c.in_ok-others.others ∷ [] = grind (arith, common_steps) in
    made_more (λ v. v.items) (peers c.args.routing.now.links) c.loop-end.table.items c.loop-end.end c.loop-end.invariant c.push.new.self.items c.in_ok-others.others kept c.in_ok-others.ensures
