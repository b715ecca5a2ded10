use Rattle.std.proofs.Common.{◌∙◌, List, inl, inr, sym, arith, rules, subst, take_all}
use Rattle.tree_model.specs.declared.hops.TreeHop.{TreeHop}
use Rattle.tree_routing.proofs.Rebuilt.{Others, none_placed, others_more}
use Rattle.tree_routing.proofs.rebuilding.others.Goals as goal
use Rattle.tree_routing.proofs.rebuilding.others.Goals.{then-is_beside+in_ok-place, else-is_beside}

pub loop-hop-init : goal.loop-hop-init
loop-hop-init c = record { are = record { hops_are = search rules; placed = rw c.new-all.ensures.items none_placed }; few = search rules }

pub loop-hop-preserved : goal.loop-hop-preserved
loop-hop-preserved c =
    let r = others_more c.args.hops.now c.loop-hop.all.items c.if-is_beside.all.items c.args.group c.args.source c.loop-hop.hop-index _
    (omega arith) c.loop-hop.invariant.are c.loop-hop.invariant.few
    (elim c.if-is_beside.branch [
      | then-is_beside+in_ok-place w ↦ inl (sym c.is_beside.ensures ∙ w.if-is_beside.true, search rules)
      | else-is_beside w ↦ inr (sym c.is_beside.ensures ∙ w.if-is_beside.false, search rules)
    ]) in
    record { are = r.0; few = r.1 }

pub returns : goal.returns
returns c =
    let all : Others c.args.hops.now c.loop-hop.all.items c.args.group c.args.source = subst (λ (rs : List TreeHop). Others rs c.loop-hop.all.items c.args.group c.args.source)
    (take_all c.loop-hop.hop-index c.args.hops.now (omega arith)) c.loop-hop.invariant.are in
    record { hops = all.hops_are; placed = all.placed }
