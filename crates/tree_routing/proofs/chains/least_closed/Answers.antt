use Rattle.std.proofs.Common.{◌≡◌, ◌∙◌, ◌<◌, true, false, inl, inr, arith, subst, sym, take, take_all, length, List}
use Rattle.tree_routing.specs.declared.known.Known.{Known}
use Rattle.tree_routing.specs.Reroutes.{IsLeastClosed}
use Rattle.tree_routing.proofs.ClosedChains.{lesser_more}
use Rattle.tree_routing.proofs.LeastLaws.{take_one_more, vertex_within}
use Rattle.tree_routing.proofs.chains.least_closed.Goals as goal
use Rattle.tree_routing.proofs.chains.least_closed.Goals.{then-branch, else-branch}

pub is_lesser-requires-clause-from : goal.is_lesser-requires-clause-from
is_lesser-requires-clause-from c = vertex_within c.args.hops.now (length c.args.hops.now) c.loop-hop.hop-index _ c.requires.below (omega arith)

pub loop-hop-preserved : goal.loop-hop-preserved
loop-hop-preserved c =
    let ks : List Known = c.args.hops.now in
    let inside : c.loop-hop.hop-index < length ks = omega arith in
    subst (λ (some : List Known). IsLeastClosed ks some c.args.group c.if-branch.least) (sym (take_one_more ks c.loop-hop.hop-index _ inside))
    (lesser_more ks (take c.loop-hop.hop-index ks) c.args.group _ c.loop-hop.least c.if-branch.least c.loop-hop.invariant
    (elim c.if-branch.branch [
      | then-branch w ↦ inl (c.in_ok-is_lesser.ensures.0 w.if-branch.true, w.least-is)
      | else-branch w ↦ inr (λ b. let z : false ≡ true = sym w.if-branch.false ∙ c.in_ok-is_lesser.ensures.1 b in cc, w.least-is)
    ]))

pub returns : goal.returns
returns c = subst (λ (some : List Known). IsLeastClosed c.args.hops.now some c.args.group c.loop-hop.least) (take_all c.loop-hop.hop-index c.args.hops.now (omega arith)) c.loop-hop.invariant
