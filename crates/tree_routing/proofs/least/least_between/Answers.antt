use Rattle.std.proofs.Common.{◌≡◌, ◌∙◌, ◌<◌, true, false, inl, inr, arith, subst, sym, take, length, List}
use Rattle.tree_routing.specs.declared.known.Known.{Known}
use Rattle.tree_routing.specs.Checks.{IsLeastAmong}
use Rattle.tree_routing.proofs.LeastLaws.{take_one_more, least_more, vertex_within}
use Rattle.tree_routing.proofs.least.least_between.Goals as goal
use Rattle.tree_routing.proofs.least.least_between.Goals.{then-branch, else-branch}

pub is_better-requires-clause-vertex : goal.is_better-requires-clause-vertex
is_better-requires-clause-vertex c =
    vertex_within c.args.hops.now (length c.args.hops.now) c.loop-hop.hop-index _ c.requires.below (omega arith)

pub loop-hop-preserved : goal.loop-hop-preserved
loop-hop-preserved c =
    let ks : List Known = c.args.hops.now in
    let inside : c.loop-hop.hop-index < length ks = omega arith in
    subst (λ (some : List Known). IsLeastAmong ks some c.args.new.now c.args.before c.if-branch.least) (sym (take_one_more ks c.loop-hop.hop-index _ inside))
    (least_more ks (take c.loop-hop.hop-index ks) c.args.new.now c.args.before _ c.loop-hop.least c.loop-hop.invariant c.if-branch.least
    (elim c.if-branch.branch [
      | then-branch w ↦ inl (c.in_ok-is_better.ensures.0 w.if-branch.true, w.least-is)
      | else-branch w ↦ inr (λ b. let z : false ≡ true = sym w.if-branch.false ∙ c.in_ok-is_better.ensures.1 b in cc, w.least-is)
    ]))
