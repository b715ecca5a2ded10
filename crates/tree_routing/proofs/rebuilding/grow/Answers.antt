use Rattle.std.proofs.Common.{sym, subst, arith, rules, List, slice_index_or}
use Rattle.tree_model.specs.declared.hops.LinkHop.{LinkHop}
use Rattle.tree_model.specs.declared.hops.TreeHop.{TreeHop}
use Rattle.tree_model.proofs.TreeLaws.{true_false}
use Rattle.tree_routing.specs.Reroutes.{tree_hop}
use Rattle.tree_routing.specs.declared.known.Known.{Known}
use Rattle.tree_routing.specs.Answers.{Fits}
use Rattle.tree_routing.specs.Known.{net_of}
use Rattle.tree_routing.proofs.Rebuilt.{grown_start, not_grown, grown_more}
use Rattle.tree_routing.proofs.rebuilding.grow.Goals as goal

abbrev nothing : LinkHop
nothing = record { from = 0; to = 0 }

pub loop-hop-init : goal.loop-hop-init
loop-hop-init c = grown_start c.args.ends.now c.args.links.now c.args.all.now.items c.args.group c.args.source c.requires.none c.requires.placed

pub returns-then-not-can_grow : goal.returns-then-not-can_grow
returns-then-not-can_grow c =
    let hop : TreeHop = tree_hop c.args.group c.args.source (slice_index_or c.args.hops.now c.loop-hop.hop-index nothing) in
    not_grown c.args.ends.now c.args.links.now c.args.all.now.items c.args.group c.args.source c.requires.none c.loop-hop.all.items c.args.hops.now c.loop-hop.hop-index nothing c.loop-hop.invariant
    (omega arith)
    (λ nodes fits. true_false _ ((c.can_grow.ensures nodes).1 (subst (λ (ks : List Known). Fits (net_of nodes c.args.ends.now c.args.links.now ks) hop)
    (sym c.as_slice.ensures.value) fits)) c.if-not-can_grow.true)

pub loop-hop-preserved : goal.loop-hop-preserved
loop-hop-preserved c =
    let hop : TreeHop = tree_hop c.args.group c.args.source (slice_index_or c.args.hops.now c.loop-hop.hop-index nothing) in
    grown_more c.args.ends.now c.args.links.now c.args.all.now.items c.args.group c.args.source c.requires.none c.loop-hop.all.items c.args.hops.now c.loop-hop.hop-index nothing c.loop-hop.invariant
    (omega arith) c.place.new.hops.items
    (search rules)
    (λ nodes. subst (λ (ks : List Known). Fits (net_of nodes c.args.ends.now c.args.links.now ks) hop) c.as_slice.ensures.value ((c.can_grow.ensures nodes).0 c.if-not-can_grow.false))
