use Rattle.std.proofs.Common.{◌≡◌, List, sym, subst}
use Rattle.std.specs.List.{filter}
use Rattle.tree_model.specs.declared.hops.TreeHop.{TreeHop}
use Rattle.tree_model.specs.Networks.{Net}
use Rattle.tree_model.specs.Trees.{of_group}
use Rattle.tree_model.specs.Valid.{IsValid}
use Rattle.tree_routing.specs.declared.known.Known.{Known}
use Rattle.tree_routing.specs.Known.{plain, AreKnown}
use Rattle.tree_routing.specs.Order.{AreByRank, AreRankedHops}
use Rattle.tree_routing.specs.Reroutes.{with_hops, StayOthers}
use Rattle.tree_routing.proofs.RanksThen.{ranks_then}
use Rattle.tree_routing.proofs.routing.Routing.ranks_with.Goals as goal

pub returns : goal.returns
returns c =
    let of = c.self.inside in
    let ks : List Known = c.args.known.now in
    let known : AreKnown of.ends.items ks = subst (λ (m : Net). AreKnown m.ends ks) (sym c.self.view_is) c.requires.known in
    subst (λ (m : Net). (rs : List TreeHop) → IsValid (with_hops m rs) → StayOthers c.args.group m.hops rs → plain ks ≡ filter (of_group c.args.group) rs
    → AreRankedHops (with_hops m rs) c.in_ok-ranked.ranked.items) c.self.view_is
    (ranks_then of.nodes of.ends.items of.links.items of.hops.items c.args.group ks known of.ranked.items c.as_slice.result.now c.in_ok-mine.mine.items c.as_slice-2.result.now
    c.in_ok-ranked.ranked.items c.args.lifted.now c.highest-most.result
    (record { hops = subst (AreByRank _) c.self.invariant.6 c.self.invariant.4; ranks = c.self.invariant.5 }) c.as_slice.ensures.value c.requires.levels c.highest-most.ensures
    c.in_ok-mine.ensures c.as_slice-2.ensures.value c.in_ok-ranked.ensures)
