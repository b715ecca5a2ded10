use Rattle.std.proofs.Common.{◌≡◌, ◌∙◌, List, Some, ap, sym}
use Rattle.tree_model.specs.declared.hops.End.{End}
use Rattle.tree_model.specs.Networks.{Net, iface_of}
use Rattle.tree_model.specs.Trees.{iface_in, inward}
use Rattle.tree_routing.specs.Known.{net_with}
use Rattle.tree_routing.proofs.WayLaws.{into_at, into_below}
use Rattle.tree_routing.proofs.routing.Routing.inward.Goals as goal
use Rattle.tree_routing.proofs.routing.Routing.inward.Goals.{After-hop_into}

-- the end that was found among the hops of the tree
found : (c : After-hop_into) → c.hop_into.result ≡ inward c.args.self.now c.args.node c.args.group c.args.source
found c =
    let net = net_with c.self.inside.nodes c.self.inside.ends.items c.self.inside.links.items c.self.inside.hops.items in
    c.hop_into.ensures
    ∙ into_at net c.self.invariant.0 c.self.inside.sorted.items c.self.invariant.3 c.as_slice-2.result.now c.as_slice.result.now c.of_tree-hops.result.now c.args.group c.args.source
    c.as_slice-2.ensures.value c.as_slice.ensures.value c.of_tree-hops.ensures c.args.node
    ∙ ap (λ (m : Net). inward m c.args.node c.args.group c.args.source) c.self.view_is

pub returns-in_err-into : goal.returns-in_err-into
returns-in_err-into c = c.from_residual.ensures ∙ ap (iface_in c.args.self.now.ends) (sym c.in_err-into.was ∙ found (goal.at.returns-in_err-into c).After-hop_into)

pub iface_of-requires-clause-inside : goal.iface_of-requires-clause-inside
iface_of-requires-clause-inside c =
    let net = net_with c.self.inside.nodes c.self.inside.ends.items c.self.inside.links.items c.self.inside.hops.items in
    into_below net c.self.invariant.0 c.self.inside.sorted.items c.self.invariant.3 c.as_slice-2.result.now c.as_slice.result.now c.of_tree-hops.result.now c.args.group c.args.source
    c.as_slice-2.ensures.value c.as_slice.ensures.value c.of_tree-hops.ensures c.args.node c.in_ok-into.into c.as_slice-3.result.now c.as_slice-3.ensures.value
    (sym c.hop_into.ensures ∙ c.in_ok-into.was)

pub returns : goal.returns
returns c =
    ap Some (c.iface_of.ensures.number ∙ ap (λ (es : List End). iface_of es c.in_ok-into.into) (c.as_slice-3.ensures.value ∙ ap (λ (m : Net). m.ends) c.self.view_is))
    ∙ ap (iface_in c.args.self.now.ends) (sym c.in_ok-into.was ∙ found (goal.at.returns c).After-hop_into)
