use Rattle.std.proofs.Common.{◌≡◌, ◌<◌, List, length, slice_set, sym, subst, ap, ◌∙◌}
use Rattle.tree_model.specs.declared.hops.End.{End}
use Rattle.tree_model.specs.Networks.{Net}
use Rattle.tree_model.specs.Valid.{IsValid}
use Rattle.tree_routing.specs.Known.{net_of, AreKnown}
use Rattle.tree_routing.specs.Answers.{ends_with_latency, with_latency}
use Rattle.tree_routing.proofs.Latencies.{latency_set, valid_latency, known_latency}
use Rattle.tree_routing.proofs.topology.Topology.set_latency.Goals as goal
use Rattle.tree_routing.proofs.topology.Topology.set_latency.Goals.{After-index_mut}

abbrev written : After-index_mut → List End
written c =
    let x = c.index_mut.result.now in
    slice_set c.self.inside.ends.items c.args.end
    (record { node = x.node; iface = record { addr = x.iface.addr; capacity = x.iface.capacity; mtu = x.iface.mtu; latency = c.args.latency } })

is_written : (c : After-index_mut) → written c ≡ ends_with_latency c.self.inside.ends.items c.args.end c.args.latency
is_written c =
    latency_set c.self.inside.ends.items c.args.end c.args.latency c.index_mut.result.now _ (subst (λ (n : Net). c.args.end < length n.ends) (sym c.self.view_is) c.requires) c.index_mut.ensures.value

pub invariant_of-self : goal.invariant_of-self
invariant_of-self c =
    let d = (goal.at.invariant_of-self c).After-index_mut in
    let net = net_of c.self.inside.nodes c.self.inside.ends.items c.self.inside.links.items c.self.inside.hops.items in
    subst (λ (xs : List End). IsValid (net_of c.self.inside.nodes xs c.self.inside.links.items c.self.inside.hops.items) × AreKnown xs c.self.inside.hops.items) (sym (is_written d)) (
      valid_latency net c.args.end c.args.latency c.self.invariant.0,
      known_latency c.self.inside.ends.items c.self.inside.hops.items c.args.end c.args.latency c.self.invariant.1,
    )

pub returns : goal.returns
returns c =
    let d = (goal.at.returns c).After-index_mut in
    ap (λ (xs : List End). net_of c.self.inside.nodes xs c.self.inside.links.items c.self.inside.hops.items) (is_written d)
    ∙ ap (λ (n : Net). with_latency n c.args.end c.args.latency) c.self.view_is
