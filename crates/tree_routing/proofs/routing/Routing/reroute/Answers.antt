use Rattle.std.proofs.Common.{◌≡◌, ◌∙◌, ap, subst, List, Some, None}
use Rattle.std.proofs.lemmas.Result.{err_from_is_err_and}
use Rattle.tree_model.specs.Networks.{Net}
use Rattle.tree_model.specs.Valid.{IsValid}
use Rattle.tree_routing.specs.declared.known.Known.{Known}
use Rattle.tree_routing.specs.Known.{plain, net_with}
use Rattle.tree_routing.specs.Reroutes.{IsLeastClosed}
use Rattle.tree_routing.proofs.ReroutedLaws.{befores_below, refused_answer, loop_answer, part_few, part_kept, valid_with}
use Rattle.tree_routing.proofs.ValidMore.{below_all}
use Rattle.tree_routing.proofs.routing.Routing.reroute.Goals as goal

pub returns-in_err-known-clause-answer : goal.returns-in_err-known-clause-answer
returns-in_err-known-clause-answer c =
    let nodes = c.self.inside.nodes in
    let is : net_with nodes c.as_slice.result.now c.as_slice-2.result.now c.as_slice-3.result.now ≡ c.args.self.now =
    (λ i. net_with nodes (c.as_slice.ensures.value i) (c.as_slice-2.ensures.value i) (c.as_slice-3.ensures.value i)) ∙ c.self.view_is in
    let p = err_from_is_err_and c.from_residual.result c.from_residual.ensures.1 in
    rw (p.1, p.2) (refused_answer Net c.args.self.now
    (net_with nodes c.as_slice.result.now c.as_slice-2.result.now c.as_slice-3.result.now) c.args.group c.args.source c.args.hops.now c.in_err-known.field-0.0 is (c.in_err-known.ensures.err nodes))

pub closed_hop-requires-clause-few : goal.closed_hop-requires-clause-few
closed_hop-requires-clause-few c =
    let nodes = c.self.inside.nodes in
    let is : net_with nodes c.as_slice.result.now c.as_slice-2.result.now c.as_slice-3.result.now ≡ c.args.self.now =
    (λ i. net_with nodes (c.as_slice.ensures.value i) (c.as_slice-2.ensures.value i) (c.as_slice-3.ensures.value i)) ∙ c.self.view_is in
    part_few c.args.self.now (subst IsValid c.self.view_is c.self.invariant.0) nodes c.as_slice.result.now c.as_slice-2.result.now c.as_slice-3.result.now is c.args.group c.args.source
    c.args.hops.now (c.in_ok-known.ensures.grown nodes)
    c.in_ok-known.known.items c.in_ok-known.ensures.known c.in_ok-known.ensures.hops c.requires c.as_slice-5.result.now c.as_slice-5.ensures.value

pub closed_hop-requires-clause-below : goal.closed_hop-requires-clause-below
closed_hop-requires-clause-below c = below_all c.as_slice.result.now c.in_ok-known.known.items c.as_slice-5.result.now c.in_ok-known.ensures.known c.as_slice-5.ensures.value

pub closed_hop-requires-clause-before : goal.closed_hop-requires-clause-before
closed_hop-requires-clause-before c = befores_below c.as_slice.result.now c.in_ok-known.known.items c.as_slice-5.result.now c.in_ok-known.ensures.known c.as_slice-5.ensures.value

pub returns-in-Some-clause-answer : goal.returns-in-Some-clause-answer
returns-in-Some-clause-answer c =
    let nodes = c.self.inside.nodes in
    let is : net_with nodes c.as_slice.result.now c.as_slice-2.result.now c.as_slice-3.result.now ≡ c.args.self.now =
    (λ i. net_with nodes (c.as_slice.ensures.value i) (c.as_slice-2.ensures.value i) (c.as_slice-3.ensures.value i)) ∙ c.self.view_is in
    let ks : List Known = c.in_ok-known.known.items in
    let least : IsLeastClosed ks ks c.args.group (Some c.in-Some.hop) = subst (IsLeastClosed ks ks c.args.group) c.in-Some.is
    (subst (λ (xs : List Known). IsLeastClosed xs xs c.args.group c.in-Ok-closed_hop.closed) c.as_slice-5.ensures.value c.in-Ok-closed_hop.ensures) in
    loop_answer c.args.self.now (subst IsValid c.self.view_is c.self.invariant.0) nodes c.as_slice.result.now c.as_slice-2.result.now c.as_slice-3.result.now is c.args.group c.args.source
    c.args.hops.now (c.in_ok-known.ensures.grown nodes)
    ks c.in_ok-known.ensures.known c.in_ok-known.ensures.hops c.in-Some.hop least

pub rerouted-requires-clause-valid : goal.rerouted-requires-clause-valid
rerouted-requires-clause-valid c =
    let nodes = c.self.inside.nodes in
    let is : net_with nodes c.as_slice.result.now c.as_slice-2.result.now c.as_slice-3.result.now ≡ c.args.self.now =
    (λ i. net_with nodes (c.as_slice.ensures.value i) (c.as_slice-2.ensures.value i) (c.as_slice-3.ensures.value i)) ∙ c.self.view_is in
    let ks : List Known = c.in_ok-known.known.items in
    let none : IsLeastClosed ks ks c.args.group None = subst (IsLeastClosed ks ks c.args.group) c.in_default-closed.is
    (subst (λ (xs : List Known). IsLeastClosed xs xs c.args.group c.in-Ok-closed_hop.closed) c.as_slice-5.ensures.value c.in-Ok-closed_hop.ensures) in
    valid_with c.args.self.now (subst IsValid c.self.view_is c.self.invariant.0) nodes c.as_slice.result.now c.as_slice-2.result.now c.as_slice-3.result.now is c.args.group c.args.source
    c.args.hops.now (c.in_ok-known.ensures.grown nodes)
    ks c.in_ok-known.ensures.known c.in_ok-known.ensures.hops c.requires none

pub rerouted-requires-clause-part : goal.rerouted-requires-clause-part
rerouted-requires-clause-part c =
    let nodes = c.self.inside.nodes in
    let is : net_with nodes c.as_slice.result.now c.as_slice-2.result.now c.as_slice-3.result.now ≡ c.args.self.now =
    (λ i. net_with nodes (c.as_slice.ensures.value i) (c.as_slice-2.ensures.value i) (c.as_slice-3.ensures.value i)) ∙ c.self.view_is in
    ap plain c.as_slice-7.ensures.value ∙ part_kept c.args.self.now (subst IsValid c.self.view_is c.self.invariant.0) nodes c.as_slice.result.now c.as_slice-2.result.now c.as_slice-3.result.now is
    c.args.group c.args.source
    c.args.hops.now (c.in_ok-known.ensures.grown nodes)
    c.in_ok-known.known.items c.in_ok-known.ensures.known c.in_ok-known.ensures.hops
