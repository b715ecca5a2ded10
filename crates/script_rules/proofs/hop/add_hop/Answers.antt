use Rattle.std.proofs.Common.{◌≡◌, IfErr, IsSome, ℕ, Option, refl, subst, ap, ◌∙◌}
use Rattle.tree_model.specs.declared.hops.TreeHop.{TreeHop}
use Rattle.tree_model.specs.Networks.{owner}
use Rattle.script_rules.specs.Said.{draft_of}
use Rattle.tree_routing.specs.Answers.{Fits}
use Rattle.script_words.specs.Addresses.{addr_value}
use Rattle.script_grammar.specs.Rules.{IsHopKnown}
use Rattle.script_grammar.specs.Values.{IsHopInRange, hop_value, tree_hop_value}
use Rattle.script_rules.specs.HopRefusals.{IsHopRefused}
use Rattle.script_rules.proofs.HopRules.{err_refused, hop_refused}
use Rattle.script_rules.proofs.hop.add_hop.Goals as goal

pub returns-clause-refused : goal.returns-clause-refused
returns-clause-refused c =
    let d = draft_of c.args.state.now in
    let ends = c.in-Some-hop_of.ensures.some.0 refl in
    let parts = c.in-Some.ensures.some.0 refl in
    let in_range : IsHopInRange c.args.line = record { addr = parts.0; group = parts.1; source = parts.2 } in
    let tree = c.in-Some.ensures.value in
    let source = c.owner.ensures ∙ ap (owner d.net.ends) tree.1 in
    let built : TreeHop = record { group = c.in-Some.group; source = c.in-Some.source; hop = c.in-Some-hop_of.hop } in
    let group_is : c.in-Some.group ≡ addr_value c.args.line.group = tree.0 in
    let source_is : c.in-Some.source ≡ addr_value c.args.line.source = tree.1 in
    let hop_is : c.in-Some-hop_of.hop ≡ hop_value d c.args.line.ends = c.in-Some-hop_of.ensures.value in
    let hop : built ≡ tree_hop_value d c.args.line = λ i. record { group = group_is i; source = source_is i; hop = hop_is i } in
    let known : IsHopKnown d c.args.line = record { from = ends.0; to = ends.1; source = subst (λ (o : Option ℕ). IsSome o) source c.if-is_none.ensures } in
    err_refused
    (hop_refused d c.args.line (c.only_declares.ensures.0 c.if-not-only_declares.false) in_range known (c.has_room_for_hop.ensures.0 c.if-not-has_room_for_hop.false))
    c.grow.result (subst (λ (h : TreeHop). IfErr c.grow.result (IsHopRefused d h)) hop c.grow.ensures.refused)

pub returns-clause-asked : goal.returns-clause-asked
returns-clause-asked c = λ e.
    let d = draft_of c.args.state.now in
    let ends = c.in-Some-hop_of.ensures.some.0 refl in
    let parts = c.in-Some.ensures.some.0 refl in
    let in_range : IsHopInRange c.args.line = record { addr = parts.0; group = parts.1; source = parts.2 } in
    let tree = c.in-Some.ensures.value in
    let source = c.owner.ensures ∙ ap (owner d.net.ends) tree.1 in
    let built : TreeHop = record { group = c.in-Some.group; source = c.in-Some.source; hop = c.in-Some-hop_of.hop } in
    let group_is : c.in-Some.group ≡ addr_value c.args.line.group = tree.0 in
    let source_is : c.in-Some.source ≡ addr_value c.args.line.source = tree.1 in
    let hop_is : c.in-Some-hop_of.hop ≡ hop_value d c.args.line.ends = c.in-Some-hop_of.ensures.value in
    let hop : built ≡ tree_hop_value d c.args.line = λ i. record { group = group_is i; source = source_is i; hop = hop_is i } in
    let known : IsHopKnown d c.args.line = record { from = ends.0; to = ends.1; source = subst (λ (o : Option ℕ). IsSome o) source c.if-is_none.ensures } in (
      c.only_declares.ensures.0 c.if-not-only_declares.false,
      in_range,
      known,
      tt,
      tt,
      c.has_room_for_hop.ensures.0 c.if-not-has_room_for_hop.false,
      subst (λ (h : TreeHop). Fits d.net h) hop (c.grow.ensures.asked e),
    )
