use Rattle.std.proofs.Common.{◌≡◌, IsSome, List, Ok, ℕ, Option, map, refl, sym, ap, subst, ◌∙◌}
use Rattle.std.proofs.lemmas.Result.{err_from_is_err_and}
use Rattle.tree_model.proofs.TreeLaws.{true_false}
use Rattle.tree_model.specs.declared.hops.LinkHop.{LinkHop}
use Rattle.script_grammar.specs.Draft.{routing}
use Rattle.script_grammar.specs.Values.{IsRerouteInRange, hop_value, hop_values}
use Rattle.network_model.specs.Moves.{CanMove}
use Rattle.script_rules.specs.Said.{draft_of}
use Rattle.script_rules.proofs.RerouteRules.{ends_known, looked_up, reroute_kept, reroute_refused, routes_known}
use Rattle.script_rules.proofs.reroute.add_reroute.Goals as goal

pub returns-then-not-are_declared-clause-refused : goal.returns-then-not-are_declared-clause-refused
returns-then-not-are_declared-clause-refused c =
    let d = draft_of c.args.state.now in
    let parts = c.in-Some.ensures.some.0 refl in
    let in_range : IsRerouteInRange c.args.line = record { addr = parts.0; group = parts.1; source = parts.2 } in (
      tt,
      in_range,
      λ known. true_false _ (c.are_declared.ensures.1 (ends_known d c.args.line c.as_slice.result.now c.as_slice.ensures known)) c.if-not-are_declared.true,
    )

pub returns-in_err-hops-clause-asked : goal.returns-in_err-hops-clause-asked
returns-in_err-hops-clause-asked c = λ e.
    let d = draft_of c.args.state.now in
    let parts = c.in-Some.ensures.some.0 refl in
    looked_up d c.args.line c.in-Some.source c.as_slice.result.now (record { addr = parts.0; group = parts.1; source = parts.2 }) c.in-Some.ensures.value.1 c.as_slice.ensures
    (c.are_declared.ensures.0 c.if-not-are_declared.false) (subst (λ (o : Option ℕ). IsSome o) c.owner.ensures c.if-is_none.ensures)

pub returns-in_err-routing-clause-asked : goal.returns-in_err-routing-clause-asked
returns-in_err-routing-clause-asked c = λ e.
    let d = draft_of c.args.state.now in
    let parts = c.in-Some.ensures.some.0 refl in
    looked_up d c.args.line c.in-Some.source c.as_slice.result.now (record { addr = parts.0; group = parts.1; source = parts.2 }) c.in-Some.ensures.value.1 c.as_slice.ensures
    (c.are_declared.ensures.0 c.if-not-are_declared.false) (subst (λ (o : Option ℕ). IsSome o) c.owner.ensures c.if-is_none.ensures)

pub returns-in_err-routing-clause-refused : goal.returns-in_err-routing-clause-refused
returns-in_err-routing-clause-refused c =
    let d = draft_of c.args.state.now in
    let line = c.args.line in
    let parts = c.in-Some.ensures.some.0 refl in
    let in_range : IsRerouteInRange line = record { addr = parts.0; group = parts.1; source = parts.2 } in
    let tree = c.in-Some.ensures.value in
    let ends = c.are_declared.ensures.0 c.if-not-are_declared.false in
    let known = routes_known d line c.in-Some.group c.in-Some.source c.as_slice.result.now c.args.state.now.topology tree.0 tree.1 c.as_slice.ensures
    refl ends
    (subst (λ (o : Option ℕ). IsSome o) c.owner.ensures c.if-is_none.ensures) (sym c.has_tree.ensures ∙ c.if-not-has_tree.false) in
    let hops : c.in_ok-hops.hops.items ≡ map (hop_value d) c.as_slice-2.result.now = c.in_ok-hops.ensures in
    let are : c.as_slice-3.result.now ≡ hop_values d line = c.as_slice-3.ensures.value ∙ hops ∙ ap (map (hop_value d)) c.as_slice-2.ensures in
    let p = err_from_is_err_and c.from_residual-in_err-routing.result c.from_residual-in_err-routing.ensures.1 in
    rw (p.1, p.2) (reroute_refused d line in_range known c.in-Some.group c.in-Some.source c.as_slice-3.result.now tree.0 tree.1 are c.in_err-routing.field-0.0 c.in_err-routing.ensures.refused)

pub returns-clause-ok : goal.returns-clause-ok
returns-clause-ok c =
    let d = draft_of c.args.state.now in
    let line = c.args.line in
    let parts = c.in-Some.ensures.some.0 refl in
    let in_range : IsRerouteInRange line = record { addr = parts.0; group = parts.1; source = parts.2 } in
    let tree = c.in-Some.ensures.value in
    let ends = c.are_declared.ensures.0 c.if-not-are_declared.false in
    let known = routes_known d line c.in-Some.group c.in-Some.source c.as_slice.result.now c.args.state.now.topology tree.0 tree.1 c.as_slice.ensures
    refl ends
    (subst (λ (o : Option ℕ). IsSome o) c.owner.ensures c.if-is_none.ensures) (sym c.has_tree.ensures ∙ c.if-not-has_tree.false) in
    let hops : c.in_ok-hops.hops.items ≡ map (hop_value d) c.as_slice-2.result.now = c.in_ok-hops.ensures in
    let are : c.in_ok-hops.hops.items ≡ hop_values d line = hops ∙ ap (map (hop_value d)) c.as_slice-2.ensures in
    let can = subst (λ (hs : List LinkHop). CanMove (routing d) c.in-Some.group c.in-Some.source hs) c.as_slice-3.ensures.value c.in_ok-routing.ensures.can in
    reroute_kept d line in_range known c.in-Some.group c.in-Some.source c.in_ok-hops.hops.items tree.0 tree.1 are (Ok c.put.result) (draft_of c.put.new.state) can c.put.ensures.ok
