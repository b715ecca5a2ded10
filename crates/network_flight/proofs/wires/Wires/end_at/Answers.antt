use Rattle.std.proofs.Common.{◌<◌, ◌≤◌, ◌∙◌, ℕ, List, ap, sym, refl, arith, length}
use Rattle.std.specs.Prelude.{slice_get}
use Rattle.std.proofs.lemmas.Option.{slice_get_read}
use Rattle.tree_model.specs.Networks.{Net, ends_of, end_at}
use Rattle.network_flight.proofs.MadeTables.{many, read_made, no_ends, end_inside}
use Rattle.network_flight.proofs.wires.Wires.end_at.Goals as goal

pub returns-then-at-len-clause-end : goal.returns-then-at-len-clause-end
returns-then-at-len-clause-end c =
    let i = c.self.inside in
    let lt : c.args.node < length i.by_node.items = omega (arith, c.if-at-len.true, c.len.ensures, i.by_node.ok.0) in
    let there = slice_get_read i.by_node.items _ c.args.node c.index.result.now refl lt c.index.ensures in
    let of = read_made (λ v. v.items) (ends_of i.routing.ends) i.by_node.items i.routing.nodes c.self.invariant.0 c.args.node c.index.result.now there in
    c.nth.ensures ∙ ap (λ (xs : List ℕ). slice_get xs c.args.iface) (c.as_slice.ensures.value ∙ of) ∙ ap (λ (n : Net). end_at n.ends c.args.node c.args.iface) c.self.view_is

pub returns-then-at-len-clause-inside : goal.returns-then-at-len-clause-inside
returns-then-at-len-clause-inside c =
    let i = c.self.inside in
    let lt : c.args.node < length i.by_node.items = omega (arith, c.if-at-len.true, c.len.ensures, i.by_node.ok.0) in
    let there = slice_get_read i.by_node.items _ c.args.node c.index.result.now refl lt c.index.ensures in
    let of = read_made (λ v. v.items) (ends_of i.routing.ends) i.by_node.items i.routing.nodes c.self.invariant.0 c.args.node c.index.result.now there in
    end_inside c.args.self.now c.args.node c.args.iface c.nth.result
    (c.nth.ensures ∙ ap (λ (xs : List ℕ). slice_get xs c.args.iface) (c.as_slice.ensures.value ∙ of) ∙ ap (λ (n : Net). end_at n.ends c.args.node c.args.iface) c.self.view_is)

pub returns-else-at-len-clause-end : goal.returns-else-at-len-clause-end
returns-else-at-len-clause-end c =
    let i = c.self.inside in
    let le : i.routing.nodes ≤ c.args.node = omega (
      arith,
      c.if-at-len.false,
      c.len.ensures,
      i.by_node.ok.0,
      many (λ v. v.items) (ends_of i.routing.ends) i.by_node.items i.routing.nodes c.self.invariant.0,
    ) in
    sym (ap (λ (es : List ℕ). slice_get es c.args.iface) (no_ends 0 c.args.node i.routing.nodes i.routing.ends c.nodes-nodes.ensures.valid.placed le))
    ∙ ap (λ (n : Net). end_at n.ends c.args.node c.args.iface) c.self.view_is
