use Rattle.std.proofs.Common.{◌≡◌, ◌∙◌, ℕ, List, length, ap, sym}
use Rattle.std.specs.Prelude.{map as each}
use Rattle.std.specs.List.{range_with_len}
use Rattle.tree_model.specs.declared.hops.End.{End}
use Rattle.tree_model.specs.Networks.{Net, ends_of, iface_of, peers}
use Rattle.network_flight.proofs.wires.Wires.set_routing.Goals as goal

pub invariant_of-self : goal.invariant_of-self
invariant_of-self c =
    let i = c.self.inside in
    let new = c.args.routing in
    let nodes : i.routing.nodes ≡ new.nodes = ap (λ (n : Net). n.nodes) c.self.view_is ∙ sym c.requires.nodes in
    let ends : i.routing.ends ≡ new.ends = ap (λ (n : Net). n.ends) c.self.view_is ∙ sym c.requires.ends in
    let links : i.routing.links ≡ new.links = ap (λ (n : Net). n.links) c.self.view_is ∙ sym c.requires.links in (
      c.self.invariant.0 ∙ ap (λ (es : List End). each (ends_of es) (range_with_len 0 i.routing.nodes)) ends ∙ ap (λ n. each (ends_of new.ends) (range_with_len 0 n)) nodes,
      c.self.invariant.1 ∙ ap (λ (es : List End). each (iface_of es) (range_with_len 0 (length es))) ends,
      c.self.invariant.2 ∙ ap (λ (ls : List (List ℕ)). each (peers ls) (range_with_len 0 (length i.routing.ends))) links
          ∙ ap (λ (es : List End). each (peers new.links) (range_with_len 0 (length es))) ends,
    )
