-- No book passes its capacity in a world within bounds.
use Rattle.std.proofs.Common.{◌≡◌, ℕ, ◌<◌, length, Some, sym, ap, ◌∙◌}
use Rattle.std.specs.Prelude.{slice_get}
use Rattle.std.proofs.lemmas.Option.{slice_get_within}
use Rattle.tree_model.specs.declared.hops.End.{End}
use Rattle.tree_model.specs.Networks.{node_of, node_of_end, end_at, iface_of}
use Rattle.tree_model.proofs.Ifaces.{interfaces_are_ends}
use Rattle.network_model.specs.Bounds.{AreBounds}
use Rattle.network_model.specs.Worlds.{World, config_of}
use Rattle.laws_network.proofs.Known.{of_some}
use Rattle.laws_network.proofs.Standing.{own_iface}
use Rattle.laws_safety.specs.Books.{AreBooksWithinCapacity}

pub books_within : (q : ℕ) (w : World) → AreBounds q w → AreBooksWithinCapacity w
books_within q w bounds e x f at there =
    let lt : e < length w.net.ends = slice_get_within w.net.ends e x at in
    let node : node_of w.net.ends e ≡ x.node = ap node_of_end at in
    let end : end_at w.net.ends x.node (iface_of w.net.ends e) ≡ Some e = ap (λ (n : ℕ). end_at w.net.ends n (iface_of w.net.ends e)) (sym node) ∙ (interfaces_are_ends w.net).end_of_iface e lt in
    let i = own_iface q w.net w.trees x.node (iface_of w.net.ends e) e end in
    let same : i.0 ≡ x = of_some i.0 x (sym i.1 ∙ at) in
    let on : slice_get (config_of q w.net w.trees x.node).ifaces (iface_of w.net.ends e) ≡ Some x.iface = i.2 ∙ ap (λ (z : End). Some z.iface) same in
    let b = (bounds.facts x.node f there).booked in
    record { capacity = b.capacity (iface_of w.net.ends e) x.iface on; mtu = λ k part got. b.mtu (iface_of w.net.ends e) x.iface k part on got }
