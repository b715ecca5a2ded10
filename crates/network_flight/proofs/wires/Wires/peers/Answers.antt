use Rattle.std.proofs.Common.{◌<◌, ◌∙◌, ap, refl, arith, length}
use Rattle.std.proofs.lemmas.Option.{slice_get_read}
use Rattle.tree_model.specs.Networks.{Net, peers}
use Rattle.network_flight.proofs.MadeTables.{many, read_made}
use Rattle.network_flight.proofs.wires.Wires.peers.Goals as goal

pub index-requires : goal.index-requires
index-requires c =
    let i = c.self.inside in
    let m = many (λ v. v.items) (peers i.routing.links) i.across.items (length i.routing.ends) c.self.invariant.2 in
    omega (arith, m, c.requires, ap (λ (n : Net). length n.ends) c.self.view_is, i.across.ok.0)

pub returns : goal.returns
returns c =
    let i = c.self.inside in
    let m = many (λ v. v.items) (peers i.routing.links) i.across.items (length i.routing.ends) c.self.invariant.2 in
    let lt : c.args.end < length i.across.items = omega (arith, m, c.requires, ap (λ (n : Net). length n.ends) c.self.view_is) in
    let there = slice_get_read i.across.items _ c.args.end c.index.result.now refl lt c.index.ensures in
    c.as_slice.ensures.value ∙ read_made (λ v. v.items) (peers i.routing.links) i.across.items (length i.routing.ends) c.self.invariant.2 c.args.end c.index.result.now there
    ∙ ap (λ (n : Net). peers n.links c.args.end) c.self.view_is
