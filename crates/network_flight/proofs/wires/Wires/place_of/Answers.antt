use Rattle.std.proofs.Common.{◌≡◌, ◌<◌, ◌≤◌, ◌∙◌, Some, None, ap, subst, refl, arith, length}
use Rattle.std.specs.Prelude.{slice_get, slice_index_or, List}
use Rattle.std.proofs.lemmas.List.FromFn.{length-map-range_with_len}
use Rattle.std.proofs.lemmas.Option.{slice_get_read, slice_get_past}
use Rattle.rsvp_base.proofs.Rows.{each_itself}
use Rattle.tree_model.specs.Networks.{Net, iface_of}
use Rattle.tree_model.specs.declared.hops.End.{End}
use Rattle.network_flight.proofs.MadeTables.{read_made, read_or}
use Rattle.network_flight.proofs.wires.Wires.place_of.Goals as goal

pub index-requires : goal.index-requires
index-requires c =
    let i = c.self.inside in
    let m : length i.ifaces.items ≡ length i.routing.ends = ap length c.self.invariant.1 ∙ length-map-range_with_len (iface_of i.routing.ends) 0 (length i.routing.ends) in
    omega (arith, m, c.if-at-ends.true, ap (λ (es : List End). length es) c.ends-ends.ensures.ends, i.ifaces.ok.0)

pub returns-then-at-ends : goal.returns-then-at-ends
returns-then-at-ends c =
    let i = c.self.inside in
    let ends = c.ends-ends.result.now in
    let at = c.args.end in
    let e : End = slice_index_or ends at (record { node = 0; iface = record { addr = record { 0 = 0 }; capacity = 0; mtu = 0; latency = 0 } }) in
    let lt : at < length ends = omega (arith, c.if-at-ends.true) in
    let there : slice_get ends at ≡ Some e = read_or ends at (record { node = 0; iface = record { addr = record { 0 = 0 }; capacity = 0; mtu = 0; latency = 0 } }) lt in
    let same : ends ≡ c.args.self.now.ends = c.ends-ends.ensures.ends ∙ ap (λ (n : Net). n.ends) c.self.view_is in
    let few : at < length i.ifaces.items = omega (
      arith,
      c.if-at-ends.true,
      ap length c.self.invariant.1 ∙ length-map-range_with_len (iface_of i.routing.ends) 0 (length i.routing.ends),
      ap (λ (es : List End). length es) c.ends-ends.ensures.ends,
    ) in
    let is : c.index.result.now ≡ iface_of i.routing.ends at =
    read_made (λ x. x) (iface_of i.routing.ends) i.ifaces.items (length i.routing.ends) (each_itself i.ifaces.items ∙ c.self.invariant.1) at c.index.result.now
    (slice_get_read i.ifaces.items _ at c.index.result.now refl few c.index.ensures) in
    (e, subst (λ (es : List End). slice_get es at ≡ Some e) same there, refl, is ∙ ap (λ (n : Net). iface_of n.ends at) c.self.view_is)

pub returns-else-at-ends : goal.returns-else-at-ends
returns-else-at-ends c =
    let ends = c.ends-ends.result.now in
    let same : ends ≡ c.args.self.now.ends = c.ends-ends.ensures.ends ∙ ap (λ (n : Net). n.ends) c.self.view_is in
    let past : length ends ≤ c.args.end = omega (arith, c.if-at-ends.false) in
    subst (λ (es : List End). slice_get es c.args.end ≡ None) same (slice_get_past ends c.args.end past)
