use Rattle.std.proofs.Common.{◌+◌, ap, ◌∙◌, arith}
use Rattle.std.specs.Prelude.{slice_get}
use Rattle.std.specs.List.{remove}
use Rattle.soft_table.proofs.Rings.{number_has, both_sides, taken_out, read}
use Rattle.soft_table.proofs.ring.Ring.remove.Goals as goal

pub index-before-requires : goal.index-before-requires
index-before-requires c =
    let s = c.self.inside in
    let i = c.requires.0 in
    let has = number_has s.next.items s.prev.items s.len s.room c.self.invariant.0 i c.args.slot (ap (λ v. slice_get v.slots i) c.self.view_is ∙ c.requires.1) in
    omega (arith, has.2)

pub index-after-requires : goal.index-after-requires
index-after-requires c =
    let s = c.self.inside in
    let i = c.requires.0 in
    let has = number_has s.next.items s.prev.items s.len s.room c.self.invariant.0 i c.args.slot (ap (λ v. slice_get v.slots i) c.self.view_is ∙ c.requires.1) in
    omega (arith, has.1)

pub index_mut-requires : goal.index_mut-requires
index_mut-requires c =
    let s = c.self.inside in
    let i = c.requires.0 in
    let o = c.self.invariant.0 in
    let in_ = ap (λ v. slice_get v.slots i) c.self.view_is ∙ c.requires.1 in
    let has = number_has s.next.items s.prev.items s.len s.room o i c.args.slot in_ in
    let p = read s.prev.items (c.args.slot + 1) c.index-before.result.now has.2 c.index-before.ensures in
    let q = read s.next.items (c.args.slot + 1) c.index-after.result.now has.1 c.index-after.ensures in
    let sides = both_sides s.next.items s.prev.items s.len s.room o i c.args.slot c.index-before.result.now c.index-after.result.now in_ p q in
    omega (arith, sides.2)

pub index_mut-requires-2 : goal.index_mut-requires-2
index_mut-requires-2 c =
    let s = c.self.inside in
    let i = c.requires.0 in
    let o = c.self.invariant.0 in
    let in_ = ap (λ v. slice_get v.slots i) c.self.view_is ∙ c.requires.1 in
    let has = number_has s.next.items s.prev.items s.len s.room o i c.args.slot in_ in
    let p = read s.prev.items (c.args.slot + 1) c.index-before.result.now has.2 c.index-before.ensures in
    let q = read s.next.items (c.args.slot + 1) c.index-after.result.now has.1 c.index-after.ensures in
    let sides = both_sides s.next.items s.prev.items s.len s.room o i c.args.slot c.index-before.result.now c.index-after.result.now in_ p q in
    omega (arith, sides.3)

pub invariant_of-self : goal.invariant_of-self
invariant_of-self c =
    let s = c.self.inside in
    let i = c.requires.0 in
    let o = c.self.invariant in
    let in_ = ap (λ v. slice_get v.slots i) c.self.view_is ∙ c.requires.1 in
    let has = number_has s.next.items s.prev.items s.len s.room o.0 i c.args.slot in_ in
    let p = read s.prev.items (c.args.slot + 1) c.index-before.result.now has.2 c.index-before.ensures in
    let q = read s.next.items (c.args.slot + 1) c.index-after.result.now has.1 c.index-after.ensures in
    let taken = taken_out s.next.items s.prev.items s.len s.room o.0 i c.args.slot c.index-before.result.now c.index-after.result.now in_ p q in
    (taken.0, o.1, o.2)

pub returns : goal.returns
returns c = λ i is.
    let s = c.self.inside in
    let o = c.self.invariant in
    let in_ = ap (λ v. slice_get v.slots i) c.self.view_is ∙ is in
    let has = number_has s.next.items s.prev.items s.len s.room o.0 i c.args.slot in_ in
    let p = read s.prev.items (c.args.slot + 1) c.index-before.result.now has.2 c.index-before.ensures in
    let q = read s.next.items (c.args.slot + 1) c.index-after.result.now has.1 c.index-after.ensures in
    let taken = taken_out s.next.items s.prev.items s.len s.room o.0 i c.args.slot c.index-before.result.now c.index-after.result.now in_ p q in
    ap (λ slots. record { slots = slots; room = s.room }) taken.1 ∙ ap (λ v. record { slots = remove v.slots i; room = v.room }) c.self.view_is
