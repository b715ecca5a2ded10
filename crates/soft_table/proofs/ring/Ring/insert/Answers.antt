use Rattle.std.proofs.Common.{◌≤◌, ◌<◌, length, ap, sym, ◌∙◌, arith}
use Rattle.std.specs.Prelude.{slice_get}
use Rattle.std.specs.List.{insert}
use Rattle.soft_table.specs.Ring.{walked}
use Rattle.soft_table.proofs.Rings.{length_walked, spot_in, spot_before, spot_before_in, spot, put_in, read}
use Rattle.soft_table.proofs.ring.Ring.insert.Goals as goal

pub index-before-requires : goal.index-before-requires
index-before-requires c =
    let s = c.self.inside in
    let t = c.requires.there in
    let le : t.0 ≤ length (walked s.next.items s.len 0) = omega (arith, t.1, ap (λ v. length v.slots) c.self.view_is) in
    let at_ = ap (λ v. slice_get v.slots t.0) c.self.view_is ∙ t.2 in
    omega (arith, spot_in s.next.items s.prev.items s.len s.room c.self.invariant.0 t.0 c.number_of.result c.args.behind le at_ c.number_of.ensures)

pub index-after-requires : goal.index-after-requires
index-after-requires c =
    let s = c.self.inside in
    let o = c.self.invariant.0 in
    let t = c.requires.there in
    let le : t.0 ≤ length (walked s.next.items s.len 0) = omega (arith, t.1, ap (λ v. length v.slots) c.self.view_is) in
    let at_ = ap (λ v. slice_get v.slots t.0) c.self.view_is ∙ t.2 in
    let in_ = spot_in s.next.items s.prev.items s.len s.room o t.0 c.number_of.result c.args.behind le at_ c.number_of.ensures in
    let p = read s.prev.items c.number_of.result c.index-before.result.now in_ c.index-before.ensures in
    let p_is = spot_before s.next.items s.prev.items s.len s.room o t.0 c.number_of.result c.index-before.result.now c.args.behind le at_ c.number_of.ensures p in
    omega (arith, spot_before_in s.next.items s.prev.items s.len s.room o t.0 c.index-before.result.now le p_is)

pub index_mut-requires : goal.index_mut-requires
index_mut-requires c =
    let s = c.self.inside in
    let t = c.requires.there in
    let le : t.0 ≤ length (walked s.next.items s.len 0) = omega (arith, t.1, ap (λ v. length v.slots) c.self.view_is) in
    let at_ = ap (λ v. slice_get v.slots t.0) c.self.view_is ∙ t.2 in
    let w = spot s.next.items s.prev.items s.len s.room c.self.invariant.0 t.0 c.number_of.result c.index-before.result.now c.index-after.result.now c.args.behind le at_ c.number_of.ensures
    c.index-before.ensures c.index-after.ensures in
    omega (arith, w.2, c.grow.ensures.more)

pub index_mut-requires-3 : goal.index_mut-requires-3
index_mut-requires-3 c =
    let s = c.self.inside in
    let t = c.requires.there in
    let le : t.0 ≤ length (walked s.next.items s.len 0) = omega (arith, t.1, ap (λ v. length v.slots) c.self.view_is) in
    let at_ = ap (λ v. slice_get v.slots t.0) c.self.view_is ∙ t.2 in
    let w = spot s.next.items s.prev.items s.len s.room c.self.invariant.0 t.0 c.number_of.result c.index-before.result.now c.index-after.result.now c.args.behind le at_ c.number_of.ensures
    c.index-before.ensures c.index-after.ensures in
    omega (arith, w.3, c.grow-2.ensures.more)

pub invariant_of-self : goal.invariant_of-self
invariant_of-self c =
    let s = c.self.inside in
    let o = c.self.invariant in
    let t = c.requires.there in
    let le : t.0 ≤ length (walked s.next.items s.len 0) = omega (arith, t.1, ap (λ v. length v.slots) c.self.view_is) in
    let at_ = ap (λ v. slice_get v.slots t.0) c.self.view_is ∙ t.2 in
    let w = spot s.next.items s.prev.items s.len s.room o.0 t.0 c.number_of.result c.index-before.result.now c.index-after.result.now c.args.behind le at_ c.number_of.ensures c.index-before.ensures
    c.index-after.ensures in
    let left : s.len < s.room = omega (arith, c.requires.left, ap (λ v. length v.slots) c.self.view_is, ap (λ v. v.room) c.self.view_is, length_walked s.next.items s.len 0) in
    let g = c.grow.ensures in
    let h = c.grow-2.ensures in
    let put = put_in s.next.items s.prev.items s.len s.room o.0 t.0 c.args.slot c.index-before.result.now c.index-after.result.now c.grow.new.links.items c.grow-2.new.links.items le left
    (λ has. c.requires.new (has.0, ap (λ v. slice_get v.slots has.0) (sym c.self.view_is) ∙ has.1)) g.same h.same g.more h.more g.made h.made w.0 w.1 in
    (put.0, omega (arith, g.capacity, o.1), omega (arith, h.capacity, o.2))

pub returns : goal.returns
returns c = λ i few is.
    let s = c.self.inside in
    let o = c.self.invariant in
    let le : i ≤ length (walked s.next.items s.len 0) = omega (arith, few, ap (λ v. length v.slots) c.self.view_is) in
    let at_ = ap (λ v. slice_get v.slots i) c.self.view_is ∙ is in
    let w = spot s.next.items s.prev.items s.len s.room o.0 i c.number_of.result c.index-before.result.now c.index-after.result.now c.args.behind le at_ c.number_of.ensures c.index-before.ensures
    c.index-after.ensures in
    let left : s.len < s.room = omega (arith, c.requires.left, ap (λ v. length v.slots) c.self.view_is, ap (λ v. v.room) c.self.view_is, length_walked s.next.items s.len 0) in
    let g = c.grow.ensures in
    let h = c.grow-2.ensures in
    let put = put_in s.next.items s.prev.items s.len s.room o.0 i c.args.slot c.index-before.result.now c.index-after.result.now c.grow.new.links.items c.grow-2.new.links.items le left
    (λ has. c.requires.new (has.0, ap (λ v. slice_get v.slots has.0) (sym c.self.view_is) ∙ has.1)) g.same h.same g.more h.more g.made h.made w.0 w.1 in
    ap (λ slots. record { slots = slots; room = s.room }) put.1 ∙ ap (λ v. record { slots = insert v.slots i c.args.slot; room = v.room }) c.self.view_is
