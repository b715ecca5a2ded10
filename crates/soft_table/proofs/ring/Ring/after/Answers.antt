use Rattle.std.proofs.Common.{◌+◌, ap, ◌∙◌, arith}
use Rattle.std.specs.Prelude.{slice_get}
use Rattle.soft_table.proofs.Rings.{number_has, slot_behind, read}
use Rattle.soft_table.proofs.ring.Ring.after.Goals as goal

pub index-requires : goal.index-requires
index-requires c =
    let s = c.self.inside in
    let has = number_has s.next.items s.prev.items s.len s.room c.self.invariant.0 c.requires.0 c.args.slot (ap (λ v. slice_get v.slots c.requires.0) c.self.view_is ∙ c.requires.1) in
    omega (arith, has.1)

pub returns : goal.returns
returns c = λ i is.
    let s = c.self.inside in
    let in_ = ap (λ v. slice_get v.slots i) c.self.view_is ∙ is in
    let has = number_has s.next.items s.prev.items s.len s.room c.self.invariant.0 i c.args.slot in_ in
    let n = read s.next.items (c.args.slot + 1) c.index.result.now has.1 c.index.ensures in
    c.slot_of.ensures ∙ slot_behind s.next.items s.prev.items s.len s.room c.self.invariant.0 i c.args.slot c.index.result.now in_ n ∙ ap (λ v. slice_get v.slots (i + 1)) c.self.view_is
