use Rattle.std.proofs.Common.{length, refl, sym, ap, subst, ◌∙◌, arith}
use Rattle.std.specs.Prelude.{slice_get}
use Rattle.std.specs.FinMap.Entries.{put}
use Rattle.soft_table.specs.Lists.{Rows, IsGapIn, row_keys}
use Rattle.soft_table.proofs.Held.{length_rows, row_at}
use Rattle.soft_table.proofs.Gaps.{gap_of}
use Rattle.soft_table.proofs.Inserts.{few, rows_now, lists_now}
use Rattle.soft_table.proofs.Kept.{held_put}
use Rattle.soft_table.proofs.session_lists.SessionLists.insert_at.Goals as goal

pub put_first-requires-clause-room : goal.put_first-requires-clause-room
put_first-requires-clause-room g c = λ _.
    let s = c.self.inside in
    let a = c.self.invariant.0 in
    omega (
      arith,
      few g.O.RestOrder.rests s.keys.items s.slots.slots s.heads.items a,
      length_rows s.keys.items s.slots.slots a.full,
      c.requires.left,
      ap (λ v. length v.rows) c.self.view_is,
      ap (λ v. v.room) c.self.view_is,
      c.self.invariant.2,
    )

pub insert-requires-clause-left : goal.insert-requires-clause-left
insert-requires-clause-left g c =
    let s = c.self.inside in
    omega (arith, length_rows s.keys.items s.slots.slots c.self.invariant.0.full, c.requires.left, ap (λ v. length v.rows) c.self.view_is, ap (λ v. v.room) c.self.view_is)

pub insert-requires-clause-new : goal.insert-requires-clause-new
insert-requires-clause-new g c = λ h.
    let s = c.self.inside in
    let full = c.self.invariant.0.full in
    let k = full h.0 c.args.slot h.1 in
    c.requires.new h.0 (k.0, c.args.slot) (ap (λ v. slice_get v.rows h.0) (sym c.self.view_is) ∙ row_at s.keys.items s.slots.slots h.0 c.args.slot k.0 full h.1 k.1) refl

pub insert-requires-clause-there : goal.insert-requires-clause-there
insert-requires-clause-there g c =
    let s = c.self.inside in
    let rests = g.O.RestOrder.rests in
    let gap = gap_of rests s.keys.items s.slots.slots c.self.invariant.0.full (c.args.session, c.args.rest) c.args.gap
    (subst (λ (v : Rows _). IsGapIn rests v.rows (c.args.session, c.args.rest) c.args.gap) (sym c.self.view_is) c.requires.gap) in
    (gap.place.start.place, gap.place.start.within, gap.place.start.is)

pub count_in-requires : goal.count_in-requires
count_in-requires g c =
    let s = c.self.inside in
    let rests = g.O.RestOrder.rests in
    let gap = gap_of rests s.keys.items s.slots.slots c.self.invariant.0.full (c.args.session, c.args.rest) c.args.gap
    (subst (λ (v : Rows _). IsGapIn rests v.rows (c.args.session, c.args.rest) c.args.gap) (sym c.self.view_is) c.requires.gap) in
    let into = c.insert.ensures gap.place.start.place gap.place.start.within gap.place.start.is in
    rw (c.as_slice-3.ensures.value, into)
    (held_put s.keys.items c.set_key.new.keys.items s.slots.slots gap.place.start.place c.args.slot gap.place.start.within c.set_key.ensures.same c.self.invariant.3)

pub invariant_of-self : goal.invariant_of-self
invariant_of-self g c =
    let s = c.self.inside in
    let o = c.self.invariant in
    let rests = g.O.RestOrder.rests in
    let gap = gap_of rests s.keys.items s.slots.slots o.0.full (c.args.session, c.args.rest) c.args.gap
    (subst (λ (v : Rows _). IsGapIn rests v.rows (c.args.session, c.args.rest) c.args.gap) (sym c.self.view_is) c.requires.gap) in
    let into = c.insert.ensures gap.place.start.place gap.place.start.within gap.place.start.is in
    let k = c.set_key.ensures in (
      rw into (lists_now rests s.keys.items s.slots.slots s.heads.items o.0 c.args.session c.args.rest c.args.slot c.args.gap.behind gap
          (λ h. let m = o.0.full h.0 c.args.slot h.1 in c.requires.new h.0 (m.0, c.args.slot)
          (ap (λ v. slice_get v.rows h.0) (sym c.self.view_is) ∙ row_at s.keys.items s.slots.slots h.0 c.args.slot m.0 o.0.full h.1 m.1) refl)
          c.set_key.new.keys.items k.here k.same c.put_first.new.heads.items c.put_first.ensures.heads),
      rw into (omega (arith, o.1, k.capacity)),
      rw into (omega (arith, o.2, c.put_first.ensures.capacity)),
      rw into (held_put s.keys.items c.set_key.new.keys.items s.slots.slots gap.place.start.place c.args.slot gap.place.start.within k.same o.3),
    )

pub returns : goal.returns
returns g c =
    let s = c.self.inside in
    let o = c.self.invariant in
    let rests = g.O.RestOrder.rests in
    let gap = gap_of rests s.keys.items s.slots.slots o.0.full (c.args.session, c.args.rest) c.args.gap
    (subst (λ (v : Rows _). IsGapIn rests v.rows (c.args.session, c.args.rest) c.args.gap) (sym c.self.view_is) c.requires.gap) in
    let into = c.insert.ensures gap.place.start.place gap.place.start.within gap.place.start.is in
    let k = c.set_key.ensures in
    rw into (ap (λ rows. record { rows = rows; room = s.slots.room })
    (rows_now rests s.keys.items s.slots.slots s.heads.items o.0 c.args.session c.args.rest c.args.slot c.args.gap.behind gap
    (λ h. let m = o.0.full h.0 c.args.slot h.1 in c.requires.new h.0 (m.0, c.args.slot) (ap (λ v. slice_get v.rows h.0) (sym c.self.view_is)
    ∙ row_at s.keys.items s.slots.slots h.0 c.args.slot m.0 o.0.full h.1 m.1) refl)
    c.set_key.new.keys.items k.here k.same)
    ∙ ap (λ v. record { rows = put (row_keys rests).cmp (c.args.session, c.args.rest) c.args.slot v.rows; room = v.room }) c.self.view_is)
