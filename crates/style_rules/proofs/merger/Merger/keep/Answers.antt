use Rattle.std.proofs.Common.{not, map as each, get_or, ap, ◌∙◌, lit<}
use Rattle.rsvp_base.specs.Orders.{units}
use Rattle.rsvp_base.specs.Table.{get, put_in}
use Rattle.rsvp_base.proofs.Rows.{table_is, written_back}
use Rattle.style_rules.specs.Tally.{first_or_with, stood_with}
use Rattle.style_rules.specs.TallyRows.{standing_of, tally_row}
use Rattle.style_rules.proofs.MergerRows.{kept_rows, room_for_one, row_room, stood_row, new_row}
use Rattle.style_rules.proofs.merger.Merger.keep.Goals as goal

pub stand_with-requires : goal.stand_with-requires
stand_with-requires g c =
    let stands = rw c.as_slice.ensures.value at c.in-Ok.ensures.there in
    let row = c.index-deref_mut-place.result in
    rw c.deref_mut.ensures.value (row_room c.self.inside.rows.items c.self.inside.rising c.args.self.now c.self.view_is c.args.unit c.in-Ok.place row c.args.part.now stands c.requires.room)

pub invariant_of-self-inside : goal.invariant_of-self-inside
invariant_of-self-inside g c =
    let rows = c.self.inside.rows.items in
    let at = c.in-Ok.place in
    let stands = rw c.as_slice.ensures.value at c.in-Ok.ensures.there in
    let row = c.index-deref_mut-place.result in
    let unit = c.stand_with.ensures.unit ∙ ap (λ zs. (get_or zs at row).unit) c.deref_mut.ensures.value in
    let standing = c.stand_with.ensures.standing ∙ ap (λ (zs : _). stood_with (standing_of (get_or zs at row)) c.args.part.now c.args.blockaded) c.deref_mut.ensures.value in
    let put = stood_row rows c.self.inside.rising c.args.self.now c.self.view_is c.args.unit at row c.stand_with.new.row c.args.part.now c.args.blockaded stands unit standing in
    let back = written_back rows c.deref_mut.result.now at c.stand_with.new.row c.deref_mut.ensures.value in
    kept_rows rows c.self.inside.rising c.args.self.now c.self.view_is g.S.Style.kind_is c.args.part.now c.args.blockaded c.args.unit _ c.requires.named c.requires.unit c.requires.room
    c.self.inside.named (ap (each tally_row) back ∙ put)

pub returns-in-Ok : goal.returns-in-Ok
returns-in-Ok g c =
    let rows = c.self.inside.rows.items in
    let at = c.in-Ok.place in
    let stands = rw c.as_slice.ensures.value at c.in-Ok.ensures.there in
    let row = c.index-deref_mut-place.result in
    let unit = c.stand_with.ensures.unit ∙ ap (λ zs. (get_or zs at row).unit) c.deref_mut.ensures.value in
    let standing = c.stand_with.ensures.standing ∙ ap (λ (zs : _). stood_with (standing_of (get_or zs at row)) c.args.part.now c.args.blockaded) c.deref_mut.ensures.value in
    let put = stood_row rows c.self.inside.rising c.args.self.now c.self.view_is c.args.unit at row c.stand_with.new.row c.args.part.now c.args.blockaded stands unit standing in
    let back = written_back rows c.deref_mut.result.now at c.stand_with.new.row c.deref_mut.ensures.value in
    table_is units tally_row _ _ (put_in c.args.self.now c.args.unit (first_or_with (get c.args.self.now c.args.unit) c.args.part.now c.args.blockaded)) (ap (each tally_row) back ∙ put)

pub insert-requires : goal.insert-requires
insert-requires g c =
    let lacks = rw c.as_slice.ensures.value at c.in-Err.ensures.absent in (
      lit< tt,
      (
        lacks.within,
        room_for_one c.self.inside.rows.items c.self.inside.rising c.args.self.now c.self.view_is g.S.Style.kind_is c.args.part.now c.args.blockaded c.args.unit c.in-Err.place
            c.requires.named c.requires.unit c.requires.room c.self.inside.named lacks,
      ),
    )

pub invariant_of-self-inside-in-Err : goal.invariant_of-self-inside-in-Err
invariant_of-self-inside-in-Err g c =
    let rows = c.self.inside.rows.items in
    let lacks = rw c.as_slice.ensures.value at c.in-Err.ensures.absent in
    let put = new_row rows c.self.inside.rising c.args.self.now c.self.view_is c.args.unit c.in-Err.place _ c.args.part.now c.args.blockaded lacks
    (λ i. record { unit = c.args.unit; part = c.copy.ensures i; is_open = not c.args.blockaded }) in
    kept_rows rows c.self.inside.rising c.args.self.now c.self.view_is g.S.Style.kind_is c.args.part.now c.args.blockaded c.args.unit c.insert.new.self.items c.requires.named c.requires.unit
    c.requires.room c.self.inside.named (ap (each tally_row) c.insert.ensures.items ∙ put)

pub returns-in-Err : goal.returns-in-Err
returns-in-Err g c =
    let rows = c.self.inside.rows.items in
    let lacks = rw c.as_slice.ensures.value at c.in-Err.ensures.absent in
    let put = new_row rows c.self.inside.rising c.args.self.now c.self.view_is c.args.unit c.in-Err.place _ c.args.part.now c.args.blockaded lacks
    (λ i. record { unit = c.args.unit; part = c.copy.ensures i; is_open = not c.args.blockaded }) in
    table_is units tally_row c.insert.new.self.items _ (put_in c.args.self.now c.args.unit (first_or_with (get c.args.self.now c.args.unit) c.args.part.now c.args.blockaded))
    (ap (each tally_row) c.insert.ensures.items ∙ put)
