use Rattle.std.specs.Prelude.{is_some, map as each, ◌≡◌, ◌<◌, false}
use Rattle.std.proofs.Common.{sym, ap, refl, ◌∙◌, ◌+◌, arith, length, cond, lit<}
use Rattle.rsvp_base.specs.Table.{has, put_in, same_rows, size}
use Rattle.rsvp_base.proofs.Rows.{are_rows, put_new, size_rows}
use Rattle.rsvp_base.proofs.SetLaws.{size-with_key, with_key_present}
use Rattle.rsvp_base.specs.Orders.{units}
use Rattle.resv_sends.specs.Units.{unit_row}
use Rattle.resv_sends.proofs.units.Units.add.Goals as goal
use Rattle.resv_sends.proofs.units.Units.add.Goals.{In-Err}

absent : (c : In-Err) → has c.args.self.now c.args.unit ≡ false
absent c = ap (λ m. has m c.args.unit) (sym c.self.view_is) ∙ ap is_some (rw c.as_slice.ensures.value at c.in-Err.ensures.absent).absent

-- there is room for a new one
room : (c : In-Err) → length c.self.inside.list.items < 16
room c =
    let more = size-with_key units c.args.self.now c.args.unit ∙ ap (λ b. cond b (size c.args.self.now) (size c.args.self.now + 1)) (absent c) in
    omega (arith, more, c.requires, size_rows units unit_row c.self.inside.list.items c.self.inside.rising c.args.self.now c.self.view_is)

pub insert-requires : goal.insert-requires
insert-requires c = (lit< tt, ((rw c.as_slice.ensures.value at c.in-Err.ensures.absent).within, room ((goal.at.insert-requires c).In-Err)))

pub invariant_of-self-inside : goal.invariant_of-self-inside
invariant_of-self-inside c =
    let lt = room ((goal.at.invariant_of-self-inside c).In-Err) in
    let is = ap (each unit_row) c.insert.ensures.items
    ∙ put_new units unit_row c.self.inside.list.items c.self.inside.rising c.args.self.now c.self.view_is c.args.unit tt c.args.unit c.in-Err.place refl
    (rw c.as_slice.ensures.value at c.in-Err.ensures.absent) in
    (are_rows units unit_row c.insert.new.self.items (put_in c.args.self.now c.args.unit tt) is, (omega (arith, lt, c.insert.ensures.len), tt))

pub returns-in-Err : goal.returns-in-Err
returns-in-Err c =
    same_rows _ (put_in c.args.self.now c.args.unit tt)
    (ap (each unit_row) c.insert.ensures.items ∙ put_new units unit_row c.self.inside.list.items c.self.inside.rising c.args.self.now c.self.view_is c.args.unit tt c.args.unit c.in-Err.place refl
    (rw c.as_slice.ensures.value at c.in-Err.ensures.absent))

pub returns-in_default : goal.returns-in_default
returns-in_default c =
    let stands = rw c.as_slice.ensures.value at c.in_default.ensures.there in
    sym (with_key_present units c.args.self.now c.args.unit (sym (ap (λ m. has m c.args.unit) c.self.view_is) ∙ ap is_some (stands.found c.args.unit)))
