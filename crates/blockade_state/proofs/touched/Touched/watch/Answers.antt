use Rattle.std.proofs.Common.{◌≡◌, ◌<◌, List, [], ◌∷◌, ◌++◌, length, set, refl, sym, ap, ◌∙◌, arith, lit<, map as each, false}
use Rattle.std.specs.List.{refill}
use Rattle.std.proofs.Math.ListN.{length-set}
use Rattle.std.proofs.lemmas.List.Edits.{insert_end}
use Rattle.rsvp_base.specs.Orders.{sessions}
use Rattle.rsvp_base.specs.Rows.{LacksRowAt}
use Rattle.rsvp_base.specs.Table.{put_in, same_rows}
use Rattle.rsvp_base.proofs.Rows.{are_rows, put_new, put_over, size-put_new, size_rows, written_back}
use Rattle.blockade_state.specs.Touched.{mark_row}
use Rattle.blockade_state.specs.declared.touched.Mark.{Mark}
use Rattle.blockade_state.proofs.touched.Touched.watch.Goals as goal
use Rattle.blockade_state.proofs.touched.Touched.watch.Goals.{After-deref_mut, In-Err, Then-is_behind}

abbrev mark : After-deref_mut → Mark
mark c = record { session = c.args.session; touched = false }

back : (c : After-deref_mut) → refill (length c.self.inside.list.items) c.self.inside.list.items (set c.deref_mut.result.now c.in-Ok.at (mark c)) ≡ set c.self.inside.list.items c.in-Ok.at (mark c)
back c = written_back c.self.inside.list.items c.deref_mut.result.now c.in-Ok.at (mark c) c.deref_mut.ensures.value

over : (c : After-deref_mut) → each mark_row (refill (length c.self.inside.list.items) c.self.inside.list.items (set c.deref_mut.result.now c.in-Ok.at (mark c)))
    ≡ (put_in c.args.self.now c.args.session false).rows
over c =
    ap (each mark_row) (back c)
    ∙ put_over sessions mark_row c.self.inside.list.items c.self.inside.rising c.args.self.now c.self.view_is c.args.session false (mark c) c.in-Ok.at refl
    (rw c.as_slice-marks.ensures.value at c.in-Ok.ensures.there)

-- there is room for a new one
room : (c : In-Err) → length c.self.inside.list.items < 64
room c =
    let goes = rw c.as_slice-marks.ensures.value at c.in-Err.ensures.absent in
    let more = size-put_new sessions mark_row c.self.inside.list.items c.self.inside.rising c.args.self.now c.self.view_is c.args.session false c.in-Err.at goes in
    omega (arith, more, c.requires, size_rows sessions mark_row c.self.inside.list.items c.self.inside.rising c.args.self.now c.self.view_is)

-- ---- one that goes behind all others
goes_behind : (c : Then-is_behind) → LacksRowAt sessions mark_row c.self.inside.list.items c.args.session (length c.self.inside.list.items)
goes_behind c = rw c.as_slice-marks.ensures.value at (c.is_behind.ensures c.if-is_behind.true)

room_behind : (c : Then-is_behind) → length c.self.inside.list.items < 64
room_behind c =
    let more = size-put_new sessions mark_row c.self.inside.list.items c.self.inside.rising c.args.self.now c.self.view_is c.args.session false (length c.self.inside.list.items) (goes_behind c) in
    omega (arith, more, c.requires, size_rows sessions mark_row c.self.inside.list.items c.self.inside.rising c.args.self.now c.self.view_is)

behind_all : (c : Then-is_behind) (new : List Mark) → new ≡ c.self.inside.list.items ++ (record { session = c.args.session; touched = false }) ∷ []
    → each mark_row new ≡ (put_in c.args.self.now c.args.session false).rows
behind_all c new is =
    let xs = c.self.inside.list.items in
    let row : Mark = record { session = c.args.session; touched = false } in
    ap (each mark_row) (is ∙ sym (insert_end xs row)) ∙ put_new sessions mark_row xs c.self.inside.rising c.args.self.now c.self.view_is c.args.session false row (length xs) refl (goes_behind c)

pub push-requires : goal.push-requires
push-requires c = (lit< tt, room_behind ((goal.at.push-requires c).Then-is_behind))

pub invariant_of-self-inside : goal.invariant_of-self-inside
invariant_of-self-inside c =
    let d = (goal.at.invariant_of-self-inside c).Then-is_behind in
    let new = behind_all d c.push.new.self.items c.push.ensures.items in
    let lt = room_behind d in
    (are_rows sessions mark_row _ (put_in c.args.self.now c.args.session false) new, (omega (arith, lt, c.push.ensures.len), tt))

pub returns-then-is_behind : goal.returns-then-is_behind
returns-then-is_behind c = same_rows _ (put_in c.args.self.now c.args.session false) (behind_all ((goal.at.returns-then-is_behind c).Then-is_behind) c.push.new.self.items c.push.ensures.items)

pub insert-requires : goal.insert-requires
insert-requires c = (lit< tt, ((rw c.as_slice-marks.ensures.value at c.in-Err.ensures.absent).within, room ((goal.at.insert-requires c).In-Err)))

pub invariant_of-self-inside-in-Ok : goal.invariant_of-self-inside-in-Ok
invariant_of-self-inside-in-Ok c =
    let d = (goal.at.invariant_of-self-inside-in-Ok c).After-deref_mut in
    let size = ap length (back d) in
    let same = length-set c.self.inside.list.items c.in-Ok.at (mark d) in
    (are_rows sessions mark_row _ (put_in c.args.self.now c.args.session false) (over d), (omega (arith, size, same, c.self.inside.few), tt))

pub invariant_of-self-inside-in-Err : goal.invariant_of-self-inside-in-Err
invariant_of-self-inside-in-Err c =
    let d = (goal.at.invariant_of-self-inside-in-Err c).In-Err in
    let row : Mark = record { session = c.args.session; touched = false } in
    let lt = room d in
    let new = ap (each mark_row) c.insert.ensures.items
    ∙ put_new sessions mark_row c.self.inside.list.items c.self.inside.rising c.args.self.now c.self.view_is c.args.session false row c.in-Err.at refl
    (rw c.as_slice-marks.ensures.value at c.in-Err.ensures.absent) in
    (are_rows sessions mark_row _ (put_in c.args.self.now c.args.session false) new, (omega (arith, lt, c.insert.ensures.len), tt))

pub returns-in-Ok : goal.returns-in-Ok
returns-in-Ok c = same_rows _ (put_in c.args.self.now c.args.session false) (over ((goal.at.returns-in-Ok c).After-deref_mut))

pub returns-in-Err : goal.returns-in-Err
returns-in-Err c =
    let row : Mark = record { session = c.args.session; touched = false } in
    same_rows _ (put_in c.args.self.now c.args.session false)
    (ap (each mark_row) c.insert.ensures.items ∙ put_new sessions mark_row c.self.inside.list.items c.self.inside.rising c.args.self.now c.self.view_is c.args.session false row c.in-Err.at refl
    (rw c.as_slice-marks.ensures.value at c.in-Err.ensures.absent))
