use Rattle.std.proofs.Common.{◌≡◌, length, set, refl, ap, ◌∙◌, arith, map as each, true}
use Rattle.std.specs.List.{refill}
use Rattle.std.proofs.Math.ListN.{length-set}
use Rattle.rsvp_base.specs.Orders.{sessions}
use Rattle.rsvp_base.specs.Table.{put_in, same_rows}
use Rattle.rsvp_base.proofs.Rows.{are_rows, get_absent, get_found, put_over, written_back}
use Rattle.blockade_state.specs.Touched.{mark_row}
use Rattle.blockade_state.specs.declared.touched.Mark.{Mark}
use Rattle.blockade_state.proofs.Touching.{touched_is, touched_none}
use Rattle.blockade_state.proofs.touched.Touched.touch.Goals as goal
use Rattle.blockade_state.proofs.touched.Touched.touch.Goals.{After-deref_mut}

abbrev mark : After-deref_mut → Mark
mark c = record { session = c.args.session; touched = true }

back : (c : After-deref_mut) → refill (length c.self.inside.list.items) c.self.inside.list.items (set c.deref_mut.result.now c.in-Ok.at (mark c)) ≡ set c.self.inside.list.items c.in-Ok.at (mark c)
back c = written_back c.self.inside.list.items c.deref_mut.result.now c.in-Ok.at (mark c) c.deref_mut.ensures.value

over : (c : After-deref_mut) → each mark_row (refill (length c.self.inside.list.items) c.self.inside.list.items (set c.deref_mut.result.now c.in-Ok.at (mark c)))
    ≡ (put_in c.args.self.now c.args.session true).rows
over c =
    ap (each mark_row) (back c)
    ∙ put_over sessions mark_row c.self.inside.list.items c.self.inside.rising c.args.self.now c.self.view_is c.args.session true (mark c) c.in-Ok.at refl
    (rw c.as_slice.ensures.value at c.in-Ok.ensures.there)

pub invariant_of-self-inside : goal.invariant_of-self-inside
invariant_of-self-inside c =
    let d = (goal.at.invariant_of-self-inside c).After-deref_mut in
    let size = ap length (back d) in
    let same = length-set c.self.inside.list.items c.in-Ok.at (mark d) in
    (are_rows sessions mark_row _ (put_in c.args.self.now c.args.session true) (over d), (omega (arith, size, same, c.self.inside.few), tt))

pub returns-in-Ok : goal.returns-in-Ok
returns-in-Ok c =
    let d = (goal.at.returns-in-Ok c).After-deref_mut in
    let stands = rw c.as_slice.ensures.value at c.in-Ok.ensures.there in
    same_rows _ (put_in c.args.self.now c.args.session true) (over d)
    ∙ touched_is c.args.self.now c.args.session _ (get_found sessions mark_row c.self.inside.list.items c.self.inside.rising c.args.self.now c.self.view_is c.args.session c.in-Ok.at (mark d) stands)

pub returns-in_default : goal.returns-in_default
returns-in_default c =
    touched_none c.args.self.now c.args.session
    (get_absent sessions mark_row c.self.inside.list.items c.self.inside.rising c.args.self.now c.self.view_is c.args.session c.in_default.field-0
    (rw c.as_slice.ensures.value at c.in_default.ensures.absent))
