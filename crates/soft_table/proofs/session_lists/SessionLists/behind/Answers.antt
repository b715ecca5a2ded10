use Rattle.std.proofs.Common.{◌+◌, sym, ap, ◌∙◌}
use Rattle.std.specs.Prelude.{slice_get}
use Rattle.rsvp_base.specs.Orders.{sessions}
use Rattle.rsvp_base.specs.Under.{rows_under}
use Rattle.soft_table.specs.Lists.{Rows, IsRow, IsGap, slot_of, rows_behind, of_session}
use Rattle.soft_table.proofs.Held.{next_full}
use Rattle.soft_table.proofs.Takes.{next_is}
use Rattle.soft_table.proofs.Under.{behind_row, behind_gap}
use Rattle.soft_table.proofs.session_lists.SessionLists.behind.Goals as goal

pub of_session-requires : goal.of_session-requires
of_session-requires g c =
    let s = c.self.inside in
    let row : IsRow g.O.RestOrder.rests s.keys.items s.slots.slots (c.args.session, c.args.rest) c.in-Ok.slot = rw (← c.as_slice.ensures.value) c.in-Ok.ensures.there in
    rw c.as_slice-in-Ok.ensures.value (next_full s.keys.items s.slots.slots c.self.invariant.0.full (row.place + 1) c.after.result (c.after.ensures row.place row.is))

pub of_session-requires-in-Err : goal.of_session-requires-in-Err
of_session-requires-in-Err g c =
    let s = c.self.inside in
    let gap : IsGap g.O.RestOrder.rests s.keys.items s.slots.slots (c.args.session, c.args.rest) c.in-Err.gap.behind = rw (← c.as_slice.ensures.value) c.in-Err.ensures.absent in
    rw c.as_slice-in-Err.ensures.value (next_full s.keys.items s.slots.slots c.self.invariant.0.full gap.place.start.place c.in-Err.gap.behind (sym gap.place.start.is))

pub returns-in-Ok : goal.returns-in-Ok
returns-in-Ok g c =
    let s = c.self.inside in
    let rests = g.O.RestOrder.rests in
    let a = c.self.invariant.0 in
    let row : IsRow rests s.keys.items s.slots.slots (c.args.session, c.args.rest) c.in-Ok.slot = rw (← c.as_slice.ensures.value) c.in-Ok.ensures.there in
    c.of_session.ensures ∙ ap (λ keys. of_session keys c.args.session c.after.result) c.as_slice-in-Ok.ensures.value ∙ ap (of_session s.keys.items c.args.session) (c.after.ensures row.place row.is)
    ∙ sym (next_is s.keys.items s.slots.slots c.args.session a.full (row.place + 1)) ∙ behind_row rests s.keys.items s.slots.slots a.full a.sorted c.args.session c.args.rest c.in-Ok.slot row
    ∙ ap (λ (v : Rows _). slot_of (slice_get (rows_behind rests c.args.rest (rows_under sessions rests c.args.session v.rows)) 0)) c.self.view_is

pub returns-in-Err : goal.returns-in-Err
returns-in-Err g c =
    let s = c.self.inside in
    let rests = g.O.RestOrder.rests in
    let a = c.self.invariant.0 in
    let gap : IsGap rests s.keys.items s.slots.slots (c.args.session, c.args.rest) c.in-Err.gap.behind = rw (← c.as_slice.ensures.value) c.in-Err.ensures.absent in
    c.of_session-in-Err.ensures ∙ ap (λ keys. of_session keys c.args.session c.in-Err.gap.behind) c.as_slice-in-Err.ensures.value ∙ ap (of_session s.keys.items c.args.session) (sym gap.place.start.is)
    ∙ sym (next_is s.keys.items s.slots.slots c.args.session a.full gap.place.start.place)
    ∙ behind_gap rests s.keys.items s.slots.slots a.full a.sorted c.args.session c.args.rest c.in-Err.gap.behind gap
    ∙ ap (λ (v : Rows _). slot_of (slice_get (rows_behind rests c.args.rest (rows_under sessions rests c.args.session v.rows)) 0)) c.self.view_is
