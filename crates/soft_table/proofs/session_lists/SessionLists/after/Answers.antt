use Rattle.std.proofs.Common.{◌≡◌, ◌+◌, suc, sym, ap, ◌∙◌, arith}
use Rattle.std.specs.Prelude.{slice_get}
use Rattle.rsvp_base.specs.Orders.{sessions}
use Rattle.rsvp_base.specs.Under.{rows_under}
use Rattle.soft_table.specs.Lists.{Rows, rows_of, slot_of, of_session}
use Rattle.soft_table.proofs.Held.{row_back, next_full}
use Rattle.soft_table.proofs.Takes.{next_is}
use Rattle.soft_table.proofs.Under.{row_under}
use Rattle.soft_table.proofs.session_lists.SessionLists.after.Goals as goal

pub after-requires : goal.after-requires
after-requires g c =
    let s = c.self.inside in
    let rests = g.O.RestOrder.rests in
    let r = c.requires in
    let w = row_under rests c.args.session (rows_of s.keys.items s.slots.slots) r.0 r.1 c.args.slot c.self.invariant.0.sorted
    (ap (λ (v : Rows _). slice_get (rows_under sessions rests c.args.session v.rows) r.0) c.self.view_is ∙ r.2) in
    (w.0, (row_back s.keys.items s.slots.slots w.0 ((c.args.session, r.1), c.args.slot) c.self.invariant.0.full w.1).0)

pub of_session-requires : goal.of_session-requires
of_session-requires g c =
    let s = c.self.inside in
    let rests = g.O.RestOrder.rests in
    let r = c.requires in
    let full = c.self.invariant.0.full in
    let w = row_under rests c.args.session (rows_of s.keys.items s.slots.slots) r.0 r.1 c.args.slot c.self.invariant.0.sorted
    (ap (λ (v : Rows _). slice_get (rows_under sessions rests c.args.session v.rows) r.0) c.self.view_is ∙ r.2) in
    let back = row_back s.keys.items s.slots.slots w.0 ((c.args.session, r.1), c.args.slot) full w.1 in
    rw c.as_slice.ensures.value (next_full s.keys.items s.slots.slots full (w.0 + 1) c.after.result (c.after.ensures w.0 back.0))

pub returns : goal.returns
returns g c = λ j rest at.
    let s = c.self.inside in
    let rests = g.O.RestOrder.rests in
    let full = c.self.invariant.0.full in
    let w = row_under rests c.args.session (rows_of s.keys.items s.slots.slots) j rest c.args.slot c.self.invariant.0.sorted
    (ap (λ (v : Rows _). slice_get (rows_under sessions rests c.args.session v.rows) j) c.self.view_is ∙ at) in
    let back = row_back s.keys.items s.slots.slots w.0 ((c.args.session, rest), c.args.slot) full w.1 in
    let on_w : w.0 + 1 ≡ suc w.0 = omega arith in
    let on_j : suc j ≡ j + 1 = omega arith in
    c.of_session.ensures ∙ ap (λ keys. of_session keys c.args.session c.after.result) c.as_slice.ensures.value ∙ ap (of_session s.keys.items c.args.session) (c.after.ensures w.0 back.0)
    ∙ ap (λ n. of_session s.keys.items c.args.session (slice_get s.slots.slots n)) on_w
    ∙ sym (next_is s.keys.items s.slots.slots c.args.session full (suc w.0)) ∙ w.2 ∙ ap (λ n. slot_of
    (slice_get (rows_under sessions rests c.args.session (rows_of s.keys.items s.slots.slots)) n)) on_j
    ∙ ap (λ (v : Rows _). slot_of (slice_get (rows_under sessions rests c.args.session v.rows) (j + 1))) c.self.view_is
