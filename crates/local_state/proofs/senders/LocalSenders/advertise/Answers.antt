use Rattle.std.specs.Prelude.{map as each, ◌≡◌, true}
use Rattle.std.proofs.Common.{set, ap, subst, ◌∙◌}
use Rattle.rsvp_base.specs.Orders.{senders}
use Rattle.rsvp_base.specs.Sets.{with_key}
use Rattle.rsvp_base.specs.SessionLimits.{IsWithinSessionLimits, sessions_in}
use Rattle.rsvp_base.specs.Table.{Table, same_rows, size}
use Rattle.rsvp_base.specs.TokenBucket.{TokenBucket}
use Rattle.rsvp_base.proofs.Rows.{rows_are}
use Rattle.router_rules.specs.Facts.{SenderKey, sender_keys}
use Rattle.local_state.specs.Rows.{Announced, sender_row}
use Rattle.local_state.specs.declared.senders.LocalSender.{LocalSender}
use Rattle.local_state.proofs.Held.{held_rows}
use Rattle.local_state.proofs.Marks.{announced_is, each_kept, key_at, marked_put, marks_rise}
use Rattle.local_state.proofs.senders.LocalSenders.advertise.Goals as goal

abbrev Senders : Type 0
Senders = Table sender_keys TokenBucket

pub invariant_of-self-inside : goal.invariant_of-self-inside
invariant_of-self-inside c =
    let xs = c.self.inside.rows.items in
    let m = c.args.self.now.tspecs in
    let is = ap (λ (a : Announced). a.tspecs) c.self.view_is in
    let row : LocalSender = record c.index_mut.result.now { advertised = true } in
    let same : each sender_row (set xs c.in-Ok.at row) ≡ m.rows = each_kept sender_row xs c.in-Ok.at row c.index_mut.result.now (ap sender_row c.index_mut.ensures.value)
    ∙ rows_are sender_keys sender_row xs c.self.inside.rising m is in
    let h = held_rows senders sender_row (set xs c.in-Ok.at row) m c.self.inside.held same (subst (λ (t : Senders). IsWithinSessionLimits senders t) is c.self.inside.within)
    (c.self.inside.counted ∙ ap (λ (t : Senders). size (sessions_in senders t)) is) in
    (h.0, (marks_rise (set xs c.in-Ok.at row) h.0, (h.1, (h.2, (c.self.inside.room, tt)))))

pub returns-clause-marked : goal.returns-clause-marked
returns-clause-marked c =
    let xs = c.self.inside.rows.items in
    let k : SenderKey = (c.args.session, c.args.sender) in
    let m = c.args.self.now.tspecs in
    let row : LocalSender = record c.index_mut.result.now { advertised = true } in
    let same : each sender_row (set xs c.in-Ok.at row) ≡ m.rows = each_kept sender_row xs c.in-Ok.at row c.index_mut.result.now (ap sender_row c.index_mut.ensures.value)
    ∙ rows_are sender_keys sender_row xs c.self.inside.rising m (ap (λ (a : Announced). a.tspecs) c.self.view_is) in
    let here = key_at xs k c.in-Ok.at c.index_mut.result.now (rw c.as_slice.ensures.value at c.in-Ok.ensures.there) c.index_mut.ensures.value in
    announced_is _ (record c.args.self.now { advertised = with_key c.args.self.now.advertised k }) (same_rows _ m same)
    (same_rows _ (with_key c.args.self.now.advertised k)
    (marked_put xs c.self.inside.rising k c.in-Ok.at (rw c.as_slice.ensures.value at c.in-Ok.ensures.there) c.self.inside.marks row (λ i. (here i, true))
    ∙ ap (λ (a : Announced). (with_key a.advertised k).rows) c.self.view_is))
