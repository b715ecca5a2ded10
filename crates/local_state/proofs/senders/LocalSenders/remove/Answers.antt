use Rattle.std.specs.Prelude.{map as each, ◌≡◌, Some}
use Rattle.std.proofs.Common.{length, sym, ap, subst, ◌∙◌, arith}
use Rattle.std.proofs.lemmas.List.{length-map}
use Rattle.rsvp_base.specs.Orders.{sessions, senders}
use Rattle.rsvp_base.specs.Rows.{AreRows}
use Rattle.rsvp_base.specs.SessionLimits.{IsWithinSessionLimits, sessions_in}
use Rattle.rsvp_base.specs.Table.{Table, get, same_rows, size, without}
use Rattle.rsvp_base.specs.TokenBucket.{TokenBucket}
use Rattle.rsvp_base.specs.Under.{rows_under, under}
use Rattle.rsvp_base.proofs.Rows.{are_rows, get_found}
use Rattle.router_rules.specs.Facts.{SenderKey, sender_keys}
use Rattle.local_state.specs.Rows.{Announced, sender_row, tspec_row}
use Rattle.local_state.specs.declared.senders.LocalSender.{LocalSender}
use Rattle.local_state.proofs.Held.{held_rows, less_count, less_within, some_sessions}
use Rattle.local_state.proofs.Marks.{announced_is, marked, marked_taken, marks_rise, tspecs_is}
use Rattle.local_state.proofs.Taken.{rows_taken}
use Rattle.local_state.proofs.senders.LocalSenders.remove.Goals as goal
use Rattle.local_state.proofs.senders.LocalSenders.remove.Goals.{After-self, After-remove}

abbrev Senders : Type 0
Senders = Table sender_keys TokenBucket

within : (c : After-self) → IsWithinSessionLimits senders c.args.self.now.tspecs
within c = subst (λ (t : Senders). IsWithinSessionLimits senders t) (tspecs_is c.self.view_is) c.self.inside.within

counted : (c : After-self) → c.self.inside.held ≡ size (sessions_in senders c.args.self.now.tspecs)
counted c = c.self.inside.counted ∙ ap (λ (t : Senders). size (sessions_in senders t)) (tspecs_is c.self.view_is)

less : (c : After-remove) → each sender_row c.remove.new.self.items ≡ (without c.args.self.now.tspecs (c.args.session, c.args.sender)).rows
less c =
    ap (each sender_row) c.remove.ensures.items
    ∙ rows_taken sender_keys sender_row c.self.inside.rows.items c.self.inside.rising c.args.self.now.tspecs (tspecs_is c.self.view_is) (c.args.session, c.args.sender) c.in-Ok.at
    (rw c.as_slice.ensures.value at c.in-Ok.ensures.there)

-- what was there
was : (c : After-remove) → (v : TokenBucket) × (get c.args.self.now.tspecs (c.args.session, c.args.sender) ≡ Some v)
was c =
    let row : LocalSender = c.remove.result in (
      _,
      get_found sender_keys sender_row c.self.inside.rows.items c.self.inside.rising c.args.self.now.tspecs (tspecs_is c.self.view_is) (c.args.session, c.args.sender) c.in-Ok.at row
          (rw c.as_slice.ensures.value at c.in-Ok.ensures.there),
    )

pub of_session-among-requires : goal.of_session-among-requires
of_session-among-requires c =
    let d = (goal.at.of_session-among-requires c).After-remove in
    subst (λ xs. AreRows sender_keys sender_row xs) (sym c.as_slice-2.ensures.value) (are_rows sender_keys sender_row c.remove.new.self.items (without c.args.self.now.tspecs (c.args.session, c.args.sender))
    (less d))

pub without_session-self-inside-requires : goal.without_session-self-inside-requires
without_session-self-inside-requires c =
    let d = (goal.at.without_session-self-inside-requires c).After-remove in
    let s = (goal.at.without_session-self-inside-requires c).After-self in
    let v = was d in
    omega (arith, counted s, some_sessions senders c.args.self.now.tspecs (within s) c.args.session c.args.sender v.0 v.1)

pub invariant_of-self-inside : goal.invariant_of-self-inside
invariant_of-self-inside c =
    let d = (goal.at.invariant_of-self-inside c).After-remove in
    let s = (goal.at.invariant_of-self-inside c).After-self in
    let m = c.args.self.now.tspecs in
    let v = was d in
    let among : length c.of_session-among.result.now ≡ size (under sessions senders (without m (c.args.session, c.args.sender)) c.args.session) =
    sym (length-map c.of_session-among.result.now tspec_row) ∙ ap length c.of_session-among.ensures
    ∙ ap (λ es. length (rows_under sessions senders c.args.session es)) (ap (each sender_row) c.as_slice-2.ensures.value ∙ less d) in
    let h = held_rows senders sender_row c.remove.new.self.items (without m (c.args.session, c.args.sender)) c.without_session-self-inside.result (less d)
    (less_within senders m (within s) c.args.session c.args.sender)
    (c.without_session-self-inside.ensures ∙ less_count senders m (within s) c.args.session c.args.sender v.0 c.self.inside.held (length c.of_session-among.result.now) v.1 (counted s) among) in
    (h.0, (marks_rise c.remove.new.self.items h.0, (h.1, (h.2, (omega (arith, c.self.inside.room, c.remove.ensures.capacity), tt)))))

pub returns-clause-gone : goal.returns-clause-gone
returns-clause-gone c =
    let k : SenderKey = (c.args.session, c.args.sender) in
    let s = c.args.self.now in
    announced_is _ (record { tspecs = without s.tspecs k; advertised = without s.advertised k }) (same_rows _ (without s.tspecs k) (less ((goal.at.returns-clause-gone c).After-remove)))
    (same_rows _ (without s.advertised k) (ap marked c.remove.ensures.items
    ∙ marked_taken c.self.inside.rows.items c.self.inside.rising k c.in-Ok.at (rw c.as_slice.ensures.value at c.in-Ok.ensures.there) c.self.inside.marks c.remove.result
    ∙ ap (λ (a : Announced). (without a.advertised k).rows) c.self.view_is))
