use Rattle.std.proofs.Common.{◌≡◌, ◌+◌, ℕ, is_some, ltb, true, false, sym, ap, subst, ◌∙◌}
use Rattle.std.specs.Prelude.{slice_get, nat_le}
use Rattle.rsvp_base.specs.Orders.{sessions, senders}
use Rattle.rsvp_base.specs.Rows.{table_of}
use Rattle.rsvp_base.specs.SessionLimits.{has_room_at, sessions_in}
use Rattle.rsvp_base.specs.Table.{Table, get, put_in, size}
use Rattle.rsvp_base.specs.Under.{under}
use Rattle.path_state.specs.declared.fact.PathFact.{PathFact}
use Rattle.path_state.specs.Paths.{path_keys, fact_row}
use Rattle.rsvp_base.proofs.SessionCounts.{room_over, room_among, room_first}
use Rattle.soft_table.proofs.Told.{some_copied}
use Rattle.path_state.proofs.Answered.{first_there, flipped, room_for_one, room_for_session, same_sessions}
use Rattle.path_state.proofs.table.PathTable.has_room.Goals as goal

pub returns-then-is_some : goal.returns-then-is_some
returns-then-is_some c =
    let m : Table path_keys (PathFact × ℕ) = table_of path_keys fact_row c.self.inside.table.facts c.self.inside.facts in
    let there : is_some (get m (c.args.session, c.args.sender)) ≡ true = some_copied (λ e. e.0) c.find.result (get m (c.args.session, c.args.sender)) c.find.ensures ∙ sym c.is_some.ensures
    ∙ c.if-is_some.true in
    subst (λ (t : Table path_keys (PathFact × ℕ)). (e : PathFact × ℕ) → true ≡ has_room_at senders (put_in t (c.args.session, c.args.sender) e) c.args.session) (ap (λ t. t.facts) c.self.view_is)
    (λ e. sym (room_over senders m c.self.inside.within c.args.session c.args.sender e there))

pub returns-then-is_some-2 : goal.returns-then-is_some-2
returns-then-is_some-2 c =
    let m : Table path_keys (PathFact × ℕ) = table_of path_keys fact_row c.self.inside.table.facts c.self.inside.facts in
    let us = (under sessions senders m c.args.session).rows in
    let new : is_some (get m (c.args.session, c.args.sender)) ≡ false = some_copied (λ e. e.0) c.find.result (get m (c.args.session, c.args.sender)) c.find.ensures ∙ sym c.is_some.ensures
    ∙ c.if-is_some.false in
    let some = sym (first_there us) ∙ some_copied (λ e. e.1.0) c.at.result (slice_get us 0) c.at.ensures ∙ sym c.is_some-2.ensures ∙ c.if-is_some-2.true in
    let room : c.is_none.result ≡ nat_le (size (under sessions senders m c.args.session) + 1) 16 =
    flipped _ _ (some_copied (λ e. e.1.0) c.at-then-is_some-2.result (slice_get us 15) c.at-then-is_some-2.ensures ∙ c.is_none.ensures) ∙ room_for_one us in
    subst (λ (t : Table path_keys (PathFact × ℕ)). (e : PathFact × ℕ) → c.is_none.result ≡ has_room_at senders (put_in t (c.args.session, c.args.sender) e) c.args.session)
    (ap (λ t. t.facts) c.self.view_is)
    (λ e. room ∙ sym (room_among senders m c.self.inside.within c.args.session c.args.sender e new some))

pub returns : goal.returns
returns c =
    let m : Table path_keys (PathFact × ℕ) = table_of path_keys fact_row c.self.inside.table.facts c.self.inside.facts in
    let us = (under sessions senders m c.args.session).rows in
    let none = sym (first_there us) ∙ some_copied (λ e. e.1.0) c.at.result (slice_get us 0) c.at.ensures ∙ sym c.is_some-2.ensures ∙ c.if-is_some-2.false in
    let room : ltb c.sessions.result 32 ≡ nat_le (size (sessions_in senders m) + 1) 32 = room_for_session c.sessions.result
    ∙ ap (λ n. nat_le (n + 1) 32) (c.sessions.ensures ∙ same_sessions c.self.inside.table.facts c.self.inside.facts) in
    subst (λ (t : Table path_keys (PathFact × ℕ)). (e : PathFact × ℕ) → ltb c.sessions.result 32 ≡ has_room_at senders (put_in t (c.args.session, c.args.sender) e) c.args.session)
    (ap (λ t. t.facts) c.self.view_is)
    (λ e. room ∙ sym (room_first senders m c.self.inside.within c.args.session c.args.sender e none))
