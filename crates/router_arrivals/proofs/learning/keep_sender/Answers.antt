use Rattle.std.proofs.Common.{◌≡◌, ℕ, true, false, is_err, sym, ap, ◌∙◌, refl}
use Rattle.std.proofs.lemmas.Bool.{false≢true}
use Rattle.rsvp_base.specs.Orders.{senders}
use Rattle.rsvp_base.specs.SessionLimits.{has_room_at}
use Rattle.local_state.specs.Rows.{Announced}
use Rattle.rsvp_base.specs.Table.{empty, has, put_in}
use Rattle.rsvp_base.specs.TokenBucket.{TokenBucket}
use Rattle.rsvp_base.proofs.SessionRoom.{put_room}
use Rattle.rsvp_base.proofs.SetLaws.{or_left}
use Rattle.rsvp_base.proofs.Tables.{either}
use Rattle.router_rules.specs.Facts.{SenderKey, sender_keys}
use Rattle.router_rules.specs.Forgetting.{counted}
use Rattle.router_state.specs.Changes.{senders_put, started}
use Rattle.router_state.specs.State.{State, facts_of}
use Rattle.router_state.specs.Whole.{state_of}
use Rattle.router_state.specs.declared.tables.Tables.{Tables}
use Rattle.router_arrivals.proofs.Keeping.{counts_by, put_more, put_there, room_for_due}
use Rattle.router_arrivals.proofs.learning.keep_sender.Goals as goal
use Rattle.router_arrivals.proofs.learning.keep_sender.Goals.{After-put}

module _ (c : After-put) where
  abbrev key : SenderKey
  key = (c.args.session, c.args.sender)

  abbrev was : State
  was = state_of c.args.tables.now empty

  here : (clock : ℕ) → true ≡ has (counted (facts_of clock (senders_put was key c.args.tspec))) c.args.session
  here = counts_by (senders_put was key c.args.tspec) key (or_left _ (has was.paths key) (put_there sender_keys was.senders key c.args.tspec))

  -- there was room
  room : is_err c.put.result ≡ false → (has_room_at senders (put_in was.senders key c.args.tspec) c.args.session ≡ false → is_err c.put.result ≡ true)
      → has_room_at senders (put_in was.senders key c.args.tspec) c.args.session ≡ true
  room ok full = either _ (λ t. t) (λ f. absurd (false≢true (sym ok ∙ full f)))

  abbrev kept_as : Announced → Tables
  kept_as m = record c.args.tables.now { senders = m }

pub returns-in_default-clause-room : goal.returns-in_default-clause-room
returns-in_default-clause-room c = sym (c.in_default.ensures.full.0 refl)

pub returns-in_default-clause-state : goal.returns-in_default-clause-state
returns-in_default-clause-state c = let d = (goal.at.returns-in_default-clause-state c).After-put in ap (λ (m : Announced). state_of (kept_as d m) empty) c.in_default.ensures.err

pub begin-requires : goal.begin-requires
begin-requires c = λ none.
    let d = (goal.at.begin-requires c).After-put in
    let n = was d in
    let within = (put_room senders n.senders (key d) c.args.tspec c.limits.ensures).0 (room d (ap is_err c.in-Ok.is) c.put.ensures.full.1) in
    room_for_due n c.requires.settled (senders_put n (key d) c.args.tspec) c.args.session (put_more sender_keys n.senders (key d) c.args.tspec) (λ k h. h)
    (here d 0) within c.limits-2.ensures.within none

pub returns-clause-room : goal.returns-clause-room
returns-clause-room c = let d = (goal.at.returns-clause-room c).After-put in sym (room d (ap is_err c.in-Ok.is) c.put.ensures.full.1)

pub returns-clause-state : goal.returns-clause-state
returns-clause-state c =
    let d = (goal.at.returns-clause-state c).After-put in
    let own = c.in-Ok.ensures.ok in
    let due = c.begin.ensures ∙ (λ i. started (has c.args.tables.now.due c.args.session) c.args.session (c.period-period.ensures i) c.args.tables.now.due) in
    λ i. record (was d) { senders = (own i).tspecs; advertised = (own i).advertised; due = due i }
