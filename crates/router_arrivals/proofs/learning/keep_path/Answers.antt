use Rattle.std.proofs.Common.{◌≡◌, ℕ, true, false, is_err, sym, ap, ◌∙◌, refl}
use Rattle.std.proofs.lemmas.Bool.{false≢true}
use Rattle.path_state.specs.Paths.{PathMap, path_keys}
use Rattle.path_state.specs.declared.fact.PathFact.{PathFact}
use Rattle.rsvp_base.specs.Orders.{senders}
use Rattle.rsvp_base.specs.SessionLimits.{has_room_at}
use Rattle.rsvp_base.specs.Table.{empty, has, put_in}
use Rattle.rsvp_base.proofs.SessionRoom.{put_room}
use Rattle.rsvp_base.proofs.SetLaws.{or_right}
use Rattle.rsvp_base.proofs.Tables.{either}
use Rattle.router_rules.specs.Facts.{SenderKey}
use Rattle.router_rules.specs.Forgetting.{counted}
use Rattle.router_state.specs.Changes.{paths_put, started}
use Rattle.router_state.specs.State.{State, facts_of}
use Rattle.router_state.specs.Whole.{state_of}
use Rattle.router_state.specs.declared.tables.Tables.{Tables}
use Rattle.router_arrivals.proofs.Keeping.{counts_by, put_more, put_there, room_for_due}
use Rattle.router_arrivals.proofs.learning.keep_path.Goals as goal
use Rattle.router_arrivals.proofs.learning.keep_path.Goals.{After-learn}

module _ (c : After-learn) where
  abbrev key : SenderKey
  key = (c.args.fact.session, c.args.fact.sender)

  abbrev was : State
  was = state_of c.args.tables.now empty

  here : (clock : ℕ) → true ≡ has (counted (facts_of clock (paths_put was key c.args.fact c.args.left))) c.args.fact.session
  here = counts_by (paths_put was key c.args.fact c.args.left) key (or_right (has was.senders key) _ (put_there path_keys was.paths key (c.args.fact, c.args.left)))

  -- there was room
  room : is_err c.learn.result ≡ false → (has_room_at senders (put_in was.paths key (c.args.fact, c.args.left)) c.args.fact.session ≡ false → is_err c.learn.result ≡ true)
      → has_room_at senders (put_in was.paths key (c.args.fact, c.args.left)) c.args.fact.session ≡ true
  room ok full = either _ (λ t. t) (λ f. absurd (false≢true (sym ok ∙ full f)))

  -- nothing changed
  abbrev kept_as : PathMap → Tables
  kept_as m = record c.args.tables.now { paths = m }

pub returns-in_default-clause-room : goal.returns-in_default-clause-room
returns-in_default-clause-room c = sym (c.in_default.ensures.full.0 refl)

pub returns-in_default-clause-state : goal.returns-in_default-clause-state
returns-in_default-clause-state c = let d = (goal.at.returns-in_default-clause-state c).After-learn in ap (λ (m : PathMap). state_of (kept_as d m) empty) c.in_default.ensures.err

pub returns-in_default-clause-pulled : goal.returns-in_default-clause-pulled
returns-in_default-clause-pulled c = ap (λ (m : PathMap). m.dead.rows) c.in_default.ensures.err ∙ c.requires.pulled

pub begin-requires : goal.begin-requires
begin-requires c = λ none.
    let d = (goal.at.begin-requires c).After-learn in
    let n = was d in
    let value : PathFact × ℕ = (c.args.fact, c.args.left) in
    let within = (put_room senders n.paths (key d) value c.limits-2.ensures.within).0 (room d (ap is_err c.in-Ok.is) c.learn.ensures.full.1) in
    room_for_due n c.requires.settled (paths_put n (key d) c.args.fact c.args.left) c.args.fact.session (λ k h. h) (put_more path_keys n.paths (key d) value) (here d 0) c.limits.ensures within none

pub returns-clause-room : goal.returns-clause-room
returns-clause-room c = let d = (goal.at.returns-clause-room c).After-learn in sym (room d (ap is_err c.in-Ok.is) c.learn.ensures.full.1)

pub returns-clause-state : goal.returns-clause-state
returns-clause-state c =
    let d = (goal.at.returns-clause-state c).After-learn in
    let paths = ap (λ (m : PathMap). m.facts) c.in-Ok.ensures.ok in
    let due = c.begin.ensures ∙ (λ i. started (has c.args.tables.now.due c.args.fact.session) c.args.fact.session (c.period-period.ensures i) c.args.tables.now.due) in
    λ i. record (was d) { paths = paths i; due = due i }

pub returns-clause-pulled : goal.returns-clause-pulled
returns-clause-pulled c = ap (λ (m : PathMap). m.dead.rows) c.in-Ok.ensures.ok ∙ c.requires.pulled
