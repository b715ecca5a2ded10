use Rattle.std.proofs.Common.{fold, sym, ap, ◌∙◌}
use Rattle.rsvp_base.specs.Table.{keys}
use Rattle.router_state.specs.State.{facts_of}
use Rattle.laws_sends.specs.Before.{lanes_by}
use Rattle.laws_sends.specs.SendsHere.{hops_in}
use Rattle.router_state.specs.Whole.{state_of}
use Rattle.router_rounds.specs.Rounds.{told_round}
use Rattle.router_rounds.proofs.Loops.{still_is_told, still_once}
use Rattle.router_rounds.proofs.rounds.tell_session.Goals as goal

pub refresh_session-requires-clause-still : goal.refresh_session-requires-clause-still
refresh_session-requires-clause-still g c = c.requires.still c.if-still.true

pub refresh_session-requires-clause-near : goal.refresh_session-requires-clause-near
refresh_session-requires-clause-near g c = c.requires.near c.if-still.true

pub returns-then-still-clause-sent : goal.returns-then-still-clause-sent
returns-then-still-clause-sent g c = λ clock.
    c.refresh_session.ensures clock ∙ ap (λ b. fold g.O.Outbox.posted c.args.out.now (told_round clock (state_of c.args.tables.now c.args.said.now) b c.args.said.now c.args.near.now.session))
    (sym (c.requires.due c.if-still.true))

pub returns-then-still-clause-told : goal.returns-then-still-clause-told
returns-then-still-clause-told g c = λ clock.
    let n = state_of c.args.tables.now c.args.said.now in
    still_is_told c.args.tables.now c.args.said.now c.args.near.now.session (c.requires.still c.if-still.true) (lanes_by (keys (hops_in (facts_of clock n) c.args.near.now.session)))

pub returns-then-still-clause-marks : goal.returns-then-still-clause-marks
returns-then-still-clause-marks g c = λ clock. still_once c.args.tables.now c.args.said.now c.args.near.now.session (c.requires.still c.if-still.true) clock
