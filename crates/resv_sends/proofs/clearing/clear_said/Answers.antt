use Rattle.std.proofs.Common.{sym, ap, ◌∙◌, cond}
use Rattle.std.proofs.lemmas.Bool.{both_ways}
use Rattle.rsvp_base.specs.Sets.{is_none}
use Rattle.rsvp_base.specs.Table.{empty}
use Rattle.sent_state.specs.Lanes.{lane_at, told}
use Rattle.resv_sends.proofs.Said.{is_nobody, is_somebody}
use Rattle.resv_sends.proofs.clearing.clear_said.Goals as goal

pub returns-then-is_empty : goal.returns-then-is_empty
returns-then-is_empty c =
    c.forget.ensures
    ∙ sym (ap (λ b. cond b (told c.args.said.now (lane_at (c.args.session, (c.args.style, c.args.hop))) empty) c.args.said.now)
    (ap is_none (sym c.senders_via.ensures) ∙ is_nobody c.senders_via.result (c.is_empty.ensures.0 c.if-is_empty.true)))

pub returns-else-is_empty : goal.returns-else-is_empty
returns-else-is_empty c =
    sym (ap (λ b. cond b (told c.args.said.now (lane_at (c.args.session, (c.args.style, c.args.hop))) empty) c.args.said.now)
    (ap is_none (sym c.senders_via.ensures) ∙ is_somebody c.senders_via.result (λ none. both_ways _ c.if-is_empty.false (c.is_empty.ensures.1 none))))
