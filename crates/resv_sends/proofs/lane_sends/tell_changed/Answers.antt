use Rattle.std.proofs.Common.{fold, false, true, None, sym, ap, ◌∙◌}
use Rattle.sent_state.specs.Lanes.{lane_at}
use Rattle.laws_sends.specs.Saying.{ask_seen}
use Rattle.router_state.specs.Whole.{state_of}
use Rattle.router_rules.specs.Asking.{ask_of}
use Rattle.resv_sends.specs.Rounds.{told_parts}
use Rattle.resv_sends.proofs.Said.{parts_due, parts_new, parts_old}
use Rattle.resv_sends.proofs.lane_sends.tell_changed.Goals as goal

pub returns-then-new : goal.returns-then-new
returns-then-new g c = λ clock said.
    let n = state_of c.args.tables.now said in
    let l = lane_at (c.args.lane.session, (c.args.lane.style, c.args.lane.hop)) in
    let a = ask_of c.args.lane.style c.args.parts.now in
    c.tell_ask.ensures clock said ∙ ap (λ w. fold g.O.Outbox.posted c.args.out.now (ask_seen clock n l w c.args.occasion.due a)) (c.wish_for-wish.ensures clock said)
    ∙ ap (fold g.O.Outbox.posted c.args.out.now) (parts_new clock n c.args.lane.session c.args.lane.style c.args.lane.hop c.args.occasion.asked c.args.occasion.due a)
    ∙ ap (λ b. fold g.O.Outbox.posted c.args.out.now (told_parts clock n l c.args.occasion.asked b c.args.occasion.due a)) (sym c.if-new.true)

pub returns-then-occasion : goal.returns-then-occasion
returns-then-occasion g c = λ clock said.
    let n = state_of c.args.tables.now said in
    let l = lane_at (c.args.lane.session, (c.args.lane.style, c.args.lane.hop)) in
    let a = ask_of c.args.lane.style c.args.parts.now in
    c.tell_ask-then-occasion.ensures clock said ∙ ap (λ b. fold g.O.Outbox.posted c.args.out.now (ask_seen clock n l None b a)) c.if-occasion.true
    ∙ ap (fold g.O.Outbox.posted c.args.out.now) (parts_due clock n c.args.lane.session c.args.lane.style c.args.lane.hop c.args.occasion.asked a)
    ∙ ap (λ b. fold g.O.Outbox.posted c.args.out.now (told_parts clock n l c.args.occasion.asked b true a)) (sym c.if-new.false)
    ∙ ap (λ b. fold g.O.Outbox.posted c.args.out.now (told_parts clock n l c.args.occasion.asked c.args.new b a)) (sym c.if-occasion.true)

pub returns-else-occasion : goal.returns-else-occasion
returns-else-occasion g c = λ clock said.
    let n = state_of c.args.tables.now said in
    let l = lane_at (c.args.lane.session, (c.args.lane.style, c.args.lane.hop)) in
    let a = ask_of c.args.lane.style c.args.parts.now in
    ap (fold g.O.Outbox.posted c.args.out.now) (parts_old clock n c.args.lane.session c.args.lane.style c.args.lane.hop c.args.occasion.asked a)
    ∙ ap (λ b. fold g.O.Outbox.posted c.args.out.now (told_parts clock n l c.args.occasion.asked b false a)) (sym c.if-new.false)
    ∙ ap (λ b. fold g.O.Outbox.posted c.args.out.now (told_parts clock n l c.args.occasion.asked c.args.new b a)) (sym c.if-occasion.false)
