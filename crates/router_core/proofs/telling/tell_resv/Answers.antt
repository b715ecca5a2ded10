use Rattle.std.proofs.Common.{List, ◌++◌, map, fold, sym, ap, ◌∙◌}
use Rattle.std.specs.Option.{option_map}
use Rattle.router_rules.specs.Asking.{asked_of, asker_of}
use Rattle.router_rules.specs.Facts.{SenderKey}
use Rattle.router_rules.specs.Inputs.{ErrSend}
use Rattle.router_rules.specs.Sends.{conf_sends, confirmed, error_send, error_sends}
use Rattle.router_state.specs.State.{facts_of}
use Rattle.path_sends.specs.Offering.{as_offer}
use Rattle.router_state.specs.Whole.{state_of}
use Rattle.resv_admission.specs.Units.{refusal_of}
use Rattle.resv_sends.specs.Halves.{address_of, told_before, told_behind}
use Rattle.resv_sends.proofs.Sent.{sends_with, two_sent}
use Rattle.router_core.proofs.Sending.{address_is}
use Rattle.router_core.proofs.telling.tell_resv.Goals as goal

pub tell_news-requires : goal.tell_news-requires
tell_news-requires g c = c.requires

pub returns-clause-sent : goal.returns-clause-sent
returns-clause-sent g c = λ n clock ch before answer confs fired.
    let posted = g.O.Outbox.posted in
    let m = c.args.message.now in
    let t = state_of c.args.tables.now c.args.said.now in
    let k : SenderKey = (m.session, c.args.prior.now.sender) in
    let f = facts_of clock n in
    let h = facts_of clock t in
    let start = c.args.out.now in
    let one = c.tell_tears.new.out in
    let two = c.tell_refusals.new.out in
    let three = c.confirm.new.out in
    let errors = error_sends ch.errors in
    let confirms = conf_sends (ch.confs ++ confirmed n.place n.place f h ch.asked) in
    let place = sym before.change.place in
    let a = c.tell_tears.ensures n clock before in
    let b =
    c.tell_refusals.ensures clock ∙ (λ i. fold posted one (map error_send (map (refusal_of (place i) (asker_of (place i) clock c.args.iface m)) c.args.answer.now.done.errors)))
    ∙ ap (λ (es : List ErrSend). fold posted one (map error_send es)) (sym answer.errors) in
    let d =
    c.confirm.ensures n clock c.args.prior.now.sender _ _ before
    ∙ sym (λ i. fold posted two (conf_sends (confs i ++ confirmed n.place n.place f h (answer.asked i)))) in
    let e = c.tell_news.ensures.sent n clock ch.asked (ap address_of answer.asked ∙ address_is (asker_of n.place clock c.args.iface m) c.args.answer.now.taken m.confirm) before in
    two_sent posted start one c.tell_news.new.out (told_before n.place k f h) (errors ++ (confirms ++ told_behind n.place k f h ch.asked)) a
    (two_sent posted one two c.tell_news.new.out errors (confirms ++ told_behind n.place k f h ch.asked) b
    (two_sent posted two three c.tell_news.new.out confirms (told_behind n.place k f h ch.asked) d e))
    ∙ ap (fold posted start) (sym (sends_with k n t (option_map as_offer c.args.prior.now.offer) c.args.prior.now.near before clock ch fired))

pub returns-clause-facts : goal.returns-clause-facts
returns-clause-facts g c = λ n clock before.
    let m = c.args.message.now in
    let o = asker_of n.place clock c.args.iface m in
    c.tell_news.ensures.facts n clock (asked_of o c.args.answer.now.taken m.confirm) (address_is o c.args.answer.now.taken m.confirm) before
