use Rattle.std.proofs.Common.{None, ◌++◌, fold, sym, ap, ◌∙◌, refl}
use Rattle.std.specs.Option.{option_map}
use Rattle.router_rules.specs.Errors.{act_resv_err}
use Rattle.router_rules.specs.Facts.{SenderKey}
use Rattle.router_rules.specs.Sends.{error_sends}
use Rattle.router_state.specs.State.{State, facts_of}
use Rattle.path_sends.specs.Offering.{as_offer}
use Rattle.router_state.specs.Whole.{state_of}
use Rattle.resv_sends.specs.Halves.{told_before, told_behind}
use Rattle.resv_sends.proofs.Sent.{sends_with, two_sent}
use Rattle.router_core.proofs.Sending.{err_sent}
use Rattle.router_core.proofs.telling.tell_resv_err.Goals as goal

pub tell_news-requires : goal.tell_news-requires
tell_news-requires g c = c.requires

pub returns-clause-sent : goal.returns-clause-sent
returns-clause-sent g c = λ n clock before is heard facts.
    let posted = g.O.Outbox.posted in
    let m = c.args.message.now in
    let t = state_of c.args.tables.now c.args.said.now in
    let k : SenderKey = (m.session, c.args.prior.now.sender) in
    let f = facts_of clock n in
    let h = facts_of clock t in
    let start = c.args.out.now in
    let one = c.tell_tears.new.out in
    let two = c.pass_resv_err.new.out in
    let ch = act_resv_err n.place clock c.args.iface m f in
    let errors = error_sends ch.errors in
    let same = sym is in
    let a = c.tell_tears.ensures n clock before in
    let b =
    c.pass_resv_err.ensures clock n (ap (λ (z : State). z.place) same) (ap (λ (z : State). z.paths) same) (ap (λ (z : State). z.wild) same) (ap (λ (z : State). z.fixed) same)
    (ap (λ (z : State). z.shared) same) heard (ap (facts_of clock) same ∙ facts)
    ∙ ap (fold posted one) (err_sent clock n c.args.iface m) in
    let e = c.tell_news.ensures.sent n clock None refl before in
    two_sent posted start one c.tell_news.new.out (told_before n.place k f h) (errors ++ told_behind n.place k f h None) a
    (two_sent posted one two c.tell_news.new.out errors (told_behind n.place k f h None) b e)
    ∙ ap (fold posted start) (sym (sends_with k n t (option_map as_offer c.args.prior.now.offer) c.args.prior.now.near before clock ch refl))

pub returns-clause-facts : goal.returns-clause-facts
returns-clause-facts g c = λ n clock before. c.tell_news.ensures.facts n clock None refl before
