use Rattle.std.proofs.Common.{fold, refl, ap, None, ◌∙◌}
use Rattle.std.specs.Option.{option_map}
use Rattle.router_rules.specs.Facts.{SenderKey}
use Rattle.laws_sends.specs.State.{facts_of}
use Rattle.path_sends.specs.Offering.{as_offer}
use Rattle.router_state.specs.Whole.{state_of}
use Rattle.resv_sends.specs.Halves.{told_before, told_behind}
use Rattle.resv_sends.proofs.Sent.{sends_are, two_sent}
use Rattle.resv_sends.proofs.telling.tell_sender.Goals as goal

pub returns-clause-sent : goal.returns-clause-sent
returns-clause-sent g c = λ n clock h b.
    let k : SenderKey = (c.args.session, c.args.prior.now.sender) in
    let m = state_of c.args.tables.now c.args.said.now in
    two_sent g.O.Outbox.posted c.args.out.now _ _ (told_before n.place k (facts_of clock n) (facts_of clock m)) (told_behind n.place k (facts_of clock n) (facts_of clock m) None)
    (c.tell_tears.ensures n clock b) (c.tell_news.ensures.sent n clock None refl b)
    ∙ ap (fold g.O.Outbox.posted c.args.out.now) (sends_are k n m (option_map as_offer c.args.prior.now.offer) c.args.prior.now.near b clock h)

pub returns-clause-facts : goal.returns-clause-facts
returns-clause-facts g c = λ n clock b. c.tell_news.ensures.facts n clock None refl b

pub returns-clause-said : goal.returns-clause-said
returns-clause-said g c = c.tell_news.ensures.said

pub returns-clause-rest : goal.returns-clause-rest
returns-clause-rest g c = c.tell_news.ensures.rest
