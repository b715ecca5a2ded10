use Rattle.std.proofs.Common.{◌≡◌, Some, is_some, sym, ap, subst, ◌∙◌}
use Rattle.std.specs.Prelude.{Bool, Option}
use Rattle.path_state.specs.declared.fact.PathFact.{PathFact}
use Rattle.path_sends.specs.Renewing.{AreNews, offer_by, own_of}
use Rattle.rsvp_base.specs.Table.{get, has}
use Rattle.rsvp_base.specs.TokenBucket.{TokenBucket}
use Rattle.router_rules.specs.Facts.{SenderKey}
use Rattle.router_core.proofs.Again.{own_there}
use Rattle.router_core.proofs.paths.renewal_by.Goals as goal

pub returns-in_default-clause-by : goal.returns-in_default-clause-by
returns-in_default-clause-by c = λ clock n same. sym (ap is_some c.in_default.is) ∙ c.path_by.ensures.by clock n same

pub returns-clause-by : goal.returns-clause-by
returns-clause-by c = λ clock n same. sym (ap is_some c.in-Some.is) ∙ c.path_by.ensures.by clock n same

pub returns-clause-news : goal.returns-clause-news
returns-clause-news c = λ was is.
    let k : SenderKey = (c.args.message.now.session, c.args.sender) in
    let own : Option (Bool × TokenBucket) = own_of (has c.args.tables.now.senders.advertised k) (get c.args.tables.now.senders.tspecs k) in
    let found : Some c.in-Some.was.now ≡ Some was = sym c.in-Some.ensures.fact ∙ is in
    let same : c.in-Some.was.now ≡ was = cc in
    subst (λ (z : PathFact). AreNews c.of.result (offer_by own z.tspec z.adspec) (offer_by own c.args.tspec c.args.message.now.adspec)) same
    (c.of.ensures own (own_there (has c.args.tables.now.senders.advertised k) (get c.args.tables.now.senders.tspecs k) ∙ sym (c.is_some-local.ensures ∙ c.find.ensures.there)))
