use Rattle.std.proofs.Common.{◌≡◌, ◌∙◌, ap, sym}
use Rattle.std.specs.Prelude.{Some}
use Rattle.std.specs.Option.{option_map}
use Rattle.std.proofs.lemmas.Result.{MatchResult-weaker}
use Rattle.rsvp_objects.specs.declared.adspec.Adspec.{Adspec}
use Rattle.router_rules.specs.Facts.{SenderKey}
use Rattle.router_core.specs.Adverts.{fact_advert}
use Rattle.router_core.proofs.BySession.{none_here, one_here, told_here}
use Rattle.router_core.proofs.adverts.advert_here.Goals as goal

pub returns-in-Some : goal.returns-in-Some
returns-in-Some c =
    let f = fact_advert c.args.iface in
    let x = c.args.fact.now in
    let k : SenderKey = (x.session, x.sender) in
    let is : Some (k, c.in-Some.adspec.now) ≡ f x = ap (option_map (λ a. (k, a.now))) (sym c.in-Some.is) ∙ c.advert_by.ensures in
    MatchResult-weaker c.first_or.result c.first_or.ensures (λ a h. told_here f x (k, a) (ap (λ (z : Adspec). Some (k, z)) h.0 ∙ is) c.args.before h.1)
    (λ left h. one_here f x (k, c.in-Some.adspec.now) is c.args.before left h)

pub returns-in-None : goal.returns-in-None
returns-in-None c =
    let x = c.args.fact.now in
    let k : SenderKey = (x.session, x.sender) in
    none_here (fact_advert c.args.iface) x (ap (option_map (λ a. (k, a.now))) (sym c.in-None.is) ∙ c.advert_by.ensures) c.args.before
