use Rattle.std.proofs.Common.{ap, ◌∙◌, arith}
use Rattle.std.specs.Prelude.{fold}
use Rattle.std.specs.List.{flat_map}
use Rattle.std.proofs.lemmas.List.{take_all}
use Rattle.rsvp_base.specs.Orders.{Names}
use Rattle.rsvp_base.specs.Table.{keys}
use Rattle.router_aging.specs.Telling.{offer_by, told_again}
use Rattle.router_aging.proofs.telling.tell_session.Goals as goal

pub returns : goal.returns
returns g c =
    c.loop-i.invariant
    ∙ ap (λ xs. fold g.O.Outbox.posted c.args.out.now (flat_map (λ x. told_again c.args.config.now (c.args.session, x) (offer_by c.args.senders.now c.args.paths.now.facts (c.args.session, x))) xs))
    (take_all c.loop-i.i c.as_slice-list.result.now (omega (arith, c.loop-i-test.false)) ∙ c.as_slice-list.ensures.senders ∙ ap (λ (m : Names). keys m) c.of-known.ensures.names)
