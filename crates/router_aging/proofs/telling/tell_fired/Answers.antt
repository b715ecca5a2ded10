use Rattle.std.proofs.Common.{ap, ◌∙◌, arith}
use Rattle.std.specs.Prelude.{fold}
use Rattle.std.specs.List.{flat_map}
use Rattle.std.proofs.lemmas.List.{take_all}
use Rattle.rsvp_base.specs.Table.{keys}
use Rattle.router_aging.specs.Telling.{refreshed_by}
use Rattle.router_aging.proofs.Offers.{refreshed_same, told_more}
use Rattle.router_aging.proofs.telling.tell_fired.Goals as goal

pub loop-i-preserved : goal.loop-i-preserved
loop-i-preserved g c =
    c.tell_session.ensures
    ∙ told_more g.O.Outbox.posted
    (refreshed_by c.args.config.now c.args.senders.now c.args.paths.now.facts) c.args.out.now c.loop-i.out c.as_slice-list.result.now c.loop-i.i _ c.loop-i-test.true c.loop-i.invariant

pub returns : goal.returns
returns g c = λ clock n place own paths.
    c.loop-i.invariant
    ∙ ap (λ ss. fold g.O.Outbox.posted c.args.out.now (flat_map (refreshed_by c.args.config.now c.args.senders.now c.args.paths.now.facts) ss))
    (take_all c.loop-i.i c.as_slice-list.result.now (omega (arith, c.loop-i-test.false)) ∙ c.as_slice-list.ensures.sessions)
    ∙ (λ i. fold g.O.Outbox.posted c.args.out.now (flat_map (λ s. refreshed_same clock n place own paths s i) (keys c.args.fired.now)))
