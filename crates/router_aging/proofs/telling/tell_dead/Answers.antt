use Rattle.std.proofs.Common.{ap, sym, ◌∙◌, arith}
use Rattle.std.specs.Prelude.{fold}
use Rattle.std.specs.List.{flat_map}
use Rattle.std.proofs.lemmas.List.{take_all}
use Rattle.rsvp_base.proofs.Filters.{flat_each}
use Rattle.router_aging.specs.Passing.{dead_key}
use Rattle.router_aging.specs.Telling.{gone_by}
use Rattle.router_aging.proofs.Offers.{gone_same}
use Rattle.router_aging.proofs.telling.tell_dead.Goals as goal

pub returns : goal.returns
returns g c = λ f h own there gone.
    c.loop-i.invariant
    ∙ ap (λ ds. fold g.O.Outbox.posted c.args.out.now (flat_map (λ d. gone_by c.args.config.now c.args.senders.now.tspecs (dead_key d)) ds))
    (take_all c.loop-i.i c.as_slice-list.result.now (omega (arith, c.loop-i-test.false)))
    ∙ ap (fold g.O.Outbox.posted c.args.out.now) (sym (flat_each dead_key (gone_by c.args.config.now c.args.senders.now.tspecs) c.as_slice-list.result.now)
    ∙ ap (flat_map (gone_by c.args.config.now c.args.senders.now.tspecs)) c.as_slice-list.ensures.keys)
    ∙ ap (fold g.O.Outbox.posted c.args.out.now) (gone_same c.args.config.now f h c.args.senders.now.tspecs own c.args.dead.now there gone)
