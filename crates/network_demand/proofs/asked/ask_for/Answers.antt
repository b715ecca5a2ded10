use Rattle.std.proofs.Common.{◌∙◌, ap, sym}
use Rattle.std.specs.Ordering.{eq_by_cmp}
use Rattle.rsvp_base.specs.Orders.{styles}
use Rattle.network_demand.proofs.Pools.{on_ok, asked_more}
use Rattle.network_demand.proofs.asked.ask_for.Goals as goal

pub returns-then-is_style-clause-asked : goal.returns-then-is_style-clause-asked
returns-then-is_style-clause-asked g c =
    on_ok c.ask.result
    (λ e n rest. asked_more g.S.Style.kind_is c.args.session c.args.all.now c.args.want.now c.args.asked.now.items c.ask.new.asked.items c.widened.result c.requires c.widened.ensures
    (sym c.is_session.ensures ∙ c.if-is_session.true) (ap (λ k. eq_by_cmp styles.cmp k c.args.want.now.style) (sym c.kind.ensures) ∙ sym c.is_style.ensures ∙ c.if-is_style.true) e n rest)
    c.ask.ensures
