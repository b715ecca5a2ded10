use Rattle.rsvp_base.specs.Table.{keys}
use Rattle.rsvp_base.specs.declared.style.StyleKind.TheVariants.{Wild, Fixed, Shared}
use Rattle.router_state.specs.Whole.{state_of}
use Rattle.resv_sends.specs.Rounds.{lanes_of, renewed_by}
use Rattle.resv_sends.proofs.Listed.{three_said}
use Rattle.resv_sends.proofs.rounds.refresh_lanes.Goals as goal

pub returns : goal.returns
returns g c = λ clock any.
    three_said g.O.Outbox.posted c.args.out.now (renewed_by clock (state_of c.args.tables.now any) c.args.said.now c.args.session) (lanes_of Wild (keys c.args.hops.now))
    (lanes_of Fixed (keys c.args.hops.now)) (lanes_of Shared (keys c.args.hops.now))
    _ _ _ (c.refresh_style.ensures clock any) (c.refresh_style-2.ensures clock any) (c.refresh_style-3.ensures clock any)
