use Rattle.std.proofs.Common.{fold, ap, ◌∙◌}
use Rattle.router_rounds.proofs.Loops.{still_round}
use Rattle.router_rounds.proofs.rounds.refresh_session.Goals as goal

pub returns : goal.returns
returns g c = λ clock.
    c.refresh_lanes.ensures clock c.args.said.now ∙ ap (fold g.O.Outbox.posted c.args.out.now)
    (still_round c.args.tables.now c.args.said.now c.args.near.now.session c.requires.still clock c.args.near.now.hops c.requires.near)
