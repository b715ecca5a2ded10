use Rattle.std.proofs.Common.{fold, ap, ◌∙◌}
use Rattle.router_rounds.proofs.Loops.{still_near, torn_is}
use Rattle.router_rounds.proofs.rounds.tear_session.Goals as goal

pub returns-then-still : goal.returns-then-still
returns-then-still g c = λ clock.
    let near = c.args.near.now in
    ap (fold g.O.Outbox.posted c.args.out.now) (still_near c.args.tables.now c.args.said.now near.session (c.requires c.if-still.true) clock near.hops)

pub returns : goal.returns
returns g c = λ clock.
    let near = c.args.near.now in
    c.tear_lanes.ensures clock c.args.said.now ∙ ap (fold g.O.Outbox.posted c.args.out.now) (torn_is clock c.args.tables.now c.args.said.now near.session near.hops)
