use Rattle.rsvp_base.specs.Table.{keys}
use Rattle.laws_sends.specs.Before.{lanes_by}
use Rattle.router_rounds.proofs.Loops.{still_is_cleared}
use Rattle.router_rounds.proofs.rounds.clear_session.Goals as goal

pub returns-then-still : goal.returns-then-still
returns-then-still c = still_is_cleared c.args.tables.now c.args.said.now c.args.near.now.session (c.requires.still c.if-still.true) (lanes_by (keys c.args.near.now.hops)) c.requires.full
