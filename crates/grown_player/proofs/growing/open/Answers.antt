use Rattle.std.proofs.Common.{refl}
use Rattle.grown_player.proofs.Grown.{opened_ok}
use Rattle.grown_player.proofs.growing.open.Goals as goal

pub returns : goal.returns
returns g c =
    opened_ok g.R.Router.seen c.args.seed c.open.result _ c.args.routing c.args.names.items c.in_ok-nodes.nodes.items c.requires.routing c.requires.names refl c.open.ensures.state
    c.open.ensures.first c.in_ok-nodes.ensures.first
