use Rattle.std.proofs.Common.{[], ◌∷◌}
use Rattle.network_flight.specs.Steps.{Piece, step}
use Rattle.network_replay.proofs.Shown.{then_agrees}
use Rattle.network_replay.proofs.world.World.piece.Goals as goal

pub returns-clause-told : goal.returns-clause-told
returns-clause-told g c = λ q w agrees.
    let ms = c.args.ms in
    let are =
    then_agrees g.R.Router.seen q c.args.self.now.names c.pass_time-ran.result [] [] c.pass_time-ran.new.self (Piece ms ∷ []) w (c.pass_time-ran.ensures.made [] q w agrees) in
    c.show_waited.ensures q (step q (Piece ms) w) are
