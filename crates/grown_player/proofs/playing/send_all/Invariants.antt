use Rattle.std.proofs.Common.{drop}
use Rattle.std.specs.Prelude.{map as each}
use Rattle.network_model.specs.Runs.{Plan}
use Rattle.grown_network.specs.Grown.{send_event}
use Rattle.grown_player.specs.Playing.{IsPlayed}
use Rattle.grown_player.proofs.Played.{IsHalfway}
use Rattle.grown_player.proofs.playing.send_all.Given as goal

-- the events of the first were played, and those of the others are left
abbrev pub invariant-loop-sender : goal.invariant-loop-sender
invariant-loop-sender g l =
    let see = g.R.Router.seen in
    (p : Plan) → IsPlayed see p l.initial.world l.initial.out.items → IsHalfway see p (each send_event l.senders) (each send_event (drop l.sender-index l.senders)) l.world l.out.items
