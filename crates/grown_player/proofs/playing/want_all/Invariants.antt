use Rattle.std.proofs.Common.{drop}
use Rattle.std.specs.Prelude.{map as each}
use Rattle.network_model.specs.Runs.{Plan}
use Rattle.grown_network.specs.Grown.{want_event}
use Rattle.grown_player.specs.Playing.{IsPlayed}
use Rattle.grown_player.proofs.Played.{IsHalfway}
use Rattle.grown_player.proofs.playing.want_all.Given as goal

-- the events of the first were played, and those of the others are left
abbrev pub invariant-loop-wanted : goal.invariant-loop-wanted
invariant-loop-wanted g l =
    let see = g.R.Router.seen in
    (p : Plan) → IsPlayed see p l.initial.world l.initial.out.items → IsHalfway see p (each want_event l.wants) (each want_event (drop l.wanted-index l.wants)) l.world l.out.items
