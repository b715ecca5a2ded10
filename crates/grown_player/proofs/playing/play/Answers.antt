use Rattle.std.proofs.Common.{refl}
use Rattle.network_model.specs.Happenings.{event_with}
use Rattle.grown_player.specs.Playing.{no_bytes}
use Rattle.grown_player.proofs.Played.{one_played}
use Rattle.grown_player.proofs.playing.play.Goals as goal

pub unreachable-requires : goal.unreachable-requires
unreachable-requires g c = c.in-Err.ensures.tree refl (c.requires.still c.args.world.now.post.net)

pub returns-clause-runs : goal.returns-clause-runs
returns-clause-runs g c = λ p played.
    one_played g.R.Router.seen c.args.world.now c.run_event.new.world p (event_with no_bytes c.args.event.now) c.in-Ok.ran c.args.out.now.items c.run_event.new.out.items played
    (c.in-Ok.ensures.runs p no_bytes c.requires.read played.stands played.roomy)

pub returns-clause-told : goal.returns-clause-told
returns-clause-told g c = λ p played. c.in-Ok.ensures.told p no_bytes c.requires.read played.stands
