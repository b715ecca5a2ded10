use Rattle.std.proofs.Common.{Some, subst, ◌∙◌}
use Rattle.std.specs.Io.KnownBytes.{Appends}
use Rattle.script_run.specs.Standing.{IsNetworkOf}
use Rattle.grown_player.proofs.Ended.{done}
use Rattle.grown_player.proofs.Grown.{network_of}
use Rattle.grown_player.proofs.running.run_grown.Goals as goal

pub returns-in-Ok-write_all-clause-run : goal.returns-in-Ok-write_all-clause-run
returns-in-Ok-write_all-clause-run g c =
    let see = g.R.Router.seen in
    done (λ p. IsNetworkOf see (Some c.in-Ok.world) p) c.args.seed (g.K.Sink.holds c.args.sink.now) (g.K.Sink.holds c.write_all.new.sink) c.as_slice.result.now c.in-Ok.ensures.roomy
    (c.as_slice.ensures.value ∙ c.in-Ok.ensures.text)
    (network_of see c.args.seed c.in-Ok.world c.in-Ok.ensures.stands) c.in-Ok-write_all.ensures.written
