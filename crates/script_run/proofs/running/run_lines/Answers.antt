use Rattle.script_run.proofs.Coming.{comes_to}
use Rattle.script_run.proofs.Shown.{BothStand}
use Rattle.script_run.proofs.running.run_lines.Goals as goal

pub returns-clause-complete : goal.returns-clause-complete
returns-clause-complete g c = λ bytes text wanted known le comes no_read no_write.
    let e = c.run_to_end.ensures in
    let stands = BothStand g.P.Player.stands g.W.Watch.saw c.args.watch.now (c.run_to_end.new.player, c.run_to_end.new.watch) in
    comes_to stands c.run_to_end.result wanted (g.S.Source.left c.args.source.now) (g.S.Source.left c.run_to_end.new.source) (g.K.Sink.holds c.args.sink.now)
    (g.K.Sink.holds c.run_to_end.new.sink) bytes text e.run known le comes
    (λ r. no_read (e.read_fault r)) (λ w. no_write (e.write_fault w))
