use Rattle.load_policer.proofs.Coming.{comes_to}
use Rattle.load_policer.proofs.policing.police.Goals as goal

pub returns-clause-complete : goal.returns-clause-complete
returns-clause-complete g c = λ bytes text wanted known le comes no_read no_write.
    let e = c.police_to_end.ensures in
    comes_to c.police_to_end.result wanted (g.S.Source.left c.args.source.now) (g.S.Source.left c.police_to_end.new.source) (g.K.Sink.holds c.args.sink.now)
    (g.K.Sink.holds c.police_to_end.new.sink) bytes text e.policed known le comes
    (λ r. no_read (e.read_fault r)) (λ w. no_write (e.write_fault w))
