use Rattle.std.proofs.Common.{ℕ, List, subst}
use Rattle.std.specs.Prelude.{IfErr}
use Rattle.node_stream.proofs.Texts.{then_ok}
use Rattle.node_stream.specs.Frames.{contents_in}
use Rattle.node_stream.specs.States.{stand}
use Rattle.node_stream.specs.Stops.{IsStopped}
use Rattle.node_stream.proofs.Opening.{served_by}
use Rattle.node_stream.proofs.acting.serve_frame.Goals as goal

pub returns-clause-served : goal.returns-clause-served
returns-clause-served g c = λ t sound.
    let s = c.serve_contents in
    then_ok s.result
    (served_by g.R.Router.seen c.args.router.now s.new.router s.new.limits t s.new.out c.args.frame.now c.requires.whole c.kind_of.result c.contents_of.result.now c.kind_of.ensures c.contents_of.ensures)
    (s.ensures.served t sound)

pub returns-clause-stopped : goal.returns-clause-stopped
returns-clause-stopped g c = λ t.
    let s = c.serve_contents in
    let st = stand g.R.Router.seen c.args.router.now t in
    subst (λ (k : ℕ). IfErr s.result (IsStopped st k (contents_in c.args.frame.now))) c.kind_of.ensures
    (subst (λ (xs : List ℕ). IfErr s.result (IsStopped st c.kind_of.result xs)) c.contents_of.ensures (s.ensures.stopped t))
