use Rattle.std.proofs.Common.{sym, subst}
use Rattle.std.specs.Prelude.{IfErr}
use Rattle.node_stream.specs.States.{stand}
use Rattle.node_stream.specs.Stops.{IsStopped}
use Rattle.node_stream.proofs.acting.serve_contents.Goals as goal

pub returns-in-Some-clause-stopped : goal.returns-in-Some-clause-stopped
returns-in-Some-clause-stopped g c = λ t.
    subst (λ o. IfErr c.serve_open.result (IsStopped (stand g.R.Router.seen o t) c.args.kind c.args.contents.now)) (sym c.in-Some.is) (c.serve_open.ensures.stopped t)
