use Rattle.router_rules.specs.Inputs.{Wait}
use Rattle.node_stream.proofs.Doing.{has_done}
use Rattle.node_stream.proofs.acting.wait.Goals as goal

pub returns-clause-done : goal.returns-clause-done
returns-clause-done g c = λ t within.
    has_done g.R.Router.seen c.args.router.now c.wait.new.self c.args.limits (Wait c.args.ms c.args.word) c.args.out.now c.wait.new.out c.requires.limits c.wait.ensures.place c.requires.short tt c.requires.empty t
    (c.wait.ensures.facts t) (c.wait.ensures.sent t) within
