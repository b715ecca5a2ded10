use Rattle.network_model.specs.Happenings.{event_with}
use Rattle.script_run.proofs.Ran.{had_runs_on}
use Rattle.script_run.proofs.Shown.{told_behind}
use Rattle.script_run.proofs.event_run.run_event.Goals as goal

pub returns-clause-runs : goal.returns-clause-runs
returns-clause-runs g c = λ p a read stands roomy.
    had_runs_on g.R.Router.seen c.args.world.now c.event.new.self p a c.args.event.now c.event.result c.args.out.now.items c.event.new.out.items stands roomy c.event.ensures.names
    (c.event.ensures.made a read stands.agrees.going) c.event.ensures.only

pub returns-clause-told : goal.returns-clause-told
returns-clause-told g c = λ p a read stands.
    told_behind g.R.Router.seen g.W.Watch.saw c.args.world.now c.event.result c.args.watch.now c.event.new.watch p (event_with a c.args.event.now) stands
    (c.event.ensures.told a read stands.agrees.going)
