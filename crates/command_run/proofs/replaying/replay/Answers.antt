use Rattle.std.proofs.Common.{sym, ap, subst, ◌∙◌}
use Rattle.command_run.specs.Commands.{Replayed}
use Rattle.command_run.specs.Ran.{device, ran}
use Rattle.command_run.specs.Statuses.{status_of}
use Rattle.command_run.proofs.Replays.{replayed_so}
use Rattle.command_run.proofs.Shown.{shown_replayed}
use Rattle.command_run.proofs.replaying.replay.Goals as goal

pub returns-clause-replayed : goal.returns-clause-replayed
returns-clause-replayed g c =
    let e = c.run_script-ending in
    let see = g.R.Router.seen in
    let source = device g.S.Source.left g.S.Source.faults c.args.source.now e.new.source in
    let sink = device g.K.Sink.holds g.K.Sink.faults c.args.sink.now e.new.sink in
    subst (λ s. Replayed see e.new.last (ran s source sink e.new.advice.items)) (sym c.status_of.ensures)
    (replayed_so see e.new.last e.result source sink e.new.advice.items e.ensures.run e.ensures.empty e.ensures.advised e.ensures.complete)

pub returns-clause-told : goal.returns-clause-told
returns-clause-told g c = λ done.
    let e = c.run_script-ending in
    shown_replayed g.W.Watch.saw c.args.watch.now e.new.watch e.result (g.S.Source.left c.args.source.now) (g.S.Source.left e.new.source) (g.K.Sink.holds c.args.sink.now)
    (g.K.Sink.holds e.new.sink) e.ensures.told (sym c.status_of.ensures ∙ done)

pub returns-clause-no_read_fault : goal.returns-clause-no_read_fault
returns-clause-no_read_fault g c = λ other. c.run_script-ending.ensures.no_read_fault (λ is. other (c.status_of.ensures ∙ ap status_of is))

pub returns-clause-no_write_fault : goal.returns-clause-no_write_fault
returns-clause-no_write_fault g c = λ other. c.run_script-ending.ensures.no_write_fault (λ is. other (c.status_of.ensures ∙ ap status_of is))
