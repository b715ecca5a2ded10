use Rattle.std.proofs.Common.{sym, ap, subst, ◌∙◌}
use Rattle.script_run.specs.Standing.{IsNetworkOf}
use Rattle.command_run.specs.Commands.{Grown}
use Rattle.command_run.specs.Ran.{device}
use Rattle.command_run.specs.Statuses.{status_of}
use Rattle.command_run.proofs.Grown.{grown_so, never_crowds, never_reads}
use Rattle.command_run.proofs.Shown.{is_done}
use Rattle.command_run.proofs.growing.grow.Goals as goal

pub returns-clause-grown : goal.returns-clause-grown
returns-clause-grown g c =
    let e = c.run_grown-ending in
    let see = g.R.Router.seen in
    let sink = device g.K.Sink.holds g.K.Sink.faults c.args.sink.now e.new.sink in
    subst (λ s. Grown see e.new.last c.args.seed s sink) (sym c.status_of.ensures)
    (grown_so see e.new.last e.result c.args.seed sink e.ensures.run e.ensures.empty e.ensures.complete)

pub returns-clause-read_fault : goal.returns-clause-read_fault
returns-clause-read_fault g c = λ is.
    never_reads (λ p. IsNetworkOf g.R.Router.seen c.run_grown-ending.new.last p) c.run_grown-ending.result c.args.seed (g.K.Sink.holds c.args.sink.now)
    (g.K.Sink.holds c.run_grown-ending.new.sink) c.run_grown-ending.ensures.run (sym c.status_of.ensures ∙ is)

pub returns-clause-told : goal.returns-clause-told
returns-clause-told g c = λ done. c.run_grown-ending.ensures.told (is_done c.run_grown-ending.result (sym c.status_of.ensures ∙ done))

pub returns-clause-no_write_fault : goal.returns-clause-no_write_fault
returns-clause-no_write_fault g c = λ other. c.run_grown-ending.ensures.no_write_fault (λ is. other (c.status_of.ensures ∙ ap status_of is))

pub returns-clause-crowded : goal.returns-clause-crowded
returns-clause-crowded g c = λ is.
    never_crowds (λ p. IsNetworkOf g.R.Router.seen c.run_grown-ending.new.last p) c.run_grown-ending.result c.args.seed (g.K.Sink.holds c.args.sink.now)
    (g.K.Sink.holds c.run_grown-ending.new.sink) c.run_grown-ending.ensures.run (sym c.status_of.ensures ∙ is)
