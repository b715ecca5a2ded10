use Rattle.std.proofs.Common.{sym, ap, subst, ◌∙◌}
use Rattle.command_run.specs.Commands.{Demanded}
use Rattle.command_run.specs.Ran.{device, ran}
use Rattle.command_run.specs.Statuses.{status_of}
use Rattle.command_run.proofs.Answering.{demanded_so}
use Rattle.command_run.proofs.demanding.demand.Goals as goal

pub returns-clause-demanded : goal.returns-clause-demanded
returns-clause-demanded g c =
    let e = c.write_demand-ending in
    let source = device g.S.Source.left g.S.Source.faults c.args.source.now e.new.source in
    let sink = device g.K.Sink.holds g.K.Sink.faults c.args.sink.now e.new.sink in
    subst (λ s. Demanded (ran s source sink e.new.advice.items)) (sym c.status_of.ensures) (demanded_so e.result source sink e.new.advice.items e.ensures.demanded e.ensures.advised e.ensures.complete)

pub returns-clause-no_read_fault : goal.returns-clause-no_read_fault
returns-clause-no_read_fault g c = λ other. c.write_demand-ending.ensures.no_read_fault (λ is. other (c.status_of.ensures ∙ ap status_of is))

pub returns-clause-no_write_fault : goal.returns-clause-no_write_fault
returns-clause-no_write_fault g c = λ other. c.write_demand-ending.ensures.no_write_fault (λ is. other (c.status_of.ensures ∙ ap status_of is))
