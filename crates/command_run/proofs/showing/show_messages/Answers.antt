use Rattle.std.proofs.Common.{refl, sym, ap, subst, ◌∙◌}
use Rattle.command_run.specs.Commands.{Shown}
use Rattle.command_run.specs.Ran.{device, ran}
use Rattle.command_run.specs.Statuses.{status_of}
use Rattle.command_run.proofs.showing.show_messages.Goals as goal

pub returns-clause-shown : goal.returns-clause-shown
returns-clause-shown g c =
    let e = c.write_shown-ending in
    let source = device g.S.Source.left g.S.Source.faults c.args.source.now e.new.source in
    let sink = device g.K.Sink.holds g.K.Sink.faults c.args.sink.now e.new.sink in
    subst (λ s. Shown (ran s source sink e.new.advice.items)) (sym c.status_of.ensures) (record {
      ending = (
        e.result,
        refl,
        e.ensures.shown,
      );
      advised = e.ensures.advised;
      complete = e.ensures.complete;
    })

pub returns-clause-no_read_fault : goal.returns-clause-no_read_fault
returns-clause-no_read_fault g c = λ other. c.write_shown-ending.ensures.no_read_fault (λ is. other (c.status_of.ensures ∙ ap status_of is))

pub returns-clause-no_write_fault : goal.returns-clause-no_write_fault
returns-clause-no_write_fault g c = λ other. c.write_shown-ending.ensures.no_write_fault (λ is. other (c.status_of.ensures ∙ ap status_of is))
