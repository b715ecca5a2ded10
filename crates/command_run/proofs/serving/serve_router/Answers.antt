use Rattle.std.proofs.Common.{refl, sym, ap, subst, inl, inr, ◌∙◌}
use Rattle.node_stream.specs.Endings.{IsOrNoMemory as IsOrOut}
use Rattle.node_stream.specs.declared.ending.Ending.{Ending}
use Rattle.command_run.specs.Ran.{device, ran}
use Rattle.command_run.specs.Serving.{Served, serve_status}
use Rattle.command_run.specs.Statuses.{IsOrNoMemory}
use Rattle.command_run.proofs.serving.serve_router.Goals as goal

or_out : (wanted got : Ending) → IsOrOut wanted got → IsOrNoMemory (serve_status wanted) (serve_status got)
or_out wanted got h = elim h [
  | inl e ↦ inl (ap serve_status e)
  | inr e ↦ inr (ap serve_status e)
]

pub returns-clause-served : goal.returns-clause-served
returns-clause-served g c =
    let e = c.serve-ending in
    let source = device g.S.Source.left g.S.Source.faults c.args.source.now e.new.source in
    let sink = device g.K.Sink.holds g.K.Sink.faults c.args.sink.now e.new.sink in
    subst (λ s. Served (ran s source sink e.new.advice.items)) (sym c.serve_status.ensures) (record {
      how = e.result;
      status = refl;
      ending = e.ensures.served;
      advised = e.ensures.advised;
      complete = λ bytes text wanted known few comes no_read no_write. or_out wanted e.result (e.ensures.complete bytes text wanted known few comes no_read no_write);
    })

pub returns-clause-no_read_fault : goal.returns-clause-no_read_fault
returns-clause-no_read_fault g c = λ other. c.serve-ending.ensures.no_read_fault (λ is. other (c.serve_status.ensures ∙ ap serve_status is))

pub returns-clause-no_write_fault : goal.returns-clause-no_write_fault
returns-clause-no_write_fault g c = λ other. c.serve-ending.ensures.no_write_fault (λ is. other (c.serve_status.ensures ∙ ap serve_status is))
