use Rattle.std.proofs.Common.{refl, sym, ap, subst, inl, inr, ◌∙◌}
use Rattle.load_policer.specs.Endings.{IsOrNoMemory as IsOrOut}
use Rattle.load_policer.specs.declared.ending.Ending.{Ending}
use Rattle.command_run.specs.Policing.{Policed, police_status}
use Rattle.command_run.specs.Ran.{device, ran}
use Rattle.command_run.specs.Statuses.{IsOrNoMemory}
use Rattle.command_run.proofs.policing.police_packets.Goals as goal

or_out : (wanted got : Ending) → IsOrOut wanted got → IsOrNoMemory (police_status wanted) (police_status got)
or_out wanted got h = elim h [
  | inl e ↦ inl (ap police_status e)
  | inr e ↦ inr (ap police_status e)
]

pub returns-clause-policed : goal.returns-clause-policed
returns-clause-policed g c =
    let e = c.police-ending in
    let source = device g.S.Source.left g.S.Source.faults c.args.source.now e.new.source in
    let sink = device g.K.Sink.holds g.K.Sink.faults c.args.sink.now e.new.sink in
    subst (λ s. Policed (ran s source sink e.new.advice.items)) (sym c.police_status.ensures) (record {
      how = e.result;
      status = refl;
      ending = e.ensures.policed;
      advised = e.ensures.advised;
      complete = λ bytes text wanted known few comes no_read no_write. or_out wanted e.result (e.ensures.complete bytes text wanted known few comes no_read no_write);
    })

pub returns-clause-no_read_fault : goal.returns-clause-no_read_fault
returns-clause-no_read_fault g c = λ other. c.police-ending.ensures.no_read_fault (λ is. other (c.police_status.ensures ∙ ap police_status is))

pub returns-clause-no_write_fault : goal.returns-clause-no_write_fault
returns-clause-no_write_fault g c = λ other. c.police-ending.ensures.no_write_fault (λ is. other (c.police_status.ensures ∙ ap police_status is))
