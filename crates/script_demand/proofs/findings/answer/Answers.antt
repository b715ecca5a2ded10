use Rattle.std.proofs.Common.{Bool, List, ℕ, sym, subst}
use Rattle.script_demand.proofs.Answering.{written_quiet, written_so}
use Rattle.script_demand.proofs.Coming.{stopped_bad, stopped_script}
use Rattle.script_grammar.specs.Grammar.{IsBadLine}
use Rattle.script_run.specs.Endings.{IsOrNoMemory}
use Rattle.script_run.specs.declared.ending.Ending.TheVariants.{BadLine, Done}
use Rattle.script_demand.specs.Findings.{IsSaidOf}
use Rattle.script_demand.proofs.ComingNoted.{found_or_bad}
use Rattle.script_demand.proofs.findings.answer.Goals as goal

pub returns-in-Ok-clause-found : goal.returns-in-Ok-clause-found
returns-in-Ok-clause-found g c =
    let input = c.args.input.now in
    let w = c.say.ensures in
    written_so (IsSaidOf c.say.result.said) IsBadLine c.say.result.ending input c.as_slice.result.now (g.K.Sink.holds c.args.sink.now) (g.K.Sink.holds c.say.new.sink)
    (subst (λ (b : Bool). IsSaidOf b input c.as_slice.result.now) (sym w.said) (subst (λ (t : List ℕ). IsSaidOf c.in-Ok.saying.said input t) (sym c.as_slice.ensures.value) c.in-Ok.ensures.found)) w.others w.done w.front

pub returns-in-Ok-clause-refused : goal.returns-in-Ok-clause-refused
returns-in-Ok-clause-refused g c = λ number why bad. absurd (found_or_bad c.args.input.now c.in-Ok.saying.text.items number why c.in-Ok.ensures.found.found bad)

pub returns-in-Ok-clause-advised : goal.returns-in-Ok-clause-advised
returns-in-Ok-clause-advised g c = written_quiet c.say.result.ending c.args.input.now c.findings_of.new.advice.items c.say.ensures.others c.in-Ok.ensures.quiet

pub returns-in-Err-clause-complete : goal.returns-in-Err-clause-complete
returns-in-Err-clause-complete g c = λ p is calm. subst (IsOrNoMemory Done) (sym c.silent.ensures) (stopped_script c.args.input.now p c.in-Err.ending Done c.in-Err.ensures.stopped is)

pub returns-in-Err-clause-refused : goal.returns-in-Err-clause-refused
returns-in-Err-clause-refused g c = λ number why bad. subst (IsOrNoMemory (BadLine number why)) (sym c.silent.ensures) (stopped_bad c.args.input.now number why c.in-Err.ending c.in-Err.ensures.stopped bad)
