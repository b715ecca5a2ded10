use Rattle.std.proofs.Common.{List, ℕ, sym, subst}
use Rattle.script_grammar.specs.Grammar.{IsBadLine}
use Rattle.script_demand.specs.Demanding.{IsDemandOf}
use Rattle.script_demand.proofs.Answering.{written_quiet, written_so}
use Rattle.script_demand.proofs.Coming.{demanded_or_bad, stopped_bad, stopped_script}
use Rattle.script_demand.proofs.demanding.answer.Goals as goal

pub returns-in-Ok-clause-demanded : goal.returns-in-Ok-clause-demanded
returns-in-Ok-clause-demanded g c =
    let input = c.args.input.now in
    let w = c.write_text.ensures in
    written_so IsDemandOf IsBadLine c.write_text.result input c.as_slice.result.now (g.K.Sink.holds c.args.sink.now) (g.K.Sink.holds c.write_text.new.sink)
    (subst (λ (t : List ℕ). IsDemandOf input t) (sym c.as_slice.ensures.value) c.in-Ok.ensures.demand) w.others w.done w.front

pub returns-in-Ok-clause-refused : goal.returns-in-Ok-clause-refused
returns-in-Ok-clause-refused g c = λ number why bad. absurd (demanded_or_bad c.args.input.now c.in-Ok.text.items number why c.in-Ok.ensures.demand bad)

pub returns-in-Err-clause-complete : goal.returns-in-Err-clause-complete
returns-in-Err-clause-complete g c = λ p is calm. stopped_script c.args.input.now p c.in-Err.ending _ c.in-Err.ensures.stopped is

pub returns-in-Err-clause-refused : goal.returns-in-Err-clause-refused
returns-in-Err-clause-refused g c = λ number why bad. stopped_bad c.args.input.now number why c.in-Err.ending c.in-Err.ensures.stopped bad

pub returns-in-Ok-clause-advised : goal.returns-in-Ok-clause-advised
returns-in-Ok-clause-advised g c = written_quiet c.write_text.result c.args.input.now c.demand_of.new.advice.items c.write_text.ensures.others c.in-Ok.ensures.quiet
