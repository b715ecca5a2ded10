use Rattle.std.proofs.Common.{rules, ◌≡◌, ◌≤◌, length, sym, subst, ◌∙◌}
use Rattle.byte_streams.specs.Faults.{Rose}
use Rattle.byte_streams.specs.Reading.{most_bytes}
use Rattle.script_grammar.specs.Grammar.{IsBadLine}
use Rattle.script_run.specs.Advised.{IsAdvised}
use Rattle.script_demand.specs.Demanding.{DemandsTo, IsDemandOf}
use Rattle.script_demand.proofs.Answering.{all_taken, nothing_answered}
use Rattle.script_demand.proofs.Coming.{comes_to}
use Rattle.script_demand.proofs.demanding.write_demand.Goals as goal

pub returns-in-Err-clause-demanded : goal.returns-in-Err-clause-demanded
returns-in-Err-clause-demanded g c = nothing_answered IsDemandOf IsBadLine (g.S.Source.left c.args.source.now) (g.K.Sink.holds c.args.sink.now)

pub returns-in-Ok-read_all-clause-complete : goal.returns-in-Ok-read_all-clause-complete
returns-in-Ok-read_all-clause-complete g c = λ bytes wanted known comes calm quiet.
    let input = c.as_slice.result.now in
    let all : bytes ≡ input = all_taken _ _ _ bytes c.in-Ok-read_all.ensures.read.0 c.in-Ok-read_all.ensures.end known ∙ sym c.as_slice.ensures.value in
    let few : length input ≤ most_bytes = search rules in
    comes_to input wanted c.answer.result (Rose (g.K.Sink.faults c.args.sink.now) (g.K.Sink.faults c.answer.new.sink)) few c.answer.ensures.complete c.answer.ensures.refused
    (subst (DemandsTo wanted) all comes) quiet

pub returns-in-Ok-read_all-clause-advised : goal.returns-in-Ok-read_all-clause-advised
returns-in-Ok-read_all-clause-advised g c = λ bytes known.
    let input = c.as_slice.result.now in
    let all : bytes ≡ input = all_taken _ _ _ bytes c.in-Ok-read_all.ensures.read.0 c.in-Ok-read_all.ensures.end known ∙ sym c.as_slice.ensures.value in
    subst (λ b. IsAdvised c.answer.result b c.answer.new.advice.items) (sym all) c.answer.ensures.advised
