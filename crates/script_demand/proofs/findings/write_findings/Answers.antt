use Rattle.std.proofs.Common.{rules, ◌≡◌, ◌≤◌, ℕ, List, length, sym, subst, ◌∙◌}
use Rattle.std.specs.Io.KnownBytes.{Consumes}
use Rattle.byte_streams.specs.Faults.{Rose}
use Rattle.byte_streams.specs.Reading.{most_bytes}
use Rattle.script_grammar.specs.Grammar.{IsBadLine}
use Rattle.script_run.specs.Advised.{IsAdvised}
use Rattle.script_run.specs.declared.ending.Ending.{Ending}
use Rattle.script_demand.specs.Answering.{IsAnswering}
use Rattle.script_demand.specs.Demanding.{DemandsTo}
use Rattle.script_demand.proofs.Answering.{all_taken, can_take_all, nothing_answered}
use Rattle.script_demand.proofs.Coming.{comes_to}
use Rattle.script_demand.specs.Findings.{IsFindingOf, IsSaidOf}
use Rattle.script_demand.proofs.ComingNoted.{all_at_end}
use Rattle.script_demand.proofs.findings.write_findings.Goals as goal

pub returns-in-Err-clause-found : goal.returns-in-Err-clause-found
returns-in-Err-clause-found g c =
    subst (λ (e : Ending). IsAnswering (IsSaidOf c.silent.result.said) IsBadLine e (g.S.Source.left c.args.source.now) (g.S.Source.left c.args.source.now) (g.K.Sink.holds c.args.sink.now)
    (g.K.Sink.holds c.args.sink.now)) (sym c.silent.ensures)
    (nothing_answered (IsSaidOf c.silent.result.said) IsBadLine (g.S.Source.left c.args.source.now) (g.K.Sink.holds c.args.sink.now))

pub returns-in-Ok-read_all-clause-found : goal.returns-in-Ok-read_all-clause-found
returns-in-Ok-read_all-clause-found g c =
    let input = c.as_slice.result.now in
    let said = c.answer.result.said in
    let ending = c.answer.result.ending in
    let old = g.S.Source.left c.args.source.now in
    let new = g.S.Source.left c.read_all.new.source in
    let before = g.K.Sink.holds c.args.sink.now in
    let after = g.K.Sink.holds c.answer.new.sink in
    let few : length input ≤ most_bytes = search rules in
    record {
      taken = input;
      took = subst (λ (xs : List ℕ). Consumes old new xs) (sym c.as_slice.ensures.value) c.in-Ok-read_all.ensures.read.0;
      counted = can_take_all ending (length input) few;
      wrote = subst (λ (xs : List ℕ). IsFindingOf said ending xs input before after) (all_at_end new input c.in-Ok-read_all.ensures.end) c.answer.ensures.found;
    }

pub returns-in-Ok-read_all-clause-complete : goal.returns-in-Ok-read_all-clause-complete
returns-in-Ok-read_all-clause-complete g c = λ bytes wanted known comes calm quiet.
    let input = c.as_slice.result.now in
    let all : bytes ≡ input = all_taken _ _ _ bytes c.in-Ok-read_all.ensures.read.0 c.in-Ok-read_all.ensures.end known ∙ sym c.as_slice.ensures.value in
    let few : length input ≤ most_bytes = search rules in
    comes_to input wanted c.answer.result.ending (Rose (g.K.Sink.faults c.args.sink.now) (g.K.Sink.faults c.answer.new.sink)) few c.answer.ensures.complete c.answer.ensures.refused
    (subst (DemandsTo wanted) all comes) quiet

pub returns-in-Ok-read_all-clause-advised : goal.returns-in-Ok-read_all-clause-advised
returns-in-Ok-read_all-clause-advised g c = λ bytes known.
    let input = c.as_slice.result.now in
    let all : bytes ≡ input = all_taken _ _ _ bytes c.in-Ok-read_all.ensures.read.0 c.in-Ok-read_all.ensures.end known ∙ sym c.as_slice.ensures.value in
    subst (λ b. IsAdvised c.answer.result.ending b c.answer.new.advice.items) (sym all) c.answer.ensures.advised
