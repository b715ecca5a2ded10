-- What is told of the line by which a run over known bytes ended as bad, or crowded.
use Rattle.std.proofs.Common.{◌≡◌, ℕ, ◌+◌, ◌-◌, ◌^◌, ◌<◌, min, List, [], ◌∷◌, ◌++◌, Option, Some, length, sym, ap, ◌∙◌, arith, length-append}
use Rattle.script_words.specs.Lines.{text_lines}
use Rattle.script_grammar.specs.Draft.{Draft}
use Rattle.script_grammar.specs.Grammar.{line_number, most_line, too_long}
use Rattle.script_grammar.specs.declared.fault.Fault.{Fault}
use Rattle.script_grammar.specs.declared.fault.Fault.TheVariants as fault
use Rattle.script_grammar.specs.Advice.{IsAdvice, IsToldLine}
use Rattle.byte_streams.specs.Streams.{Held}
use Rattle.byte_streams.proofs.Behind.{HasLine, HasLong}
use Rattle.byte_streams.proofs.Known.{all_known}
use Rattle.script_run.specs.Advised.{IsAdvised, IsAdvisedAt, IsCrowdedLine}
use Rattle.script_run.specs.Endings.{ending_at}
use Rattle.script_run.specs.Playing.{Stops}
use Rattle.script_grammar.specs.declared.stop.Stop.{Stop}
use Rattle.script_grammar.specs.declared.stop.Stop.TheVariants as stop
use Rattle.script_run.proofs.Ended.{Progress}

module _ {P : Type 0} (stands : P → Draft → Type 0) (old mid new first holds : Option (List ℕ)) (r now : Held) (player : P) (p : Progress stands old mid first holds r player) (bytes advice : List ℕ)
    (known : old ≡ Some bytes) where
  pub told_long : (number : ℕ) → HasLong old new now p.before → number ≡ now.number → ((d : Draft) (line : List ℕ) (why : Fault) → most_line < length line → IsAdvice d line why advice)
      → IsToldLine number fault.Limit bytes advice
  told_long number e same told =
      let all = all_known old new bytes e.taken known e.took in
      record {
        bad = record {
          before = p.before;
          text = e.line;
          after = e.at.after;
          parts = ap text_lines (sym all.0) ∙ e.at.parts;
          counted = same ∙ e.numbered;
          lines = p.draft;
          leads = p.leads;
          fault = too_long e.long;
        };
        told = told p.draft e.line fault.Limit e.long;
      }

  module _ (l : HasLine old new now p.before) (number : ℕ) (same : number ≡ now.number) where
    numbered : number ≡ line_number (length p.before)
    numbered =
        let one_more : length (p.before ++ now.line ∷ []) ≡ length p.before + 1 = omega (arith, length-append p.before (now.line ∷ [])) in
        same ∙ l.behind.numbered ∙ ap (λ n. min n (2 ^ 32 - 1)) one_more

    pub told_at : (s : Stop) → Stops s p.draft now.line → IsAdvisedAt p.draft now.line number s advice → IsAdvised (ending_at s number) bytes advice
    told_at (stop.Bad why) bad told =
        let all = all_known old new bytes l.taken known l.behind.took in
        record {
          bad = record {
            before = p.before;
            text = now.line;
            after = l.at.after;
            parts = ap text_lines (sym all.0) ∙ l.at.parts;
            counted = numbered;
            lines = p.draft;
            leads = p.leads;
            fault = bad;
          };
          told = told;
        }
    told_at stop.Crowded crowded told =
        let all = all_known old new bytes l.taken known l.behind.took in
        let line : IsCrowdedLine number bytes = record {
          text = p.text;
          first = record {
            before = p.before;
            line = now.line;
            after = l.at.after;
            parts = ap text_lines (sym all.0) ∙ l.at.parts;
            ran = record { draft = p.draft; leads = p.leads; run = p.run };
            holds = crowded;
          };
          counted = numbered;
        } in
        (number, line, told)
    told_at stop.NoMemory stops told = told
