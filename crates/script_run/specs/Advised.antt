-- What is told of the line by which a run ended as bad, or crowded.
use Rattle.std.specs.Prelude.{◌≡◌, ℕ, List, [], ◌++◌, codes, length}
use Rattle.std.specs.Fmt.{decimal}
use Rattle.script_grammar.specs.Draft.{Draft}
use Rattle.script_grammar.specs.Advice.{IsAdvice, IsToldLine}
use Rattle.script_grammar.specs.Grammar.{line_number}
use Rattle.script_run.specs.Endings.{IsFirstCrowded}
use Rattle.script_run.specs.Playing.{Stops}
use Rattle.script_run.specs.declared.ending.Ending.{Ending}
use Rattle.script_run.specs.declared.ending.Ending.TheVariants.{BadLine, Crowded}
use Rattle.script_grammar.specs.declared.stop.Stop.{Stop}
use Rattle.script_grammar.specs.declared.stop.Stop.TheVariants as stop

unfoldable pub crowded_words : List ℕ
crowded_words = codes ": by its event an 8193rd datagram would be in flight; pass, deliver and rounds let datagrams arrive"

-- by the line of this number the run is crowded
unfoldable pub crowded_text : ℕ → List ℕ
crowded_text number = codes "  line " ++ decimal number ++ crowded_words

-- the line of this number is the first by which the run of a script of these bytes is crowded
pub record IsCrowdedLine (number : ℕ) (bytes : List ℕ) : Type 0 where
  pub text : List ℕ
  pub first : IsFirstCrowded bytes text
  pub counted : number ≡ line_number (length first.before)

-- it is told by its number
abbrev pub IsCrowdedAdvice : List ℕ → List ℕ → Type 0
IsCrowdedAdvice bytes advice = (number : ℕ) × IsCrowdedLine number bytes × (advice ≡ crowded_text number)

-- what is wrong with the bad line of these bytes, or by which line their run is crowded; else nothing
abbrev pub IsAdvised : Ending → List ℕ → List ℕ → Type 0
IsAdvised (BadLine number why) bytes advice = IsToldLine number why bytes advice
IsAdvised Crowded bytes advice = IsCrowdedAdvice bytes advice
IsAdvised _ bytes advice = advice ≡ []

-- what is wrong with the line of this number, which was not run for this reason behind the lines of this draft
abbrev pub IsAdvisedAt : Draft → List ℕ → ℕ → Stop → List ℕ → Type 0
IsAdvisedAt draft line number (stop.Bad why) advice = IsAdvice draft line why advice
IsAdvisedAt draft line number stop.Crowded advice = advice ≡ crowded_text number
IsAdvisedAt draft line number _ advice = advice ≡ []

-- why the run ends at this line, and what is told: it is not run for this reason; or it is bad, and memory to tell it ran out
pub record EndsAt (draft : Draft) (line : List ℕ) (number : ℕ) (ends : Stop) (advice : List ℕ) : Type 0 where
  pub stops : Stops ends draft line
  pub advised : IsAdvisedAt draft line number ends advice
