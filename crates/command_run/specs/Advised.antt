-- The advice on the line by which a run ended as bad, or crowded.
use Rattle.std.specs.Prelude.{◌≡◌, ℕ, List, []}
use Rattle.script_grammar.specs.Advice.{IsToldLine}
use Rattle.message_show.specs.ShowAdvice.{IsToldDigits}
use Rattle.script_grammar.specs.declared.fault.Fault.{Fault}
use Rattle.script_run.specs.Advised.{IsCrowdedAdvice}
use Rattle.script_words.specs.declared.fault.LineErr.{LineErr}
use Rattle.command_run.specs.Showing.{fault_of}
use Rattle.command_run.specs.declared.status.Status.{Status}
use Rattle.command_run.specs.declared.status.Status.TheVariants.{BadLine, Crowded}

-- what is wrong with the bad line of a script of these bytes, or by which line its run is crowded; else nothing
abbrev pub IsAdvised : Status → List ℕ → List ℕ → Type 0
IsAdvised (BadLine number why) bytes advice = IsToldLine number why bytes advice
IsAdvised Crowded bytes advice = IsCrowdedAdvice bytes advice
IsAdvised _ bytes advice = advice ≡ []

-- the line of this number of these lines of digits is the first bad one, with the advice on it
pub record IsShowAdvice (number : ℕ) (why : Fault) (bytes advice : List ℕ) : Type 0 where
  pub error : LineErr
  pub advised : IsToldDigits bytes advice error
  pub line_is : number ≡ error.line
  pub why_is : why ≡ fault_of error.why

abbrev pub IsShowAdvised : Status → List ℕ → List ℕ → Type 0
IsShowAdvised (BadLine number why) bytes advice = IsShowAdvice number why bytes advice
IsShowAdvised _ bytes advice = advice ≡ []
