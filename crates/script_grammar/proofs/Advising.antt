-- What is written of what is to blame is advice on the line.
use Rattle.std.proofs.Common.{◌≡◌, ℕ, ◌<◌, List, [], None, length, refl, inl}
use Rattle.line_advice.specs.Blamed.{blamed_line}
use Rattle.script_grammar.specs.Draft.{Draft}
use Rattle.script_grammar.specs.Grammar.{most_line}
use Rattle.script_grammar.specs.declared.fault.Fault.{Fault}
use Rattle.script_grammar.specs.Advice.{IsAdvice, advice_text, wanted_text}
use Rattle.script_grammar.specs.Blames.{IsBlamed}
use Rattle.script_grammar.specs.declared.blame.Blame.{Blame}
use Rattle.script_grammar.specs.declared.blame.Blame.TheVariants.{Long}

pub advice_so : (d : Draft) (line : List ℕ) (why : Fault) (blame : Blame) (text : List ℕ) → IsBlamed d line why blame → text ≡ advice_text line blame → IsAdvice d line why text
advice_so d line why blame text blamed told = record { blame = blame; blamed = blamed; told = told }

-- of a line that is too long, whatever it is
pub long_so : (text : List ℕ) → text ≡ blamed_line [] None (wanted_text Long) → (d : Draft) (line : List ℕ) (why : Fault) → most_line < length line → IsAdvice d line why text
long_so text put = λ d line why long. record { blame = Long; blamed = inl (long, refl); told = put }
