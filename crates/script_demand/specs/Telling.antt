-- How the checking of lines ends at a bad one, and what is told of it.
use Rattle.std.specs.Prelude.{◌≡◌, ℕ, List, []}
use Rattle.script_grammar.specs.Advice.{IsAdvice}
use Rattle.script_grammar.specs.Asking.{AsksToBeTaken}
use Rattle.script_grammar.specs.Draft.{Draft}
use Rattle.script_grammar.specs.Grammar.{HasFault}
use Rattle.script_grammar.specs.declared.fault.Fault.{Fault}
use Rattle.script_run.specs.declared.ending.Ending.{Ending}
use Rattle.script_run.specs.declared.ending.Ending.TheVariants.{BadLine, NoMemory}

-- at the line of this number, behind the lines of this draft: what is wrong with it is told; or memory to look at those ran out, and a
-- line with this fault asks for memory
abbrev pub EndsTold : Draft → List ℕ → ℕ → Fault → Ending → List ℕ → Type 0
EndsTold d line number why (BadLine n w) advice = (n ≡ number) × (w ≡ why) × IsAdvice d line why advice
EndsTold d line number why NoMemory advice = (advice ≡ []) × (HasFault d line why → AsksToBeTaken d line)
EndsTold d line number why _ advice = ⊥
