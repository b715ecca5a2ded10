-- Why a run ends at a bad line, and what is told of it.
use Rattle.std.proofs.Common.{ℕ, List}
use Rattle.rsvp_base.specs.declared.room.NoMemory.{NoMemory}
use Rattle.script_grammar.specs.Advice.{IsAdvice, IsAdviceOrNone}
use Rattle.script_grammar.specs.Draft.{Draft}
use Rattle.script_grammar.specs.Grammar.{HasFault}
use Rattle.script_grammar.specs.declared.fault.Fault.{Fault}
use Rattle.script_grammar.specs.declared.stop.Stop.TheVariants as stop
use Rattle.std.specs.Prelude.{Err}
use Rattle.script_run.specs.Advised.{EndsAt}
use Rattle.script_run.specs.Asking.{to_be_taken}

pub ends_told : (d : Draft) (line : List ℕ) (number : ℕ) (why : Fault) (advice : List ℕ) → HasFault d line why → IsAdvice d line why advice → EndsAt d line number (stop.Bad why) advice
ends_told d line number why advice bad told = record { stops = bad; advised = told }

pub ends_untold : (d : Draft) (line : List ℕ) (number : ℕ) (why : Fault) (e : NoMemory) (advice : List ℕ) → HasFault d line why → IsAdviceOrNone d line why (Err e) advice
    → EndsAt d line number stop.NoMemory advice
ends_untold d line number why e advice bad told = record { stops = to_be_taken (told.1 bad); advised = told.0 }
