-- What the end of a check at a bad line is.
use Rattle.std.proofs.Common.{◌≡◌, ℕ, List, sym, subst}
use Rattle.script_grammar.specs.Asking.{AsksToBeTaken}
use Rattle.script_grammar.specs.Grammar.{IsBadLine}
use Rattle.script_grammar.specs.declared.fault.Fault.{Fault}
use Rattle.script_run.specs.Advised.{IsAdvised}
use Rattle.script_run.specs.declared.ending.Ending.{Ending}
use Rattle.script_run.specs.declared.ending.Ending.TheVariants.{Done, BadLine, ReadFault, WriteFault, NoMemory, Crowded, TooLong}
use Rattle.script_demand.specs.Demanding.{StopsAt}
use Rattle.script_demand.specs.Telling.{EndsTold}

module _ (bytes advice : List ℕ) (number : ℕ) (why : Fault) (bad : IsBadLine bytes number why) where
  stopped_here : (e : Ending) → EndsTold bad.lines bad.text number why e advice → StopsAt bytes e
  stopped_here (BadLine n w) ends = subst (λ (m : ℕ). IsBadLine bytes m w) (sym ends.0) (subst (IsBadLine bytes number) (sym ends.1) bad)
  stopped_here NoMemory ends = tt
  stopped_here Done ends = absurd ends
  stopped_here ReadFault ends = absurd ends
  stopped_here WriteFault ends = absurd ends
  stopped_here Crowded ends = absurd ends
  stopped_here TooLong ends = absurd ends

  told : IsAdvised (BadLine number why) bytes advice → (n : ℕ) (w : Fault) → n ≡ number → w ≡ why → IsAdvised (BadLine n w) bytes advice
  told here n w same fault = subst (λ (m : ℕ). IsAdvised (BadLine m w) bytes advice) (sym same) (subst (λ (v : Fault). IsAdvised (BadLine number v) bytes advice) (sym fault) here)

  advised_here : (e : Ending) → EndsTold bad.lines bad.text number why e advice → IsAdvised e bytes advice
  advised_here (BadLine n w) ends = told (record { bad = bad; told = ends.2 }) n w ends.0 ends.1
  advised_here NoMemory ends = ends.0
  advised_here Done ends = absurd ends
  advised_here ReadFault ends = absurd ends
  advised_here WriteFault ends = absurd ends
  advised_here Crowded ends = absurd ends
  advised_here TooLong ends = absurd ends

  -- the same of a fault that is this one
  module _ (w : Fault) (e : Ending) (ends : EndsTold bad.lines bad.text number w e advice) (same : w ≡ why) where
    ends_here : EndsTold bad.lines bad.text number why e advice
    ends_here = subst (λ (v : Fault). EndsTold bad.lines bad.text number v e advice) same ends

    pub stopped_told : StopsAt bytes e
    stopped_told = stopped_here e ends_here

    pub advised_told : IsAdvised e bytes advice
    advised_told = advised_here e ends_here

    pub asked_told : e ≡ NoMemory → AsksToBeTaken bad.lines bad.text
    asked_told is = (subst (λ (x : Ending). EndsTold bad.lines bad.text number why x advice) is ends_here).1 bad.fault
