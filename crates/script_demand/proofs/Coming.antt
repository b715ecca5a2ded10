-- How the demand of a script ends: at a bad line, and over known input.
use Rattle.std.proofs.Common.{◌≡◌, ℕ, ◌≤◌, List, length, refl, inl, inr, arith}
use Rattle.byte_streams.specs.Reading.{most_bytes}
use Rattle.network_model.specs.Runs.{Plan}
use Rattle.script_run.specs.Endings.{IsOrNoMemory}
use Rattle.script_run.specs.declared.ending.Ending.{Ending}
use Rattle.script_run.specs.declared.ending.Ending.TheVariants.{Done, BadLine, ReadFault, WriteFault, NoMemory, Crowded, TooLong}
use Rattle.script_grammar.specs.Draft.{plan_of}
use Rattle.script_grammar.specs.Grammar.{IsBadLine, IsScript}
use Rattle.script_grammar.specs.declared.fault.Fault.{Fault}
use Rattle.script_grammar.proofs.Scripts.{one_bad_line_law, script_or_bad}
use Rattle.script_demand.specs.Demanding.{DemandsTo, IsDemandOf, StopsAt}

-- ---- what has a demand has no bad line
pub demanded_or_bad : (bytes text : List ℕ) (number : ℕ) (why : Fault) → IsDemandOf bytes text → IsBadLine bytes number why → ⊥
demanded_or_bad bytes text number why d bad = script_or_bad bytes (plan_of d.lines) number why (record { lines = d.lines; leads = d.leads; says = refl }) bad

-- ---- a line that was not taken, or memory that ran out
-- of a script it was memory
pub stopped_script : (bytes : List ℕ) (p : Plan) (e wanted : Ending) → StopsAt bytes e → IsScript bytes p → IsOrNoMemory wanted e
stopped_script bytes p (BadLine number why) wanted s is = absurd (script_or_bad bytes p number why is s)
stopped_script bytes p NoMemory wanted s is = inr refl
stopped_script bytes p Done wanted s is = absurd s
stopped_script bytes p ReadFault wanted s is = absurd s
stopped_script bytes p WriteFault wanted s is = absurd s
stopped_script bytes p Crowded wanted s is = absurd s
stopped_script bytes p TooLong wanted s is = absurd s

-- else the line is the first bad one
pub stopped_bad : (bytes : List ℕ) (number : ℕ) (why : Fault) (e : Ending) → StopsAt bytes e → IsBadLine bytes number why → IsOrNoMemory (BadLine number why) e
stopped_bad bytes number why (BadLine n w) s bad =
    let one = one_bad_line_law bytes n number w why s bad in
    inl (λ i. BadLine (one.line i) (one.fault i))
stopped_bad bytes number why NoMemory s bad = inr refl
stopped_bad bytes number why Done s bad = absurd s
stopped_bad bytes number why ReadFault s bad = absurd s
stopped_bad bytes number why WriteFault s bad = absurd s
stopped_bad bytes number why Crowded s bad = absurd s
stopped_bad bytes number why TooLong s bad = absurd s

-- ---- known input
-- what it comes to, over an input that was read to its end
pub comes_to : (input : List ℕ) (wanted got : Ending) (F : Type 0) → length input ≤ most_bytes → ((p : Plan) → IsScript input p → (F → ⊥) → IsOrNoMemory Done got)
    → ((number : ℕ) (why : Fault) → IsBadLine input number why → IsOrNoMemory (BadLine number why) got)
    → DemandsTo wanted input → (wanted ≡ Done → F → ⊥) → IsOrNoMemory wanted got
comes_to input Done got F few right bad comes quiet = right comes.1.0 comes.1.1 (quiet refl)
comes_to input (BadLine number why) got F few right bad comes quiet = bad number why comes.1
comes_to input TooLong got F few right bad comes quiet = absurd (omega (arith, comes, few))
comes_to input ReadFault got F few right bad comes quiet = absurd comes
comes_to input WriteFault got F few right bad comes quiet = absurd comes
comes_to input NoMemory got F few right bad comes quiet = absurd comes
comes_to input Crowded got F few right bad comes quiet = absurd comes
