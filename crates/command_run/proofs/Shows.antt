-- How showing messages ends: at a bad line, and over known input.
use Rattle.std.proofs.Common.{◌≡◌, ℕ, ◌≤◌, List, length, refl, sym, ap, subst, arith}
use Rattle.byte_streams.specs.Reading.{most_bytes}
use Rattle.message_show.specs.ShowLines.{AreRight, IsBadDigits, IsShown}
use Rattle.message_show.proofs.Shown.{all_right, bad_is_not_right_law, one_bad_line_law}
use Rattle.script_words.specs.Lines.{text_lines}
use Rattle.script_words.specs.declared.fault.LineErr.{LineErr}
use Rattle.command_run.specs.Showing.{ShowsTo, fault_of}
use Rattle.command_run.specs.Statuses.{IsOrNoMemory}
use Rattle.command_run.specs.declared.status.Status.{Status}
use Rattle.command_run.specs.declared.status.Status.TheVariants.{Done, Usage, BadLine, ReadFault, WriteFault, NoMemory, Crowded, TooLong}

-- of what has a bad line nothing is shown
pub shown_is_not_bad : (input text : List ℕ) (e : LineErr) → IsShown input text → IsBadDigits input e → ⊥
shown_is_not_bad input text e shown bad = bad_is_not_right_law input e (all_right (text_lines input) text shown) bad

-- the first bad line is one
abbrev bad_line : LineErr → Status
bad_line e = BadLine e.line (fault_of e.why)

pub one_bad_line : (input : List ℕ) (d e : LineErr) → IsBadDigits input d → IsBadDigits input e → bad_line d ≡ bad_line e
one_bad_line input d e x y = ap bad_line (one_bad_line_law input d e x y)

-- what showing comes to, over an input that was read to its end
pub comes_to : (input : List ℕ) (wanted got : Status) (F : Type 0) → length input ≤ most_bytes → (AreRight input → (F → ⊥) → IsOrNoMemory Done got)
    → ((e : LineErr) → IsBadDigits input e → IsOrNoMemory (bad_line e) got)
    → ShowsTo wanted input → (wanted ≡ Done → F → ⊥) → IsOrNoMemory wanted got
comes_to input Done got F few right bad shows quiet = right shows.1 (quiet refl)
comes_to input (BadLine number why) got F few right bad shows quiet =
    let first = shows.1 in
    let same : bad_line first.error ≡ BadLine number why = λ i. BadLine (sym first.line_is i) (sym first.why_is i) in
    subst (λ s. IsOrNoMemory s got) same (bad first.error first.bad)
comes_to input TooLong got F few right bad shows quiet = absurd (omega (arith, shows, few))
comes_to input Usage got F few right bad shows quiet = absurd shows
comes_to input ReadFault got F few right bad shows quiet = absurd shows
comes_to input WriteFault got F few right bad shows quiet = absurd shows
comes_to input NoMemory got F few right bad shows quiet = absurd shows
comes_to input Crowded got F few right bad shows quiet = absurd shows
