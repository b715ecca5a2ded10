-- How a run that goes line by line ended: what it took of its source, and what it wrote.
use Rattle.std.specs.Prelude.{◌≡◌, ◌⊎◌, ℕ, ◌+◌, ◌≤◌, List, take, Option}
use Rattle.byte_streams.specs.Reading.{most_bytes}
use Rattle.script_words.specs.Lines.{text_lines}
use Rattle.script_grammar.specs.Draft.{Draft, nothing}
use Rattle.script_grammar.specs.Grammar.{HasFault, Leads}
use Rattle.script_grammar.specs.declared.fault.Fault.{Fault}
use Rattle.byte_streams.specs.Lines.{IsNear, whole_lines}
use Rattle.byte_streams.specs.Runs.{EndedDone, EndedEarly, EndedWriting, IsFirst as IsFirstOf, IsFirstBad as IsFirstBadOf, IsRun as IsRunOf}
use Rattle.script_run.specs.Asking.{AsksToBeRun}
use Rattle.script_run.specs.Written.{HasRun, IsRunSoFar}
use Rattle.script_run.specs.Playing.{IsCrowdedBy}
use Rattle.script_run.specs.declared.ending.Ending.{Ending}
use Rattle.script_run.specs.declared.ending.Ending.TheVariants.{Done, BadLine, ReadFault, WriteFault, NoMemory, Crowded, TooLong}
use Rattle.script_grammar.specs.declared.stop.Stop.{Stop}
use Rattle.script_grammar.specs.declared.stop.Stop.TheVariants as stop

-- C holds of a line behind lines that were run and wrote this
abbrev pub IsFirst : (Draft → List ℕ → Type 0) → List ℕ → List ℕ → Type 0
IsFirst C bytes text = IsFirstOf (Leads nothing) IsRunSoFar C bytes text

-- the line of this number has this fault
abbrev pub IsFirstBad : ℕ → Fault → List ℕ → List ℕ → Type 0
IsFirstBad number why bytes text = IsFirstBadOf (Leads nothing) IsRunSoFar HasFault number why bytes text

-- by the line the run is crowded
abbrev pub IsFirstCrowded : List ℕ → List ℕ → Type 0
IsFirstCrowded bytes text = IsFirst IsCrowdedBy bytes text

-- A run over these bytes, which took these first ones and wrote this text, may end so. After a fault of the source exactly the
-- lines that stand whole among the bytes taken were run, and where these are too many, those in as many as an input may have. Memory
-- runs out at the opening, before a byte is taken, or at a line that asks for some.
abbrev pub EndedSo : (Draft → Type 0) → Ending → List ℕ → List ℕ → List ℕ → Type 0
EndedSo stands Done bytes taken text = EndedDone (Leads nothing) IsRunSoFar stands bytes taken text
EndedSo stands (BadLine number why) bytes taken text = (first : IsFirstBad number why bytes text) × IsNear taken first.at.before
EndedSo stands ReadFault bytes taken text = HasRun (whole_lines taken) text
EndedSo stands WriteFault bytes taken text = EndedWriting (Leads nothing) IsRunSoFar bytes taken text
EndedSo stands NoMemory bytes taken text = EndedEarly (Leads nothing) IsRunSoFar AsksToBeRun bytes taken text
EndedSo stands Crowded bytes taken text = (first : IsFirstCrowded bytes text) × IsNear taken first.before
EndedSo stands TooLong bytes taken text = HasRun (whole_lines (take most_bytes taken)) text

-- how a run ends at the line of this number, which was not run for this reason
abbrev pub ending_at : Stop → ℕ → Ending
ending_at (stop.Bad why) number = BadLine number why
ending_at stop.Crowded number = Crowded
ending_at stop.NoMemory number = NoMemory

-- What a run over these bytes comes to, and what it writes, unless a fault of a device ends it before, or memory runs out: all lines
-- are run, or one is the first that is bad, or the first by which the run is crowded.
abbrev pub ComesTo : Ending → List ℕ → List ℕ → Type 0
ComesTo Done bytes text = HasRun (text_lines bytes) text
ComesTo (BadLine number why) bytes text = IsFirstBad number why bytes text
ComesTo Crowded bytes text = IsFirstCrowded bytes text
ComesTo _ bytes text = ⊥

-- it ended in this way, or memory ran out
abbrev pub IsOrNoMemory : Ending → Ending → Type 0
IsOrNoMemory wanted got = (got ≡ wanted) ⊎ (got ≡ NoMemory)

-- so many bytes were taken: one too many exactly where that is how it ended
abbrev pub CanTake : Ending → ℕ → Type 0
CanTake TooLong n = n ≡ most_bytes + 1
CanTake _ n = n ≤ most_bytes

-- bytes were taken of a source and a text was written to a sink, and the run ended so; where all lines were run, the player is in the
-- state that they lead to
abbrev pub IsRun : (Draft → Type 0) → Ending → Option (List ℕ) → Option (List ℕ) → Option (List ℕ) → Option (List ℕ) → Type 0
IsRun stands ending old new before after = IsRunOf CanTake (EndedSo stands) ending old new before after
