-- Showing messages: what was taken of the source, and what was written.
use Rattle.std.specs.Prelude.{◌≡◌, ℕ, ◌≤◌, ◌<◌, List, length, Option}
use Rattle.byte_streams.specs.Reading.{most_bytes}
use Rattle.message_show.specs.ShowLines.{AreRight, IsBadDigits, IsShown}
use Rattle.script_run.specs.declared.ending.Ending.{Ending}
use Rattle.script_demand.specs.Answering.{IsAnswering}
use Rattle.script_grammar.specs.declared.fault.Fault.{Fault}
use Rattle.script_grammar.specs.declared.fault.Fault.TheVariants as fault
use Rattle.script_words.specs.declared.fault.LineErr.{LineErr}
use Rattle.script_words.specs.declared.fault.LineWhy.{LineWhy}
use Rattle.script_words.specs.declared.fault.LineWhy.TheVariants.{Word, Late, Range, Name, Twice, Limit, Over}
use Rattle.command_run.specs.Statuses.{status_of}
use Rattle.command_run.specs.declared.status.Status.{Status}
use Rattle.command_run.specs.declared.status.Status.TheVariants.{Done, BadLine, TooLong}

-- the same reason, of a line of a script; a line of digits reserves nothing, and so is never over what an interface has
abbrev pub fault_of : LineWhy → Fault
fault_of Word = fault.Word
fault_of Late = fault.Late
fault_of Range = fault.Range
fault_of Name = fault.Name
fault_of Twice = fault.Twice
fault_of Limit = fault.Limit
fault_of Over = fault.Limit

-- the line of this number is the first whose digits are bad, and this is its fault
pub record IsFirstBad (bytes : List ℕ) (number : ℕ) (why : Fault) : Type 0 where
  pub error : LineErr
  pub bad : IsBadDigits bytes error
  pub line_is : number ≡ error.line
  pub why_is : why ≡ fault_of error.why

-- bytes were taken of a source and a text was written to a sink, and showing the messages had this status
abbrev pub IsShowing : Status → Option (List ℕ) → Option (List ℕ) → Option (List ℕ) → Option (List ℕ) → Type 0
IsShowing status old new before after = (e : Ending) × (status ≡ status_of e) × IsAnswering IsShown IsFirstBad e old new before after

-- what showing comes to, unless a fault of a device ends it, or memory runs out
abbrev pub ShowsTo : Status → List ℕ → Type 0
ShowsTo Done bytes = (length bytes ≤ most_bytes) × AreRight bytes
ShowsTo (BadLine number why) bytes = (length bytes ≤ most_bytes) × IsFirstBad bytes number why
ShowsTo TooLong bytes = most_bytes < length bytes
ShowsTo _ bytes = ⊥
