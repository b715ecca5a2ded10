-- How policing a stream ended: what it took of its source, and what it wrote.
use Rattle.std.specs.Prelude.{◌≡◌, ◌⊎◌, ℕ, ◌+◌, ◌≤◌, List, [], ◌++◌, take, Option}
use Rattle.byte_streams.specs.Reading.{most_bytes}
use Rattle.script_words.specs.Lines.{text_lines}
use Rattle.script_words.specs.declared.fault.LineWhy.{LineWhy}
use Rattle.byte_streams.specs.Lines.{IsNear, whole_lines}
use Rattle.byte_streams.specs.Runs.{EndedShort as EndedShortOf, HasRun as HasRunOf, IsFirstBad as IsFirstBadOf, IsRun}
use Rattle.load_policer.specs.Drafts.{HasFault, Leads, nothing}
use Rattle.load_policer.specs.Texts.{Says, last_text}
use Rattle.load_policer.specs.declared.ending.Ending.{Ending}
use Rattle.load_policer.specs.declared.ending.Ending.TheVariants.{Done, BadLine, ReadFault, WriteFault, NoMemory, TooLong}

-- these lines were policed, and these are the verdicts on their packets
abbrev pub HasRun : List (List ℕ) → List ℕ → Type 0
HasRun lines text = HasRunOf (Leads nothing) Says lines text

-- the line of this number is the first bad one, it has this fault, and these are the verdicts on the packets before
abbrev pub IsFirstBad : ℕ → LineWhy → List ℕ → List ℕ → Type 0
IsFirstBad number why bytes text = IsFirstBadOf (Leads nothing) Says HasFault number why bytes text

-- all lines were policed, and the line with the counts stands at the end
pub record IsWhole (bytes text : List ℕ) : Type 0 where
  pub said : List ℕ
  pub ran : HasRun (text_lines bytes) said
  pub text_is : text ≡ said ++ last_text ran.draft

-- a prefix of the verdicts on the packets of some first lines of those taken was written
abbrev pub EndedShort : List ℕ → List ℕ → Type 0
EndedShort taken text = EndedShortOf (Leads nothing) Says taken text

-- the input had ended, and a prefix of the whole text was written
pub record EndedClosing (bytes taken text : List ℕ) : Type 0 where
  pub all : taken ≡ bytes
  pub whole : List ℕ
  pub is_whole : IsWhole bytes whole
  pub count : ℕ
  pub text_is : text ≡ take count whole

-- A run over these bytes, which took these first ones and wrote this text, may end so. After a fault of the source exactly the
-- lines that stand whole among the bytes taken were policed, and where these are too many, those in as many as an input may have.
-- All memory is taken before the first byte is.
abbrev pub EndedSo : Ending → List ℕ → List ℕ → List ℕ → Type 0
EndedSo Done bytes taken text = (taken ≡ bytes) × IsWhole bytes text
EndedSo (BadLine number why) bytes taken text = (first : IsFirstBad number why bytes text) × IsNear taken first.at.before
EndedSo ReadFault bytes taken text = HasRun (whole_lines taken) text
EndedSo WriteFault bytes taken text = EndedShort taken text ⊎ EndedClosing bytes taken text
EndedSo NoMemory bytes taken text = (taken ≡ []) × (text ≡ [])
EndedSo TooLong bytes taken text = HasRun (whole_lines (take most_bytes taken)) text

-- so many bytes were taken: one too many exactly where that is how it ended
abbrev pub CanTake : Ending → ℕ → Type 0
CanTake TooLong n = n ≡ most_bytes + 1
CanTake _ n = n ≤ most_bytes

-- bytes were taken of a source and a text was written to a sink, and policing ended so
abbrev pub IsPoliced : Ending → Option (List ℕ) → Option (List ℕ) → Option (List ℕ) → Option (List ℕ) → Type 0
IsPoliced ending old new before after = IsRun CanTake EndedSo ending old new before after

-- What policing these bytes comes to, and what it writes, unless a fault of a device ends it before, or memory runs out.
abbrev pub ComesTo : Ending → List ℕ → List ℕ → Type 0
ComesTo Done bytes text = IsWhole bytes text
ComesTo (BadLine number why) bytes text = IsFirstBad number why bytes text
ComesTo _ bytes text = ⊥

-- it ended in this way, or memory ran out
abbrev pub IsOrNoMemory : Ending → Ending → Type 0
IsOrNoMemory wanted got = (got ≡ wanted) ⊎ (got ≡ NoMemory)
