-- Tasks that take all of their input before they write: what was taken of the source, and what was written, by how that ended.
--
-- `Answers bytes text`: this text answers these bytes. `IsBad bytes number why`: the line of this number is the first bad one of
-- these bytes, and this is its fault.
use Rattle.std.specs.Prelude.{◌≡◌, ℕ, ◌+◌, ◌≤◌, List, [], length, take, Option}
use Rattle.std.specs.Io.KnownBytes.{Appends, Consumes}
use Rattle.byte_streams.specs.Reading.{most_bytes}
use Rattle.script_run.specs.Lines.{all_bytes}
use Rattle.script_run.specs.declared.ending.Ending.{Ending}
use Rattle.script_run.specs.declared.ending.Ending.TheVariants.{Done, BadLine, ReadFault, WriteFault, NoMemory, TooLong}
use Rattle.script_grammar.specs.declared.fault.Fault.{Fault}

-- a prefix of the answer
pub record IsPrefixOfAnswer (Answers : List ℕ → List ℕ → Type 0) (bytes text : List ℕ) : Type 0 where
  pub whole : List ℕ
  pub answers : Answers bytes whole
  pub count : ℕ
  pub text_is : text ≡ take count whole

-- of these bytes these first ones were taken, this text was written, and so it ended: nothing is written before all of the input was
-- taken and found right
abbrev pub AnsweredSo : (List ℕ → List ℕ → Type 0) → (List ℕ → ℕ → Fault → Type 0) → Ending → List ℕ → List ℕ → List ℕ → Type 0
AnsweredSo Answers IsBad Done bytes taken text = (taken ≡ bytes) × Answers bytes text
AnsweredSo Answers IsBad (BadLine number why) bytes taken text = (taken ≡ bytes) × IsBad bytes number why × (text ≡ [])
AnsweredSo Answers IsBad ReadFault bytes taken text = text ≡ []
AnsweredSo Answers IsBad WriteFault bytes taken text = (taken ≡ bytes) × IsPrefixOfAnswer Answers bytes text
AnsweredSo Answers IsBad NoMemory bytes taken text = text ≡ []
AnsweredSo Answers IsBad TooLong bytes taken text = (length taken ≡ most_bytes + 1) × (text ≡ [])
AnsweredSo Answers IsBad _ bytes taken text = ⊥

-- so many bytes may have been taken: one more than an input has at most only where it is too long, or memory for them ran out
abbrev pub CanTakeAll : Ending → ℕ → Type 0
CanTakeAll TooLong n = n ≤ most_bytes + 1
CanTakeAll NoMemory n = n ≤ most_bytes + 1
CanTakeAll _ n = n ≤ most_bytes

-- and the text was written to a sink
pub record IsAnsweringOf (Answers : List ℕ → List ℕ → Type 0) (IsBad : List ℕ → ℕ → Fault → Type 0) (ending : Ending) (bytes taken : List ℕ) (before after : Option (List ℕ)) : Type 0 where
  pub text : List ℕ
  pub wrote : Appends before after text
  pub ended : AnsweredSo Answers IsBad ending bytes taken text

-- and the bytes were taken of a source
pub record IsAnswering (Answers : List ℕ → List ℕ → Type 0) (IsBad : List ℕ → ℕ → Fault → Type 0) (ending : Ending) (old new before after : Option (List ℕ)) : Type 0 where
  pub taken : List ℕ
  pub took : Consumes old new taken
  pub counted : CanTakeAll ending (length taken)
  pub wrote : IsAnsweringOf Answers IsBad ending (all_bytes taken new) taken before after

-- how writing a text ends
abbrev pub IsWrittenOrNot : Ending → Type 0
IsWrittenOrNot Done = Unit {0}
IsWrittenOrNot WriteFault = Unit {0}
IsWrittenOrNot _ = ⊥
