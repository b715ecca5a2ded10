-- Lines of a stream: what was taken and not given yet, and then what is left.
use Rattle.std.specs.Prelude.{◌≡◌, ◌⊎◌, ℕ, ◌+◌, ◌<◌, ◌≤◌, ◌==◌, List, [], ◌∷◌, ◌++◌, length, position, Option, None, Some, is_some, true}
use Rattle.std.specs.Io.KnownBytes.{Consumes}
use Rattle.byte_streams.specs.Reading.{most_bytes}
use Rattle.script_words.specs.Lines.{text_lines}
use Rattle.byte_streams.specs.declared.answer.NextLine.{NextLine}
use Rattle.byte_streams.specs.declared.answer.NextLine.TheVariants.{Line, Long, End, Fault, TooLong}

-- the most bytes of a line, its line feed not counted
abbrev pub most_line : ℕ
most_line = 2048

-- what a reader has: bytes that it took and has not given, the line that it gave last and its number, how many bytes it
-- took in all, and how its lines ended
pub record Held : Type 0 where
  pub bytes : List ℕ
  pub line : List ℕ
  pub number : ℕ
  pub taken : ℕ
  pub ended : Option NextLine

abbrev pub at_first : Held
at_first = record { bytes = []; line = []; number = 0; taken = 0; ended = None }

-- ---- what is left
-- the known bytes begin with this line, and what is left begins behind it
abbrev pub GivesLine : Option (List ℕ) → Option (List ℕ) → List ℕ → Type 0
GivesLine None new line = Unit {0}
GivesLine (Some bytes) None line = ⊥
GivesLine (Some bytes) (Some rest) line = text_lines bytes ≡ line ∷ text_lines rest

-- the first line of known bytes has more than n bytes
abbrev pub IsLong : ℕ → Option (List ℕ) → Type 0
IsLong n None = Unit {0}
IsLong n (Some bytes) = (line : List ℕ) × (lines : List (List ℕ)) × (text_lines bytes ≡ line ∷ lines) × (n < length line)

abbrev pub HasNoLine : Option (List ℕ) → Type 0
HasNoLine None = Unit {0}
HasNoLine (Some bytes) = text_lines bytes ≡ []

-- ---- what was taken
-- these were taken from the source, and counted
abbrev pub IsCounted : Option (List ℕ) → Option (List ℕ) → ℕ → ℕ → Type 0
IsCounted old new before now = (bs : List ℕ) × Consumes old new bs × (now ≡ before + length bs)

-- no byte past the most that an input may have, but for the one that shows that there are more; a line is no end
abbrev pub IsWithinInput : ℕ → Option NextLine → Type 0
IsWithinInput taken None = taken ≤ most_bytes
IsWithinInput taken (Some Line) = ⊥
IsWithinInput taken (Some Long) = taken ≤ most_bytes
IsWithinInput taken (Some End) = taken ≤ most_bytes
IsWithinInput taken (Some Fault) = taken ≤ most_bytes
IsWithinInput taken (Some TooLong) = taken ≡ most_bytes + 1

pub record IsBounded (h : Held) : Type 0 where
  pub line : length h.line ≤ 2048
  pub bytes : length h.bytes ≤ 6144
  pub within : IsWithinInput h.taken h.ended

-- ---- where lines end
abbrev pub HasNoFeed : List ℕ → Type 0
HasNoFeed bytes = position (λ c. c == 10) bytes ≡ None

-- a line feed is among them
abbrev pub HasFeed : List ℕ → Type 0
HasFeed bytes = is_some (position (λ c. c == 10) bytes) ≡ true

-- the line stands at the front, with its line feed
pub record IsFirst (all : List ℕ) (now : Held) : Type 0 where
  pub going : now.ended ≡ None
  pub bytes : all ≡ now.line ++ 10 ∷ now.bytes
  pub line : HasNoFeed now.line

-- the line is all that was left, and lacks its line feed
pub record IsLast (all : List ℕ) (now : Held) : Type 0 where
  pub ended : now.ended ≡ Some End
  pub bytes : all ≡ now.line
  pub none : now.bytes ≡ []
  pub some : 0 < length now.line
  pub line : HasNoFeed now.line

-- no whole line is among what is kept; of one byte too many nothing is said
abbrev pub IsPart : List ℕ → Held → Type 0
IsPart all now = (now.bytes ≡ all) × HasNoFeed all

-- what comes next, where this was kept and taken
abbrev pub IsCut : NextLine → List ℕ → Held → Type 0
IsCut Line all now = IsFirst all now ⊎ IsLast all now
IsCut Long all now = (now.bytes ≡ all) × ((rest : List ℕ) → IsLong 2048 (Some (all ++ rest)))
IsCut End all now = (all ≡ []) × (now.bytes ≡ [])
IsCut Fault all now = IsPart all now
IsCut TooLong all now = (front : List ℕ) × (one : ℕ) × (all ≡ front ++ one ∷ []) × HasNoFeed front × (now.bytes ≡ all)

-- bytes were taken of the source, and this came next of them and of those that were kept
pub record Cuts (old new : Option (List ℕ)) (before : Held) (next : NextLine) (now : Held) : Type 0 where
  pub bytes : List ℕ
  pub took : Consumes old new bytes
  pub counted : now.taken ≡ before.taken + length bytes
  pub cut : IsCut next (before.bytes ++ bytes) now

-- lines may come; or the last one came
abbrev pub IsOpenOrLast : Option NextLine → Type 0
IsOpenOrLast ended = (ended ≡ None) ⊎ (ended ≡ Some End)

-- ---- room
pub record IsRoomy (at taken room line piece : ℕ) : Type 0 where
  pub given : at ≤ taken
  pub most : taken ≤ 6144
  pub enough : 6144 ≤ room
  pub whole : 2048 ≤ line
  pub pieces : piece ≡ 4096
