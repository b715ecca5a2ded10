-- Lines of hexadecimal digits, each the bytes of one message, and what is shown of them.
use Rattle.std.specs.Prelude.{◌≡◌, ◌≢◌, ℕ, ◌<◌, ◌≤◌, List, [], ◌∷◌, ◌++◌, Ok, IsErr, length}
use Rattle.std.specs.List.{All}
use Rattle.hex.specs.Hex.{decode_of}
use Rattle.script_words.specs.Lines.{text_lines, line_number}
use Rattle.script_words.specs.declared.fault.LineErr.{LineErr}
use Rattle.script_words.specs.declared.fault.LineWhy.{LineWhy}
use Rattle.script_words.specs.declared.fault.LineWhy.TheVariants.{Word, Limit}
use Rattle.message_show.specs.Readings.{IsReading}

-- the most digits of a line: two for each byte of a message, which has at most 4,096, and for one byte more
abbrev pub most_digits : ℕ
most_digits = 8194

-- the line has two digits for each of these bytes, in lower or upper case
pub record Says (line bytes : List ℕ) : Type 0 where
  pub short : length line ≤ most_digits
  pub digits : decode_of line ≡ Ok bytes

abbrev pub IsRight : List ℕ → Type 0
IsRight line = (bytes : List ℕ) × Says line bytes

-- each line of the input is right
abbrev pub AreRight : List ℕ → Type 0
AreRight input = All IsRight (text_lines input)

-- why a line is bad: it is too long, or else its bytes are no digits or their number is odd; there is no other reason
abbrev pub IsWrong : List ℕ → LineWhy → Type 0
IsWrong line Limit = most_digits < length line
IsWrong line Word = (length line ≤ most_digits) × IsErr (decode_of line)
IsWrong line _ = ⊥

-- the lines before are right, and the line behind them is not
pub record IsBadDigits (input : List ℕ) (e : LineErr) : Type 0 where
  pub before : List (List ℕ)
  pub line : List ℕ
  pub after : List (List ℕ)
  pub parts : text_lines input ≡ before ++ line ∷ after
  pub number : e.line ≡ line_number (length before)
  pub right : All IsRight before
  pub fault : IsWrong line e.why

-- the lines before are right, and so is the line behind them, of which something is shown: it is not empty
pub record HasShownLine (input : List ℕ) : Type 0 where
  pub before : List (List ℕ)
  pub line : List ℕ
  pub after : List (List ℕ)
  pub parts : text_lines input ≡ before ++ line ∷ after
  pub right : All IsRight before
  pub says : IsRight line
  pub some : line ≢ []

-- what is shown of a line: nothing where it is empty, else the reading of its bytes
abbrev pub IsShownOf : List ℕ → List ℕ → Type 0
IsShownOf [] text = text ≡ []
IsShownOf (digit ∷ digits) text = (bytes : List ℕ) × Says (digit ∷ digits) bytes × IsReading bytes text

-- what is shown of lines, one behind the other
abbrev pub AreShown : List (List ℕ) → List ℕ → Type 0
AreShown [] text = text ≡ []
AreShown (line ∷ lines) text = (first rest : List ℕ) × IsShownOf line first × AreShown lines rest × (text ≡ first ++ rest)

-- the text is what is shown of the input
abbrev pub IsShown : List ℕ → List ℕ → Type 0
IsShown input text = AreShown (text_lines input) text
