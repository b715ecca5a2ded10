-- The line of text that says what is wrong with a bad line of digits.
use Rattle.std.specs.Prelude.{◌≡◌, ℕ, ◌+◌, List, [], ◌∷◌, ◌++◌, Option, None, Some, codes, nat_eq, if◌then◌else◌}
use Rattle.std.specs.Fmt.{decimal}
use Rattle.std.specs.List.{starts_with}
use Rattle.hex.specs.Hex.{is_hex_digit}
use Rattle.script_words.specs.declared.fault.LineErr.{LineErr}
use Rattle.script_words.specs.declared.fault.LineWhy.{LineWhy}
use Rattle.script_words.specs.declared.fault.LineWhy.TheVariants.{Limit}
use Rattle.value_texts.specs.Quotes.{order_mark, quoted, strange_text}
use Rattle.message_show.specs.ShowLines.{IsBadDigits}

-- the first byte that is no hexadecimal digit, with its column, where the first one stands in this column
abbrev pub strange_digit : ℕ → List ℕ → Option (ℕ × ℕ)
strange_digit column [] = None
strange_digit column (c ∷ cs) = if is_hex_digit c then strange_digit (column + 1) cs else Some (column, c)

abbrev pub digits_wanted : List ℕ
digits_wanted = codes "a line is an even number of hexadecimal digits without spaces"

unfoldable pub digits_text : Option (ℕ × ℕ) → List ℕ
digits_text None = codes "  " ++ digits_wanted
digits_text (Some (column, c)) = codes "  column " ++ decimal column ++ codes ", " ++ quoted (c ∷ []) ++ codes ": " ++ digits_wanted ++ strange_text (c ∷ [])

-- of a line that begins with a byte order mark
unfoldable pub mark_text : List ℕ
mark_text = codes "  column 1, " ++ quoted order_mark ++ codes ": a byte order mark: save the file without it"

abbrev pub bytes_text : List ℕ → List ℕ
bytes_text line = if starts_with nat_eq line order_mark then mark_text else digits_text (strange_digit 1 line)

-- of a line that is too long its length; else a byte order mark at its beginning, or the first byte that is no digit; and where all are
-- digits, that their number is odd
abbrev pub digits_advice : List ℕ → LineWhy → List ℕ
digits_advice line Limit = codes "  a line has at most 8194 digits"
digits_advice line why = bytes_text line

-- what is wrong with the first bad line
abbrev pub IsDigitsAdvice : List ℕ → LineWhy → List ℕ → Type 0
IsDigitsAdvice line why text = text ≡ digits_advice line why

pub record IsToldDigits (input text : List ℕ) (e : LineErr) : Type 0 where
  pub bad : IsBadDigits input e
  pub told : IsDigitsAdvice bad.line e.why text
