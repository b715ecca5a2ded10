-- How a word of a line is quoted: invisible bytes are named.
use Rattle.std.specs.Prelude.{ℕ, ◌/◌, ◌%◌, List, [], ◌∷◌, ◌++◌, Bool, ◌&&◌, ◌||◌, ◌==◌, not, nat_eq, nat_le, Option, None, Some, codes, find, length, slice_index, take, if◌then◌else◌}
use Rattle.std.specs.List.{flat_map, starts_with}
use Rattle.std.specs.Str.{byte}

-- ---- bytes
-- printable ASCII
abbrev pub is_visible : ℕ → Bool
is_visible c = nat_le (byte " ") c && nat_le c (byte "~")

-- a byte, or where it is invisible its name behind a backslash; a quote and a backslash stand behind one too
abbrev pub backslash : ℕ
backslash = 92

abbrev pub quote : ℕ
quote = 34

abbrev pub hex_digit : ℕ → ℕ
hex_digit n = slice_index (codes "0123456789abcdef") n

unfoldable pub byte_text : ℕ → List ℕ
byte_text c =
    if c == 9 then backslash ∷ byte "t" ∷ [] else (
    if c == 13 then backslash ∷ byte "r" ∷ [] else (
    if c == backslash || c == quote then backslash ∷ c ∷ [] else (
    if is_visible c then c ∷ [] else backslash ∷ byte "x" ∷ hex_digit (c / 16) ∷ hex_digit (c % 16) ∷ [])))

-- ---- words
-- the most bytes of a word that are shown
abbrev pub most_shown : ℕ
most_shown = 40

abbrev pub cut_mark : List ℕ → List ℕ
cut_mark word = if nat_le (length word) most_shown then [] else codes ".."

-- a word between quotes, with a mark behind them where it was cut
unfoldable pub quoted : List ℕ → List ℕ
quoted word = (quote ∷ []) ++ flat_map byte_text (take most_shown word) ++ (quote ∷ []) ++ cut_mark word

-- ---- the first invisible byte of a word, in plain words
abbrev pub kind_text : ℕ → List ℕ
kind_text c =
    if c == 9 then codes " is a tab" else (
    if c == 13 then codes " is a carriage return" else (
    if c == 0 then codes " is a NUL" else codes " is no printable ASCII character"))

abbrev pub named_byte : Option ℕ → List ℕ
named_byte None = []
named_byte (Some c) = codes "; " ++ byte_text c ++ kind_text c

abbrev pub order_mark : List ℕ
order_mark = 239 ∷ 187 ∷ 191 ∷ []

unfoldable pub strange_text : List ℕ → List ℕ
strange_text word =
    if starts_with nat_eq word order_mark then codes "; " ++ flat_map byte_text order_mark ++ codes " is a byte order mark" else
    named_byte (find (λ c. not (is_visible c)) word)
