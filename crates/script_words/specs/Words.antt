-- Words of a line.
use Rattle.std.specs.Prelude.{ℕ, List, Bool, ◌&&◌, filter, nat_lt, nat_le, length}
use Rattle.std.specs.List.{list_all}
use Rattle.std.specs.Str.{byte}
use Rattle.script_words.specs.Parts.{parts_of}

-- the words of a line: its parts between spaces, without the empty ones
abbrev pub words_of : List ℕ → List (List ℕ)
words_of line = filter (λ word. nat_lt 0 (length word)) (parts_of (byte " ") line)

-- each byte is a space or a printable ASCII character
abbrev pub is_printable : List ℕ → Bool
is_printable line = list_all (λ c. nat_le (byte " ") c && nat_le c (byte "~")) line
