-- Where the words of a line stand.
use Rattle.std.specs.Prelude.{ℕ, ◌+◌, List, [], ◌∷◌, Option, ◌==◌, length, slice_get, if◌then◌else◌}
use Rattle.std.specs.Str.{byte}
use Rattle.script_words.specs.Parts.{parts_of}

-- the parts that are no empty ones, each with the column of its first byte, where the first part begins at this column and a
-- separator stands between two
abbrev pub placed_from : ℕ → List (List ℕ) → List (ℕ × List ℕ)
placed_from column [] = []
placed_from column (part ∷ parts) =
    if length part == 0 then placed_from (column + 1) parts else (column, part) ∷ placed_from (column + length part + 1) parts

-- the words of a line, each with its column, from 1
abbrev pub placed_words : List ℕ → List (ℕ × List ℕ)
placed_words line = placed_from 1 (parts_of (byte " ") line)

-- the word of this number, from 0, with its column
abbrev pub word_at : List ℕ → ℕ → Option (ℕ × List ℕ)
word_at line number = slice_get (placed_words line) number
