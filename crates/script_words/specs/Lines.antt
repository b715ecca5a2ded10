-- Lines of a text.
use Rattle.std.specs.Prelude.{ℕ, ◌+◌, ◌-◌, ◌^◌, min, List, [], ◌∷◌, ◌==◌, length, if◌then◌else◌}
use Rattle.script_words.specs.Parts.{parts_of}

-- without the last part where that is empty
abbrev pub without_empty_last : List (List ℕ) → List (List ℕ)
without_empty_last [] = []
without_empty_last (last ∷ []) = if length last == 0 then [] else last ∷ []
without_empty_last (line ∷ next ∷ more) = line ∷ without_empty_last (next ∷ more)

-- the lines of a text, each ended by a line feed that the last one may lack
abbrev pub text_lines : List ℕ → List (List ℕ)
text_lines text = without_empty_last (parts_of 10 text)

-- line numbers count from 1, and stand still at the end of their type
abbrev pub line_number : ℕ → ℕ
line_number before = min (before + 1) (2 ^ 32 - 1)
