-- Lines with their line feeds, and the bytes of a source.
use Rattle.std.specs.Prelude.{◌≡◌, ℕ, ◌≤◌, List, [], ◌∷◌, ◌++◌, length, Option, None, Some}
use Rattle.script_words.specs.Parts.{parts_of}

-- without the last part
abbrev pub without_last : List (List ℕ) → List (List ℕ)
without_last [] = []
without_last (last ∷ []) = []
without_last (line ∷ next ∷ more) = line ∷ without_last (next ∷ more)

-- the lines that stand whole among these bytes, each with its line feed
abbrev pub whole_lines : List ℕ → List (List ℕ)
whole_lines bytes = without_last (parts_of 10 bytes)

-- lines, each with its line feed
abbrev pub with_feeds : List (List ℕ) → List ℕ
with_feeds [] = []
with_feeds (line ∷ lines) = line ++ 10 ∷ with_feeds lines

-- all bytes of a source: those that were taken, and those that are left, where these are known
abbrev pub all_bytes : List ℕ → Option (List ℕ) → List ℕ
all_bytes taken None = taken
all_bytes taken (Some left) = taken ++ left

-- of the bytes that were taken at most 8,192 are from the first byte on of the line behind these, which were whole
pub record IsNear (taken : List ℕ) (before : List (List ℕ)) : Type 0 where
  pub more : List ℕ
  pub taken_is : taken ≡ with_feeds before ++ more
  pub few : length more ≤ 8192
