-- Which texts take memory as they are read. Words are read where they lie, and up to nine of them are listed without memory.
use Rattle.std.specs.Prelude.{◌≡◌, ◌⊎◌, ℕ, ◌<◌, List, [], ◌∷◌, false, true, codes, length}
use Rattle.std.specs.Str.{bytes_eq}
use Rattle.script_words.specs.Words.{words_of}
use Rattle.script_grammar.specs.LineKinds.{is_comment}

-- the most words that are listed without memory: a line has more only where it is a reroute, or bad
abbrev pub most_few : ℕ
most_few = 9

-- the first word is that of a kind of line in which words stand for a list, which takes memory
pub data IsOfList (first : List ℕ) : Type 0 where
  of_link : bytes_eq first (codes "link") ≡ true → IsOfList first
  of_stale_resv : bytes_eq first (codes "stale-resv") ≡ true → IsOfList first
  of_want : bytes_eq first (codes "want") ≡ true → IsOfList first
  of_inject : bytes_eq first (codes "inject") ≡ true → IsOfList first
  of_reroute : bytes_eq first (codes "reroute") ≡ true → IsOfList first

abbrev pub HasList : List (List ℕ) → Type 0
HasList [] = ⊥
HasList (first ∷ behind) = IsOfList first

-- a comment takes none, and no line of few words that stand for no list does
pub record TakesToRead (text : List ℕ) : Type 0 where
  pub no_comment : is_comment text ≡ false
  pub takes : HasList (words_of text) ⊎ (most_few < length (words_of text))
