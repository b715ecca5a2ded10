-- The line of text that says what breaks a rule in a bad line, and what is wanted.
use Rattle.std.specs.Prelude.{ℕ, List, ◌++◌, Option, None, Some, codes, option_and_then}
use Rattle.std.specs.Fmt.{decimal}
use Rattle.value_texts.specs.Places.{word_at}
use Rattle.value_texts.specs.Quotes.{quoted, strange_text}

-- the word of this number, if one is to blame, with its column
abbrev pub blamed_word : List ℕ → Option ℕ → Option (ℕ × List ℕ)
blamed_word line number = option_and_then (word_at line) number

-- the word with its column, if one is to blame, and what is wanted
unfoldable pub blamed_text : Option (ℕ × List ℕ) → List ℕ → List ℕ
blamed_text None wanted = codes "  " ++ wanted
blamed_text (Some (column, word)) wanted = codes "  column " ++ decimal column ++ codes ", " ++ quoted word ++ codes ": " ++ wanted ++ strange_text word

abbrev pub blamed_line : List ℕ → Option ℕ → List ℕ → List ℕ
blamed_line line number wanted = blamed_text (blamed_word line number) wanted

-- the most bytes of a text of what is wanted
abbrev pub most_wanted : ℕ
most_wanted = 512

-- no line of text that says what is wrong with a bad line has more bytes
abbrev pub most_advice : ℕ
most_advice = 1024
