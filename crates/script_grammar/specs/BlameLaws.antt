-- Laws of what is to blame for a bad line.
use Rattle.std.specs.Prelude.{◌≡◌, ◌≢◌, ◌↔◌, ℕ, List, [], false, None}
use Rattle.script_words.specs.Words.{words_of}
use Rattle.script_grammar.specs.LineKinds.{is_comment, script_line_of}
use Rattle.script_grammar.specs.Blames.{IsMisread}
use Rattle.script_grammar.specs.declared.blame.Blame.{Blame}

-- a line that has words and is no comment says nothing exactly where something of its words is misread
abbrev pub MisreadLinesSayNothing : Type 0
MisreadLinesSayNothing = (text : List ℕ) → is_comment text ≡ false → words_of text ≢ [] → (script_line_of text ≡ None) ↔ ((blame : Blame) × IsMisread (words_of text) blame)
