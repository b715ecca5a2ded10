-- A line with words is misread exactly where it says nothing.
use Rattle.std.proofs.Common.{◌≡◌, ◌≢◌, ◌↔◌, ◌∙◌, ℕ, List, [], ◌∷◌, false, Option, None, Some, is_some, refl, sym, ap}
use Rattle.script_words.specs.Words.{words_of}
use Rattle.script_grammar.specs.Blames.{IsMisread, word_blame}
use Rattle.script_grammar.specs.BlameLaws.{MisreadLinesSayNothing}
use Rattle.script_grammar.specs.LineKinds.{said_by}
use Rattle.script_grammar.proofs.FormLaws.{said_by_formed}
use Rattle.script_grammar.specs.declared.blame.Blame.{Blame}
use Rattle.script_grammar.specs.declared.line.ScriptLine.{ScriptLine}

none_where : (o : Option ScriptLine) → is_some o ≡ false → o ≡ None
none_where None none = refl
none_where (Some x) none = absurd (cc)

by_words : (ws : List (List ℕ)) → ws ≢ [] → (said_by ws ≡ None) ↔ ((blame : Blame) × IsMisread ws blame)
by_words [] some = absurd (some refl)
by_words (first ∷ behind) some =
    let formed = said_by_formed first behind in (
      (λ none. (word_blame (first ∷ behind), record { unformed = sym formed ∙ ap is_some none; blame_is = refl })),
      (λ wrong. none_where (said_by (first ∷ behind)) (formed ∙ wrong.1.unformed)),
    )

pub misread_says_nothing : MisreadLinesSayNothing
misread_says_nothing text comment some = rw comment (by_words (words_of text) some)
