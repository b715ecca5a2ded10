-- No text on a bad line of digits is longer than there is room for.
use Rattle.std.proofs.Common.{ℕ, ◌<◌, ◌≤◌, ◌^◌, List, [], ◌∷◌, ◌++◌, None, Some, length, arith, length-append}
use Rattle.std.proofs.lemmas.Fmt.{length-decimal-le}
use Rattle.std.specs.Prelude.{codes}
use Rattle.std.specs.Fmt.{decimal}
use Rattle.script_words.specs.declared.fault.LineWhy.TheVariants.{Limit}
use Rattle.value_texts.specs.Quotes.{order_mark, quoted, strange_text}
use Rattle.line_advice.specs.Blamed.{most_advice}
use Rattle.line_advice.proofs.Short.{joined, quoted_short, strange_short}
use Rattle.message_show.specs.ShowAdvice.{digits_advice, digits_text, digits_wanted, mark_text}

pub limit_short : (line : List ℕ) → length (digits_advice line Limit) ≤ most_advice
limit_short line = omega arith

pub even_short : length (digits_text None) ≤ most_advice
unfolding digits_text
even_short = omega arith

pub digit_short : (column c : ℕ) → column < 2 ^ 64 → length (digits_text (Some (column, c))) ≤ most_advice
unfolding digits_text
digit_short column c small =
    let all = joined (codes "  column ") (decimal column) (codes ", ") (quoted (c ∷ [])) (codes ": ") digits_wanted (strange_text (c ∷ [])) in
    let digits : length (decimal column) ≤ 20 = length-decimal-le 20 column (omega arith) (omega (arith, small)) small in
    omega (arith, all, digits, quoted_short (c ∷ []), strange_short (c ∷ []))

pub mark_short : length mark_text ≤ most_advice
unfolding mark_text
mark_short =
    omega (
      arith,
      length-append (codes "  column 1, ") (quoted order_mark),
      length-append (codes "  column 1, " ++ quoted order_mark) (codes ": a byte order mark: save the file without it"),
      quoted_short order_mark,
    )
