-- What is said of the line by which a run is crowded is no longer than there is room for.
use Rattle.std.proofs.Common.{ℕ, ◌<◌, ◌≤◌, ◌^◌, ◌++◌, length, arith, length-append}
use Rattle.std.proofs.lemmas.Fmt.{length-decimal-le}
use Rattle.std.specs.Prelude.{codes}
use Rattle.std.specs.Fmt.{decimal}
use Rattle.line_advice.specs.Blamed.{most_advice}
use Rattle.script_run.specs.Advised.{crowded_text, crowded_words}

pub crowded_short : (number : ℕ) → number < 2 ^ 32 → length (crowded_text number) ≤ most_advice
unfolding crowded_text crowded_words
crowded_short number small =
    let digits : length (decimal number) ≤ 20 = length-decimal-le 20 number (omega arith) (omega (arith, small)) (omega (arith, small)) in
    omega (arith, length-append (codes "  line ") (decimal number), length-append (codes "  line " ++ decimal number) crowded_words, digits)
