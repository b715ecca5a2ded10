-- What digits are read as.
use Rattle.std.proofs.Common.{rules, arith, ◌≡◌, ℕ, ◌<◌, ◌^◌, List, true, Some, None, Ok, Err, Result, refl}
use Rattle.std.specs.Result.{result_ok}
use Rattle.std.specs.Char.{is_ascii_digit}
use Rattle.std.specs.List.{list_all}
use Rattle.std.specs.Str.Parse.{digits_value, ParsesUnsigned}
use Rattle.std.proofs.lemmas.Str.Parse.{IsNumeralModel, numerals_by_value, parse_digits}
use Rattle.command_run.specs.Orders.{below_2_to_64, is_numeral}

own : IsNumeralModel (λ ds. list_all is_ascii_digit ds ≡ true) (digits_value 10)
own = numerals_by_value _ (search rules)

too_large : (n : ℕ) → ¬ (n < 2 ^ 64) → None ≡ below_2_to_64 n
too_large n over = grind (arith)

-- digits that are not read stand for too much
unread : {E : Type 0} (bs : List ℕ) (r : Result ℕ E) (e : E) → r ≡ Err e → ParsesUnsigned 64 10 bs r → is_numeral bs ≡ true → None ≡ below_2_to_64 (digits_value 10 bs)
unread bs r e is h fine =
    let read = parse_digits {P = λ ds. list_all is_ascii_digit ds ≡ true} {v = digits_value 10} own 64 bs r h (search rules) in
    let none = rw is at read in
    too_large _ (λ lt. none (search (rules, arith), lt))

in_range : (n : ℕ) → n < 2 ^ 64 → Some n ≡ below_2_to_64 n
in_range n lt = grind (arith)

-- what digits are read as is what they stand for, where that is below 2^64
pub read : {E : Type 0} (bs : List ℕ) (r : Result ℕ E) → ParsesUnsigned 64 10 bs r → is_numeral bs ≡ true
    → result_ok r ≡ below_2_to_64 (digits_value 10 bs)
read bs (Err e) h fine = unread bs (Err e) e refl h fine
read bs (Ok n) h fine = search (rules, arith, in_range)
