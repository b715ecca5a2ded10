-- Numbers in words.
use Rattle.std.specs.Prelude.{ℕ, ◌+◌, ◌-◌, ◌*◌, List, Option, None, Some, Bool, ◌&&◌, ◌||◌, nat_le, codes, length, fold, slice_index, if◌then◌else◌}
use Rattle.std.specs.List.{list_all}
use Rattle.std.specs.Str.{bytes_eq, byte}
use Rattle.rsvp_base.specs.EndNames.{is_digit}

-- what digits stand for in base ten, the first one highest
abbrev pub value_of : List ℕ → ℕ
value_of digits = fold (λ n c. n * 10 + (c - byte "0")) 0 digits

-- 0, or 1 to 20 decimal digits that begin with 1 to 9
abbrev pub is_number : List ℕ → Bool
is_number word = bytes_eq word (codes "0") || (nat_le (length word) 20 && (nat_le (byte "1") (slice_index word 0) && list_all is_digit word))

-- the number that a word is
abbrev pub number_of : List ℕ → Option ℕ
number_of word = if is_number word then Some (value_of word) else None
