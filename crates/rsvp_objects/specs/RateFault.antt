-- Why a word stands for no rate: the first of the causes that hold.
use Rattle.std.specs.Prelude.{◌≡◌, ◌≢◌, ℕ, ◌+◌, ◌*◌, ◌/◌, ◌%◌, ◌^◌, ◌≤◌, ◌⊎◌, ◌==◌, not, nat_lt, nat_le, Result, Ok, Err, if◌then◌else◌}
use Rattle.rsvp_base.specs.declared.flow.Peak.{Peak}
use Rattle.rsvp_base.specs.declared.flow.Peak.TheVariants.{Finite, Infinite}
use Rattle.rsvp_objects.specs.declared.rate_err.RateErr.{RateErr}
use Rattle.rsvp_objects.specs.declared.rate_err.RateErr.TheVariants.{Signed, NotANumber, Fraction, Large}
use Rattle.rsvp_objects.specs.RateWord.{sign, exponent, fraction, IsNormal, IsScaled}

abbrev pub IsFirstFault : ℕ → RateErr → Type 0
IsFirstFault w Signed = sign w ≡ 1
IsFirstFault w NotANumber = (sign w ≡ 0) × (exponent w ≡ 255) × (fraction w ≢ 0)
IsFirstFault w Fraction = ((sign w ≡ 0) × (exponent w ≡ 0) × (fraction w ≢ 0)) ⊎ (IsNormal w × ((n : ℕ) → IsScaled w n → ⊥))
IsFirstFault w Large = IsNormal w × ((n : ℕ) × IsScaled w n × (2 ^ 46 ≤ n))

-- ---- the same as a function: the first case that holds gives the answer

-- of x, which is 2^150 times the number: the number, where it is whole and below 2^46
abbrev pub whole_number : ℕ → Result Peak RateErr
whole_number x =
    if not (x % 2 ^ 150 == 0) then Err Fraction else
    if nat_le (2 ^ 46) (x / 2 ^ 150) then Err Large else
    Ok (Finite (x / 2 ^ 150))

unfoldable pub rate_word : ℕ → Result Peak RateErr
rate_word w =
    if nat_lt 0 (sign w) then Err Signed else
    if exponent w == 255 then (if fraction w == 0 then Ok Infinite else Err NotANumber) else
    if exponent w == 0 then (if fraction w == 0 then Ok (Finite 0) else Err Fraction) else
    whole_number ((2 ^ 23 + fraction w) * 2 ^ exponent w)
