-- The rate of a word (RFC 2210, 3.1: an IEEE 754 single precision number; this profile has the whole ones, and infinity).
--
--      0 1               8 9                                           31
--     +-+-----------------+---------------------------------------------+
--     |s|        e        |                      f                      |
--     +-+-----------------+---------------------------------------------+
use Rattle.std.specs.Prelude.{◌≡◌, ℕ, ◌+◌, ◌-◌, ◌*◌, ◌/◌, ◌%◌, ◌^◌, ◌<◌, ◌≤◌, ◌⊎◌, ◌==◌, nat_le, if◌then◌else◌}
use Rattle.std.specs.Int.{leading_zeros, w64}
use Rattle.rsvp_base.specs.declared.flow.Peak.{Peak}
use Rattle.rsvp_base.specs.declared.flow.Peak.TheVariants.{Finite, Infinite}

abbrev pub sign : ℕ → ℕ
sign w = w / 2 ^ 31

abbrev pub exponent : ℕ → ℕ
exponent w = w / 2 ^ 23 % 2 ^ 8

abbrev pub fraction : ℕ → ℕ
fraction w = w % 2 ^ 23

-- no sign, and neither the exponent of 0 nor that of infinity
pub record IsNormal (w : ℕ) : Type 0 where
  pub unsigned : sign w ≡ 0
  pub not_least : 1 ≤ exponent w
  pub not_most : exponent w ≤ 254

-- n · 2^150 = (2^23 + f) · 2^e
abbrev pub IsScaled : ℕ → ℕ → Type 0
IsScaled w n = n * 2 ^ 150 ≡ (2 ^ 23 + fraction w) * 2 ^ exponent w

-- the word of a number from 1 to 2^46 - 1
pub record IsNumberWord (w n : ℕ) : Type 0 where
  pub positive : 1 ≤ n
  pub below : n < 2 ^ 46
  pub normal : IsNormal w
  pub scaled : IsScaled w n

-- 0 is the word whose bits are all 0; infinity has the largest exponent and no fraction
abbrev pub StandsFor : ℕ → Peak → Type 0
StandsFor w (Finite n) = ((w ≡ 0) × (n ≡ 0)) ⊎ IsNumberWord w n
StandsFor w Infinite = (sign w ≡ 0) × (exponent w ≡ 255) × (fraction w ≡ 0)

-- ---- the word of a rate

-- the place of the highest set bit
abbrev pub highest_bit : ℕ → ℕ
highest_bit n = 63 - leading_zeros w64 n

-- the 24 bits from the highest on
abbrev pub mantissa : ℕ → ℕ → ℕ
mantissa n highest = if nat_le highest 23 then n * 2 ^ (23 - highest) else n / 2 ^ (highest - 23)

abbrev pub number_word : ℕ → ℕ
number_word n = (highest_bit n + 127) * 2 ^ 23 + (mantissa n (highest_bit n) - 2 ^ 23)

unfoldable pub word_of : Peak → ℕ
word_of Infinite = 2139095040
word_of (Finite n) = if n == 0 then 0 else number_word n
