-- The largest rate that is at most a number: what a rate word can tell of it (RFC 2210, 3.1).
use Rattle.std.specs.Prelude.{◌≡◌, ◌↔◌, ℕ, ◌-◌, ◌*◌, ◌/◌, ◌^◌, ◌≤◌, min}
use Rattle.rsvp_base.specs.Rates.{IsRate}
use Rattle.rsvp_objects.specs.RateWord.{highest_bit}

pub record IsRateBelow (n r : ℕ) : Type 0 where
  pub rate : IsRate r
  pub below : r ≤ n
  pub largest : (m : ℕ) → IsRate m → m ≤ n → m ≤ r

-- ---- the same as a function: a word has 24 bits, from the highest on

-- how many bits of a number stand below these
abbrev pub bits_below : ℕ → ℕ
bits_below n = highest_bit n - 23

-- the number without them
abbrev pub top_bits : ℕ → ℕ
top_bits n = n / 2 ^ bits_below n * 2 ^ bits_below n

-- no rate is 2^46 or more
unfoldable pub rate_below : ℕ → ℕ
rate_below n = top_bits (min n (2 ^ 46 - 1))

abbrev pub RateBelowIsTheLargest : Type 0
RateBelowIsTheLargest = (n r : ℕ) → IsRateBelow n r ↔ (r ≡ rate_below n)
