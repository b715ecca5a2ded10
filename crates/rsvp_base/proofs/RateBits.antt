-- The lowest and the highest set bit of a number tell whether its set bits lie near.
use Rattle.std.proofs.Common.{◌≡◌, ℕ, suc, ◌+◌, ◌-◌, ◌*◌, ◌/◌, ◌%◌, ◌<◌, ◌≤◌, ◌^◌, sym, ap, ◌∙◌, arith, ⊎_elim, lit<}
use Rattle.std.proofs.Math.Nat.{pow-suc}
use Rattle.std.specs.Int.{bit_at, w64, leading_zeros, trailing_zeros}
use Rattle.rsvp_base.specs.Rates.{IsRate}
use Rattle.std.proofs.lemmas.Nat.{leading_top, shr_high}
use Rattle.std.proofs.lemmas.Nat.Bits.{bit_at_above, bit_at-trailing_zeros}
use Rattle.std.proofs.lemmas.Bool.{cases_lt}

-- the highest bit of a number is set
pub highest_bit : (j n : ℕ) → 2 ^ j ≤ n → n < 2 ^ suc j → bit_at n j ≡ 1
highest_bit j n low high =
    let rest : n - 2 ^ j < 2 ^ j = omega (arith, pow-suc 2 j) in
    let whole : 1 * 2 ^ j + (n - 2 ^ j) ≡ n = omega arith in
    let shifted = shr_high 1 j (n - 2 ^ j) rest in
    ap (λ x. x % 2) (ap (λ x. x / 2 ^ j) (sym whole) ∙ shifted)

-- all set bits lie between the lowest and the highest
pub near_of_ends : (n : ℕ) → 0 < n → n < 2 ^ 64 → 63 - leading_zeros w64 n ≤ trailing_zeros w64 n + 23 → (i j : ℕ) → bit_at n i ≡ 1 → bit_at n j ≡ 1 → j ≤ i + 23
near_of_ends n pos fits near i j at_i at_j =
    let top = leading_top 64 n pos fits in
    let low = bit_at-trailing_zeros w64 n pos fits in
    let above : j ≤ top.0 = ⊎_elim (λ h. absurd (omega (arith, at_j, bit_at_above n (suc top.0) j top.3 h))) (λ h. h) (cases_lt top.0 j) in
    let below : trailing_zeros w64 n ≤ i = ⊎_elim (λ h. absurd (omega (arith, at_i, low.2 i h))) (λ h. h) (cases_lt i (trailing_zeros w64 n)) in
    omega (arith, above, below, top.1)

-- the lowest and the highest are set bits
pub ends_of_near : (n : ℕ) → 0 < n → n < 2 ^ 64 → ((i j : ℕ) → bit_at n i ≡ 1 → bit_at n j ≡ 1 → j ≤ i + 23) → 63 - leading_zeros w64 n ≤ trailing_zeros w64 n + 23
ends_of_near n pos fits near =
    let top = leading_top 64 n pos fits in
    let low = bit_at-trailing_zeros w64 n pos fits in
    omega (arith, near (trailing_zeros w64 n) top.0 low.1 (highest_bit top.0 n top.2 top.3), top.1)

pub one_is_rate : IsRate 1
one_is_rate = record { small = lit< tt; near = λ i j at_i at_j. ⊎_elim (λ h. omega arith) (λ h. absurd (omega (arith, at_j, bit_at_above 1 1 j (lit< tt) h))) (cases_lt j 1) }
