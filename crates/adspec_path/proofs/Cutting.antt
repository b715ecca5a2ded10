-- A number with its 24 highest bits alone is a rate, and no rate lies between the two.
use Rattle.std.specs.Prelude.{◌≡◌, ℕ, suc, ◌+◌, ◌-◌, ◌*◌, ◌/◌, ◌%◌, ◌<◌, ◌≤◌, ◌^◌}
use Rattle.std.proofs.Common.{sym, ap, subst, ◌∙◌, ⊎_elim, arith}
use Rattle.std.specs.Int.{bit_at, w64, trailing_zeros, leading_zeros}
use Rattle.std.proofs.Math.Nat.{mul-le-mul_right, pow-le-pow_right, mod-eq_of_lt}
use Rattle.std.proofs.lemmas.Nat.{leading_top, shr_split, pow-add, mod_below, pow_pos}
use Rattle.std.proofs.lemmas.Nat.Bits.{bit_at_above, bit_at_cat_low, bit_at-zero, bit_at-trailing_zeros}
use Rattle.std.proofs.lemmas.Bool.{cases_lt}
use Rattle.rsvp_base.specs.Rates.{IsRate}
use Rattle.rsvp_base.proofs.RateBits.{highest_bit}
use Rattle.adspec_path.specs.RateBelow.{IsRateBelow}

-- a number of 24 bits is a rate
pub short_is_rate : (n : ℕ) → n < 2 ^ 24 → IsRate n
short_is_rate n short = record {
  small = omega (arith, short);
  near = λ i j at_i at_j. ⊎_elim
      (λ (h : j < 24). omega arith)
      (λ (h : 24 ≤ j). absurd (omega (arith, at_j, bit_at_above n 24 j short h)))
      (cases_lt j 24);
}

pub short_is_below_itself : (n : ℕ) → n < 2 ^ 24 → IsRateBelow n n
short_is_below_itself n short = record { rate = short_is_rate n short; below = omega arith; largest = λ m rate le. le }

-- a longer number, which has k bits below its 24 highest
module _ (n k : ℕ) (low : 2 ^ (k + 23) ≤ n) (high : n < 2 ^ (k + 24)) where
  abbrev top : ℕ
  top = n / 2 ^ k

  abbrev cutoff : ℕ
  cutoff = top * 2 ^ k

  split : cutoff + n % 2 ^ k ≡ n
  split = shr_split n k

  below : cutoff ≤ n
  below = omega (arith, split)

  -- what is set lies from k to k + 23
  from_k : (i : ℕ) → bit_at cutoff i ≡ 1 → k ≤ i
  from_k i at = ⊎_elim
      (λ (h : i < k).
      let plain : cutoff + 0 ≡ cutoff = omega arith in
      let none : bit_at cutoff i ≡ 0 = ap (λ (z : ℕ). bit_at z i) (sym plain) ∙ bit_at_cat_low top k 0 i h ∙ bit_at-zero i in
      absurd (omega (arith, at, none)))
      (λ (h : k ≤ i). h)
      (cases_lt i k)

  to_top : (j : ℕ) → bit_at cutoff j ≡ 1 → j < k + 24
  to_top j at = ⊎_elim
      (λ (h : j < k + 24). h)
      (λ (h : k + 24 ≤ j). absurd (omega (arith, at, bit_at_above cutoff (k + 24) j (omega (arith, below, high)) h)))
      (cases_lt j (k + 24))

  is_rate : n < 2 ^ 46 → IsRate cutoff
  is_rate small = record {
    small = omega (arith, below, small);
    near = λ i j at_i at_j. let from = from_k i at_i in let to = to_top j at_j in omega (arith, from, to);
  }

  -- 23 bits and more stand above k
  wide : 2 ^ 23 ≤ top
  wide = ⊎_elim
      (λ (h : top < 2 ^ 23).
      let more : (top + 1) * 2 ^ k ≤ 2 ^ 23 * 2 ^ k = mul-le-mul_right (2 ^ k) (omega (arith, h)) in
      let whole : 2 ^ (k + 23) ≡ 2 ^ k * 2 ^ 23 = pow-add 2 k 23 in
      let part : n % 2 ^ k < 2 ^ k = mod_below n (2 ^ k) (pow_pos k) in
      absurd (omega (arith, more, whole, part, split, low)))
      (λ (h : 2 ^ 23 ≤ top). h)
      (cases_lt top (2 ^ 23))

  -- a rate that is not above n is a multiple of 2^k, or is short
  module _ (m : ℕ) (rate : IsRate m) (le : m ≤ n) where
    whole : m / 2 ^ k * 2 ^ k + m % 2 ^ k ≡ m
    whole = shr_split m k

    no_more : m / 2 ^ k ≤ top
    no_more = ⊎_elim
        (λ (h : top < m / 2 ^ k).
        let more : (top + 1) * 2 ^ k ≤ m / 2 ^ k * 2 ^ k = mul-le-mul_right (2 ^ k) (omega (arith, h)) in
        let part : n % 2 ^ k < 2 ^ k = mod_below n (2 ^ k) (pow_pos k) in
        absurd (omega (arith, more, part, split, whole, le)))
        (λ (h : m / 2 ^ k ≤ top). h)
        (cases_lt top (m / 2 ^ k))

    -- where bits below k are set, all are below k + 23
    short_one : 0 < m % 2 ^ k → m < 2 ^ 64 → m < 2 ^ (k + 23)
    short_one some fits =
        let lo : ℕ = m % 2 ^ k in
        let part : lo < 2 ^ k = mod_below m (2 ^ k) (pow_pos k) in
        let low_bit = bit_at-trailing_zeros w64 lo some (omega (arith, whole, fits)) in
        let t : ℕ = trailing_zeros w64 lo in
        let t_below : t < k = ⊎_elim
        (λ (h : t < k). h)
        (λ (h : k ≤ t). absurd (omega (arith, low_bit.1, bit_at_above lo k t part h)))
        (cases_lt t k) in
        let in_m : bit_at m t ≡ 1 = ap (λ (z : ℕ). bit_at z t) (sym whole) ∙ bit_at_cat_low (m / 2 ^ k) k lo t t_below ∙ low_bit.1 in
        let high_bit = leading_top 64 m (omega (arith, whole, some)) fits in
        let j : ℕ = high_bit.0 in
        let at_j : bit_at m j ≡ 1 = highest_bit j m high_bit.2 high_bit.3 in
        let near = rate.near t j in_m at_j in
        let up : 2 ^ suc j ≤ 2 ^ (k + 23) = pow-le-pow_right (omega arith) (omega (arith, near, t_below)) in
        omega (arith, up, high_bit.3)

    largest : n < 2 ^ 46 → m ≤ cutoff
    largest small = ⊎_elim
        (λ (h : 0 < m % 2 ^ k).
        let short = short_one h (omega (arith, le, small)) in
        let up : 2 ^ 23 * 2 ^ k ≤ cutoff = mul-le-mul_right (2 ^ k) wide in
        let same : 2 ^ (k + 23) ≡ 2 ^ k * 2 ^ 23 = pow-add 2 k 23 in
        omega (arith, short, up, same))
        (λ (h : m % 2 ^ k ≤ 0).
        let up : m / 2 ^ k * 2 ^ k ≤ cutoff = mul-le-mul_right (2 ^ k) no_more in
        omega (arith, up, whole, h))
        (cases_lt 0 (m % 2 ^ k))

  pub cut_is_below : n < 2 ^ 46 → IsRateBelow n cutoff
  cut_is_below small = record { rate = is_rate small; below = below; largest = λ m rate le. largest m rate le small }

-- shifted down and up again: nothing is lost where 64 bits are kept
pub shifted_is_below : (n k : ℕ) → 2 ^ (k + 23) ≤ n → n < 2 ^ (k + 24) → n < 2 ^ 46 → IsRateBelow n (n / 2 ^ k * 2 ^ k % 2 ^ 64)
shifted_is_below n k low high small =
    let whole = shr_split n k in
    let kept : n / 2 ^ k * 2 ^ k % 2 ^ 64 ≡ n / 2 ^ k * 2 ^ k = mod-eq_of_lt (omega (arith, whole, small)) in
    subst (IsRateBelow n) (sym kept) (cut_is_below n k low high small)

-- ---- how many bits stand below the 24 highest
pub record AreBitsBelow (n r : ℕ) : Type 0 where
  pub low : 2 ^ (r + 23) ≤ n
  pub high : n < 2 ^ (r + 24)
  pub few : r ≤ 22

pub bits_below_of : (n r : ℕ) → 2 ^ 24 ≤ n → n < 2 ^ 46 → r ≡ 40 - leading_zeros w64 n → AreBitsBelow n r
bits_below_of n r long short is =
    let high_bit = leading_top 64 n (omega (arith, long)) (omega (arith, short)) in
    let j : ℕ = high_bit.0 in
    let at : leading_zeros w64 n + suc j ≡ 64 = high_bit.1 in
    let not_low : 24 ≤ j = ⊎_elim
    (λ (h : j < 24).
    let less : suc j ≤ 24 = omega (arith, h) in
    let up : 2 ^ suc j ≤ 2 ^ 24 = pow-le-pow_right (omega arith) less in
    absurd (omega (arith, up, high_bit.3, long)))
    (λ (h : 24 ≤ j). h)
    (cases_lt j 24) in
    let not_high : j ≤ 45 = ⊎_elim
    (λ (h : 45 < j).
    let less : 46 ≤ j = omega (arith, h) in
    let up : 2 ^ 46 ≤ 2 ^ j = pow-le-pow_right (omega arith) less in
    absurd (omega (arith, up, high_bit.2, short)))
    (λ (h : j ≤ 45). h)
    (cases_lt 45 j) in
    let low_at : r + 23 ≡ j = omega (arith, is, at, not_low) in
    let high_at : r + 24 ≡ suc j = omega (arith, low_at) in
    record {
      low = subst (λ (z : ℕ). 2 ^ z ≤ n) (sym low_at) high_bit.2;
      high = subst (λ (z : ℕ). n < 2 ^ z) (sym high_at) high_bit.3;
      few = omega (arith, low_at, not_high);
    }
