-- The nearest rates of a number that is none.
use Rattle.std.proofs.Common.{◌≡◌, ℕ, suc, ◌+◌, ◌-◌, ◌*◌, ◌/◌, ◌%◌, ◌<◌, ◌≤◌, ◌^◌, sym, ap, subst, ◌∙◌, refl, arith, inl, inr, lit<}
use Rattle.std.proofs.Math.Nat.{div-lt_iff_lt-mul, div-mul-le_self, lt-div-mul-add, lt_of_mul-lt-mul_right, one-le-pow, pow-le-pow_right}
use Rattle.std.specs.Int.{leading_zeros, w64}
use Rattle.std.proofs.lemmas.Nat.{le-div, leading_top, mul-le, pow-add}
use Rattle.std.proofs.lemmas.Nat.Bits.{bit_at_above}
use Rattle.std.proofs.lemmas.Bool.{cases_lt}
use Rattle.rsvp_base.specs.Rates.{IsRate}
use Rattle.rsvp_objects.proofs.Scaled.{multiple_below, rate_of_product}
use Rattle.line_advice.specs.FlowFaults.{AreNearest, NoRateIsLarger, largest_rate}

-- ---- the largest rate
two : 0 < 2
two = lit< tt

-- a number from 2^45 on, below 2^46, that is a rate is a multiple of 2^22
pub largest : (n : ℕ) → IsRate n → n ≤ largest_rate
largest n rate = elim (cases_lt largest_rate n) [
  | inl above ↦
      let low : 2 ^ 45 ≤ n = omega (arith, above) in
      let whole = multiple_below n 45 (omega (arith, above)) rate low rate.small (omega arith) in
      omega (arith, rate.small, whole, above)
  | inr le ↦ le
]

pub no_larger : NoRateIsLarger
no_larger = (subst IsRate (refl) (rate_of_product 16777215 22 (lit< tt) (lit< tt)), largest)

pub too_large : (n : ℕ) → largest_rate < n → IsRate n → ⊥
too_large n above rate = omega (arith, largest n rate, above)

-- ---- a number that is none has more than 24 bits
small_is_rate : (n : ℕ) → n < 2 ^ 24 → IsRate n
small_is_rate n small = record {
  small = omega arith;
  near = λ i j at_i at_j. elim (cases_lt j 24) [
    | inl lt ↦ omega arith
    | inr le ↦ absurd (omega (arith, at_j, bit_at_above n 24 j small le))
  ];
}

-- ---- the nearest: multiples of 2^k, where the highest bit is that of the place k + 23
by_22 : (n : ℕ) → n < largest_rate → n / 2 ^ 22 * 2 ^ 22 + 2 ^ 22 < 2 ^ 46
by_22 n small = omega (arith, small)

module _ (n k : ℕ) (low : 2 ^ (k + 23) ≤ n) (high : n < 2 ^ (k + 24)) where
  some_step : 0 < 2 ^ k
  some_step = one-le-pow k 2 two

  low_is : 2 ^ 23 * 2 ^ k ≡ 2 ^ (k + 23)
  low_is = sym (pow-add 2 23 k) ∙ ap (λ x. 2 ^ x) (let e : 23 + k ≡ k + 23 = omega arith in e)

  high_is : 2 ^ 24 * 2 ^ k ≡ 2 ^ (k + 24)
  high_is = sym (pow-add 2 24 k) ∙ ap (λ x. 2 ^ x) (let e : 24 + k ≡ k + 24 = omega arith in e)

  many : 2 ^ 23 ≤ n / 2 ^ k
  many = le-div (2 ^ 23) n (2 ^ k) some_step (omega (arith, low, low_is))

  few : n / 2 ^ k < 2 ^ 24
  few = (div-lt_iff_lt-mul some_step).1 (omega (arith, high, high_is))

  next : n / 2 ^ k * 2 ^ k + 2 ^ k ≡ (n / 2 ^ k + 1) * 2 ^ k
  next = grind arith

  from_low : 2 ^ (k + 23) ≤ n / 2 ^ k * 2 ^ k
  from_low = omega (arith, low_is, mul-le (2 ^ 23) (2 ^ k) (n / 2 ^ k) (2 ^ k) many (omega arith))

  to_high : n / 2 ^ k * 2 ^ k + 2 ^ k ≤ 2 ^ (k + 24)
  to_high =
      let one_more : n / 2 ^ k + 1 ≤ 2 ^ 24 = omega (arith, few) in
      omega (arith, next, high_is, mul-le (n / 2 ^ k + 1) (2 ^ k) (2 ^ 24) (2 ^ k) one_more (omega arith))

  module _ (none : IsRate n → ⊥) (small : n ≤ largest_rate) where
    short : k ≤ 22
    short = elim (cases_lt 22 k) [
      | inl far ↦ absurd (omega (arith, low, small, pow-le-pow_right two (let e : 46 ≤ k + 23 = omega (arith, far) in e)))
      | inr le ↦ le
    ]

    smaller : n < largest_rate
    smaller = elim (cases_lt n largest_rate) [
      | inl lt ↦ lt
      | inr le ↦ let e : largest_rate ≡ n = omega (arith, le, small) in absurd (none (subst IsRate e no_larger.0))
    ]

    below_46 : n / 2 ^ k * 2 ^ k + 2 ^ k < 2 ^ 46
    below_46 = elim (cases_lt k 22) [
      | inl lt ↦ omega (arith, to_high, pow-le-pow_right two (let e : k + 24 ≤ 45 = omega (arith, lt) in e))
      | inr le ↦ let e : 22 ≡ k = omega (arith, le, short) in subst (λ (x : ℕ). n / 2 ^ x * 2 ^ x + 2 ^ x < 2 ^ 46) e (by_22 n smaller)
    ]

    below_is : IsRate (n / 2 ^ k * 2 ^ k)
    below_is = rate_of_product (n / 2 ^ k) k few (omega (arith, below_46))

    above_is : IsRate (n / 2 ^ k * 2 ^ k + 2 ^ k)
    above_is = elim (cases_lt (n / 2 ^ k + 1) (2 ^ 24)) [
      | inl lt ↦ subst IsRate (sym next) (rate_of_product (n / 2 ^ k + 1) k lt (omega (arith, next, below_46)))
      | inr le ↦
          let all : n / 2 ^ k + 1 ≡ 2 ^ 24 = omega (arith, le, few) in
          let power : 1 * 2 ^ (k + 24) ≡ n / 2 ^ k * 2 ^ k + 2 ^ k = omega (arith, high_is, next ∙ ap (λ x. x * 2 ^ k) all) in
          subst IsRate power (rate_of_product 1 (k + 24) (lit< tt) (omega (arith, power, below_46)))
    ]

    under : n / 2 ^ k * 2 ^ k < n
    under = elim (cases_lt (n / 2 ^ k * 2 ^ k) n) [
      | inl lt ↦ lt
      | inr le ↦ let e : n / 2 ^ k * 2 ^ k ≡ n = omega (arith, le, div-mul-le_self n (2 ^ k)) in absurd (none (subst IsRate e below_is))
    ]

    no_rate_between : (m : ℕ) → IsRate m → n / 2 ^ k * 2 ^ k < m → m < n / 2 ^ k * 2 ^ k + 2 ^ k → ⊥
    no_rate_between m rate over below =
        let m_low : 2 ^ (k + 23) ≤ m = omega (arith, from_low, over) in
        let m_high : m < 2 ^ suc (k + 23) = omega (arith, to_high, below, ap (λ x. 2 ^ x) (let e : k + 24 ≡ suc (k + 23) = omega arith in e)) in
        let step : k + 23 - 23 ≡ k = omega arith in
        let whole : m / 2 ^ k * 2 ^ k ≡ m =
        subst (λ (x : ℕ). m / 2 ^ x * 2 ^ x ≡ m) step (multiple_below m (k + 23) (omega (arith, over)) rate m_low m_high (omega arith)) in
        let more : n / 2 ^ k < m / 2 ^ k = lt_of_mul-lt-mul_right (2 ^ k) (omega (arith, whole, over)) in
        let less : m / 2 ^ k < n / 2 ^ k + 1 = lt_of_mul-lt-mul_right (2 ^ k) (omega (arith, whole, below, next)) in
        omega (arith, more, less)

    near : AreNearest n (n / 2 ^ k * 2 ^ k) (n / 2 ^ k * 2 ^ k + 2 ^ k)
    near = record { below_is = below_is; above_is = above_is; under = under; over = lt-div-mul-add some_step; between = no_rate_between }

-- by how many zeros stand in front
module _ (n : ℕ) (none : IsRate n → ⊥) (small : n ≤ largest_rate) where
  long : 2 ^ 24 ≤ n
  long = elim (cases_lt n (2 ^ 24)) [ inl lt ↦ absurd (none (small_is_rate n lt)) | inr le ↦ le ]

  top : (j : ℕ) × (leading_zeros w64 n + suc j ≡ 64) × (2 ^ j ≤ n) × (n < 2 ^ suc j)
  top = leading_top 64 n (omega (arith, long)) (omega (arith, small))

  far : 24 ≤ top.0
  far = elim (cases_lt top.0 24) [
    | inl lt ↦ absurd (omega (arith, top.3, long, pow-le-pow_right two (let e : suc top.0 ≤ 24 = omega (arith, lt) in e)))
    | inr le ↦ le
  ]

  pub zeros : leading_zeros w64 n ≤ 39
  zeros = omega (arith, top.1, far)

  -- what the number is a multiple of, as the code has it
  pub step_is : 1 * 2 ^ (40 - leading_zeros w64 n) % 2 ^ 64 ≡ 2 ^ (40 - leading_zeros w64 n)
  step_is = let few : 40 - leading_zeros w64 n ≤ 40 = omega arith in omega (arith, pow-le-pow_right two few)

  pub nearest_rates : AreNearest n (n / 2 ^ (40 - leading_zeros w64 n) * 2 ^ (40 - leading_zeros w64 n))
      (n / 2 ^ (40 - leading_zeros w64 n) * 2 ^ (40 - leading_zeros w64 n) + 2 ^ (40 - leading_zeros w64 n))
  nearest_rates =
      let k = 40 - leading_zeros w64 n in
      let place : k + 23 ≡ top.0 = omega (arith, top.1, far) in
      let low : 2 ^ (k + 23) ≤ n = subst (λ (x : ℕ). 2 ^ x ≤ n) (sym place) top.2 in
      let high : n < 2 ^ (k + 24) = subst (λ (x : ℕ). n < 2 ^ x) (let e : suc top.0 ≡ k + 24 = omega (arith, place) in e) top.3 in
      near n k low high none small
