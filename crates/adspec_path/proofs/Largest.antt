-- The definition by bits is the largest rate, and there is one.
use Rattle.std.specs.Prelude.{◌≡◌, ℕ, suc, ◌+◌, ◌-◌, ◌*◌, ◌/◌, ◌<◌, ◌≤◌, ◌^◌, min}
use Rattle.std.proofs.Common.{sym, ap, subst, ◌∙◌, ⊎_elim, arith}
use Rattle.std.specs.Int.{w64, leading_zeros}
use Rattle.std.proofs.Math.Nat.{pow-le-pow_right}
use Rattle.std.proofs.lemmas.Nat.{leading_top, shr_split}
use Rattle.std.proofs.lemmas.Bool.{cases_lt}
use Rattle.adspec_path.specs.RateBelow.{IsRateBelow, RateBelowIsTheLargest, bits_below, rate_below, top_bits}
use Rattle.adspec_path.proofs.Cutting.{bits_below_of, cut_is_below, short_is_below_itself}

-- all 24 bits of a short number are kept
none_below : (n : ℕ) → 0 < n → n < 2 ^ 24 → bits_below n ≡ 0
none_below n some low =
    let high_bit = leading_top 64 n some (omega (arith, low)) in
    let j : ℕ = high_bit.0 in
    let at : leading_zeros w64 n + suc j ≡ 64 = high_bit.1 in
    let few : j < 24 = ⊎_elim
    (λ (h : j < 24). h)
    (λ (h : 24 ≤ j).
    let up : 2 ^ 24 ≤ 2 ^ j = pow-le-pow_right (omega arith) h in
    absurd (omega (arith, up, high_bit.2, low)))
    (cases_lt j 24) in
    omega (arith, at, few)

whole : (n : ℕ) → n < 2 ^ 24 → top_bits n ≡ n
whole n low = ⊎_elim
    (λ (some : 0 < n). ap (λ (k : ℕ). n / 2 ^ k * 2 ^ k) (none_below n some low) ∙ omega arith)
    (λ (none : n ≤ 0). let split = shr_split n (bits_below n) in omega (arith, split, none))
    (cases_lt 0 n)

-- of a number below 2^46
of_top_bits : (n : ℕ) → n < 2 ^ 46 → IsRateBelow n (top_bits n)
of_top_bits n small = ⊎_elim
    (λ (low : n < 2 ^ 24). subst (IsRateBelow n) (sym (whole n low)) (short_is_below_itself n low))
    (λ (long : 2 ^ 24 ≤ n).
    let at = bits_below_of n (bits_below n) long small (omega arith) in
    cut_is_below n (bits_below n) at.low at.high small)
    (cases_lt n (2 ^ 24))

-- no rate lies between a number and 2^46 - 1
pub below_of_least : (n r : ℕ) → IsRateBelow (min n (2 ^ 46 - 1)) r → IsRateBelow n r
below_of_least n r l = record {
  rate = l.rate;
  below = let below = l.below in omega (arith, below);
  largest = λ m rate le. let small = rate.small in l.largest m rate (omega (arith, small, le));
}

pub of_rate_below : (n : ℕ) → IsRateBelow n (rate_below n)
unfolding rate_below
of_rate_below n = below_of_least n (rate_below n) (of_top_bits (min n (2 ^ 46 - 1)) (omega arith))

pub one_below : (n r : ℕ) → IsRateBelow n r → r ≡ rate_below n
one_below n r l =
    let d = of_rate_below n in
    let up = d.largest r l.rate l.below in
    let down = l.largest (rate_below n) d.rate d.below in
    omega (arith, up, down)

pub rate_below_is_the_largest : RateBelowIsTheLargest
rate_below_is_the_largest n r = (one_below n r, λ same. subst (IsRateBelow n) (sym same) (of_rate_below n))
