-- What a word is read as is a rate.
use Rattle.std.proofs.Common.{◌≡◌, ℕ, ◌+◌, ◌*◌, ◌/◌, ◌%◌, ◌^◌, ◌<◌, ◌≤◌, Bool, true, false, Option, Some, None, Result, Ok, Err, refl, subst, arith, inl, inr}
use Rattle.std.specs.Prelude.{List, not, nat_le, nat_lt, ◌==◌, option_and_then}
use Rattle.std.proofs.lemmas.Nat.{mul-le, pow_pos}
use Rattle.std.proofs.lemmas.Bool.{eqb-true, eqb-false, leb-false, ltb-false}
use Rattle.rsvp_base.specs.Rates.{IsRate}
use Rattle.rsvp_base.specs.declared.flow.Peak.{Peak}
use Rattle.rsvp_objects.specs.declared.rate_err.RateErr.{RateErr}
use Rattle.rsvp_objects.specs.Fields.{word_at}
use Rattle.rsvp_objects.specs.RateFault.{whole_number, rate_word}
use Rattle.rsvp_objects.specs.RateFields.{peak_in, peak_at}
use Rattle.rsvp_objects.specs.RateLaws.{IsPeak}
use Rattle.rsvp_objects.specs.RateWord.{sign, exponent, fraction}
use Rattle.rsvp_objects.proofs.Choices.{chosen}
use Rattle.rsvp_objects.proofs.Scaled.{rate_of_word_number}

peak_said : {p q : Peak} → ◌≡◌ {A = Result Peak RateErr} (Ok p) (Ok q) → p ≡ q
peak_said e = cc

pub some_said : {A : Type 0} {x y : A} → ◌≡◌ {A = Option A} (Some x) (Some y) → x ≡ y
some_said e = cc

pub not_false : (b : Bool) → not b ≡ false → b ≡ true
not_false true e = refl
not_false false e = cc

abbrev said : Peak → Result Peak RateErr
said p = Ok p

whole_proper : (w : ℕ) (p : Peak) → sign w ≡ 0 → 1 ≤ exponent w → exponent w ≤ 254 → whole_number ((2 ^ 23 + fraction w) * 2 ^ exponent w) ≡ said p → IsPeak p
whole_proper w p unsigned low high e =
    let x = (2 ^ 23 + fraction w) * 2 ^ exponent w in
    let some : 1 * 1 ≤ x = mul-le 1 1 (2 ^ 23 + fraction w) (2 ^ exponent w) (omega arith) (pow_pos (exponent w)) in
    elim (chosen (not (x % 2 ^ 150 == 0)) _ _ _ e) [
      | inl q ↦ absurd (let z = q.1 in cc)
      | inr q ↦
          let whole : x % 2 ^ 150 ≡ 0 = eqb-true (x % 2 ^ 150) 0 (not_false (x % 2 ^ 150 == 0) q.0) in
          elim (chosen (nat_le (2 ^ 46) (x / 2 ^ 150)) _ _ _ q.1) [
            | inl r ↦ absurd (let z = r.1 in cc)
            | inr r ↦
                let below : x / 2 ^ 150 < 2 ^ 46 = leb-false (2 ^ 46) (x / 2 ^ 150) r.0 in
                let scaled : x / 2 ^ 150 * 2 ^ 150 ≡ x = omega (arith, whole) in
                subst IsPeak (peak_said r.1) (rate_of_word_number w (x / 2 ^ 150) (inr (record {
                  positive = omega
                      (arith, some, whole);
                  below = below;
                  normal = record { unsigned = unsigned; not_least = low; not_most = high };
                  scaled = scaled;
                })))
          ]
    ]

zero_proper : IsRate 0
zero_proper = rate_of_word_number 0 0 (inl (refl, refl))

rate_proper : (w : ℕ) (p : Peak) → rate_word w ≡ said p → IsPeak p
unfolding rate_word
rate_proper w p e =
    elim (chosen (nat_lt 0 (sign w)) _ _ _ e) [
      | inl q ↦ absurd (let z = q.1 in cc)
      | inr q ↦
          let unsigned : sign w ≡ 0 = let z = ltb-false 0 (sign w) q.0 in omega arith in
          elim (chosen (exponent w == 255) _ _ _ q.1) [
            | inl r ↦ elim (chosen (fraction w == 0) _ _ _ r.1) [ inl z ↦ subst IsPeak (peak_said z.1) tt | inr z ↦ absurd (let y = z.1 in cc) ]
            | inr r ↦
                elim (chosen (exponent w == 0) _ _ _ r.1) [
                  | inl z ↦ elim (chosen (fraction w == 0) _ _ _ z.1) [ inl y ↦ subst IsPeak (peak_said y.1) zero_proper | inr y ↦ absurd (let v = y.1 in cc) ]
                  | inr z ↦
                      let most : exponent w ≡ 255 → ⊥ = eqb-false (exponent w) 255 r.0 in
                      let least : exponent w ≡ 0 → ⊥ = eqb-false (exponent w) 0 z.0 in
                      whole_proper w p unsigned (omega (arith, least)) (omega (arith, most)) z.1
                ]
          ]
    ]

peak_from : (w : ℕ) (r : Result Peak RateErr) (p : Peak) → rate_word w ≡ r → peak_in r ≡ Some p → IsPeak p
peak_from w (Ok q) p is e = subst IsPeak (some_said e) (rate_proper w q is)
peak_from w (Err f) p is e = absurd cc

pub peak_proper : (place : ℕ) (body : List ℕ) (p : Peak) → peak_at place body ≡ Some p → IsPeak p
peak_proper place body p e = peak_from (word_at place body) (rate_word (word_at place body)) p refl e

-- what a step of a reading gave
pub record Gave {A B : Type 0} (f : A → Option B) (o : Option A) (y : B) : Type 0 where
  pub value : A
  pub was : o ≡ Some value
  pub rest : f value ≡ Some y

pub gave : {A B : Type 0} (f : A → Option B) (o : Option A) (y : B) → option_and_then f o ≡ Some y → Gave f o y
gave f (Some x) y e = record { value = x; was = refl; rest = e }
gave f None y e = absurd cc
