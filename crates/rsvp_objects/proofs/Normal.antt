-- The word of a rate spells it.
use Rattle.std.proofs.Common.{◌≡◌, ◌+◌, ◌-◌, ◌*◌, ◌/◌, ◌^◌, ◌<◌, ◌≤◌, ℕ, suc, sym, ap, subst, ◌∙◌, refl, arith, inl, inr}
use Rattle.std.proofs.lemmas.Nat.{leading_top}
use Rattle.std.proofs.lemmas.Bool.{le-leb, lt-leb, cases_lt, ne_eqb}
use Rattle.rsvp_base.specs.Rates.{IsRate}
use Rattle.rsvp_base.specs.declared.flow.Peak.TheVariants.{Finite}
use Rattle.rsvp_objects.specs.RateWord.{StandsFor, IsNumberWord, exponent, fraction, highest_bit, mantissa, number_word, word_of}
use Rattle.rsvp_objects.proofs.Scaled.{left, right, top_below}

stands_from : (n high m : ℕ) → 1 ≤ n → n < 2 ^ 46 → high ≤ 45 → 2 ^ 23 ≤ m → m < 2 ^ 24 → n * 2 ^ 150 ≡ m * 2 ^ (high + 127) → IsNumberWord ((high + 127) * 2 ^ 23 + (m - 2 ^ 23)) n
stands_from n high m pos below small low short e =
    let w = (high + 127) * 2 ^ 23 + (m - 2 ^ 23) in
    let exp : exponent w ≡ high + 127 = omega arith in
    let frac : 2 ^ 23 + fraction w ≡ m = omega arith in
    record { positive = pos; below = below; normal = record { unsigned = omega arith; not_least = omega arith; not_most = omega arith }; scaled = e ∙ (λ i. sym frac i * 2 ^ sym exp i) }

top : (n : ℕ) → 0 < n → n < 2 ^ 46 → (2 ^ highest_bit n ≤ n) × (n < 2 ^ suc (highest_bit n))
top n pos below =
    let t = leading_top 64 n pos (omega arith) in
    let e : highest_bit n ≡ t.0 = omega (arith, t.1) in
    (subst (λ x. 2 ^ x ≤ n) (sym e) t.2, subst (λ x. n < 2 ^ suc x) (sym e) t.3)

pub normal_stands : (n : ℕ) → 0 < n → IsRate n → IsNumberWord (number_word n) n
normal_stands n pos rate =
    let t = top n pos rate.small in
    let small : highest_bit n ≤ 45 = omega (arith, top_below n (highest_bit n) rate.small t.0) in
    elim (cases_lt 23 (highest_bit n)) [
      | inl lt ↦
          let r = right n (highest_bit n) pos rate t.0 t.1 (omega arith) in
          let e : mantissa n (highest_bit n) ≡ n / 2 ^ (highest_bit n - 23) = rw (lt-leb _ _ lt) refl in
          subst (λ (m : ℕ). IsNumberWord ((highest_bit n + 127) * 2 ^ 23 + (m - 2 ^ 23)) n) (sym e) (stands_from n (highest_bit n) _ pos rate.small small r.0 r.1 r.2)
      | inr le ↦
          let r = left n (highest_bit n) t.0 t.1 le in
          let e : mantissa n (highest_bit n) ≡ n * 2 ^ (23 - highest_bit n) = rw (le-leb _ _ le) refl in
          subst (λ (m : ℕ). IsNumberWord ((highest_bit n + 127) * 2 ^ 23 + (m - 2 ^ 23)) n) (sym e) (stands_from n (highest_bit n) _ pos rate.small small r.1 r.2 r.3)
    ]

word_is : (n : ℕ) → 0 < n → word_of (Finite n) ≡ number_word n
unfolding word_of
word_is n pos = rw (ne_eqb n 0 (λ e. omega arith)) refl

pub word_spells : (n : ℕ) → IsRate n → StandsFor (word_of (Finite n)) (Finite n)
unfolding word_of
word_spells n rate = elim (cases_lt 0 n) [
  | inl pos ↦ inr (subst (λ (w : ℕ). IsNumberWord w n) (sym (word_is n pos)) (normal_stands n pos rate))
  | inr le ↦ let e : n ≡ 0 = omega arith in inl (ap (λ (k : ℕ). word_of (Finite k)) e, e)
]

pub word_short : (n : ℕ) → IsRate n → word_of (Finite n) < 2 ^ 32
unfolding word_of
word_short n rate = elim (cases_lt 0 n) [
  | inl pos ↦ let s = normal_stands n pos rate in omega (arith, s.normal.unsigned, word_is n pos)
  | inr le ↦ let e : n ≡ 0 = omega arith in let w : word_of (Finite n) ≡ 0 = ap (λ (k : ℕ). word_of (Finite k)) e in omega arith
]
