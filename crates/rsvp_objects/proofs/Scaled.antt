-- A mantissa times a power of 2, against the equation of a rate word.
use Rattle.std.proofs.Common.{◌≡◌, ℕ, suc, ◌+◌, ◌-◌, ◌*◌, ◌/◌, ◌%◌, ◌^◌, ◌<◌, ◌≤◌, sym, ap, subst, ◌∙◌, arith, ⊎_elim, inl, inr, zero}
use Rattle.std.specs.Int.{bit_at}
use Rattle.std.proofs.lemmas.Nat.{pow-add, pow_pos, shl_below, mul-le, shl-shr, shl_whole, shr_below, le-div}
use Rattle.std.proofs.lemmas.Nat.Bits.{bit_at-suc, bit_at_lowest, bit_at_cat_low, bit_at_above, bit_at-zero, bit_at-lt}
use Rattle.std.proofs.lemmas.Bool.{cases_lt}
use Rattle.std.proofs.Math.Nat.{pow-suc, eq_of_mul-eq-mul_right, pow-le-pow_right}
use Rattle.rsvp_base.specs.Rates.{IsRate}
use Rattle.rsvp_base.proofs.RateBits.{highest_bit}
use Rattle.rsvp_base.specs.declared.flow.Peak.{Peak}
use Rattle.rsvp_base.specs.declared.flow.Peak.TheVariants.{Finite, Infinite}
use Rattle.rsvp_objects.specs.RateWord.{sign, exponent, fraction, IsNumberWord, StandsFor}

-- (m · 2^k) · 2^B = m · 2^(k + B)
pub scaled_up : (m k B e : ℕ) → k + B ≡ e → (m * 2 ^ k) * 2 ^ B ≡ m * 2 ^ e
scaled_up m k B e is = rw (sym is, pow-add 2 k B) (omega arith)

-- q · 2^(k + e) = (q · 2^k) · 2^e
pub scaled_down : (q m k B e : ℕ) → k + e ≡ B → q * 2 ^ k ≡ m → q * 2 ^ B ≡ m * 2 ^ e
scaled_down q m k B e is whole = rw (sym is, pow-add 2 k e, sym whole) (omega arith)

-- from the equation, the number times 2^(B - e)
pub unscaled_down : (n m k B e : ℕ) → k + e ≡ B → n * 2 ^ B ≡ m * 2 ^ e → n * 2 ^ k ≡ m
unscaled_down n m k B e is eq =
    let apart : (n * 2 ^ k) * 2 ^ e ≡ m * 2 ^ e = scaled_up n k e B is ∙ eq in
    eq_of_mul-eq-mul_right (2 ^ e) (pow_pos e) (n * 2 ^ k) m apart

-- a number with no bit below place k is a multiple of 2^k
multiple_of_pow : (k n : ℕ) → ((i : ℕ) → i < k → bit_at n i ≡ 0) → (m : ℕ) × (n ≡ m * 2 ^ k)
multiple_of_pow zero n none = (n, omega arith)
multiple_of_pow (suc k) n none =
    let rest = multiple_of_pow k (n / 2) (λ i h. sym (bit_at-suc n i) ∙ none (suc i) (omega arith)) in
    let even : n % 2 ≡ 0 = sym (bit_at_lowest n) ∙ none 0 (omega arith) in
    (rest.0, rw (pow-suc 2 k) (omega (arith, rest.1, even)))

-- a mantissa of 24 bits, moved up, is a rate
pub rate_of_product : (m k : ℕ) → m < 2 ^ 24 → m * 2 ^ k < 2 ^ 46 → IsRate (m * 2 ^ k)
rate_of_product m k short below = record {
  small = below;
  near = λ i j at_i at_j.
      let zeros : (l : ℕ) → l < k → bit_at (m * 2 ^ k) l ≡ 0 = λ l h. ap (λ x. bit_at x l) (let e : m * 2 ^ k ≡ m * 2 ^ k + 0 = omega arith in e) ∙ bit_at_cat_low m k 0 l h ∙ bit_at-zero l in
      let low : k ≤ i = ⊎_elim (λ h. absurd (omega (arith, zeros i h, at_i))) (λ h. h) (cases_lt i k) in
      let high : j < 24 + k = ⊎_elim (λ h. h) (λ h. absurd (omega (arith, bit_at_above (m * 2 ^ k) (24 + k) j (shl_below m 24 k short) h, at_j))) (cases_lt j (24 + k)) in
      omega arith;
}

-- two mantissas of 24 bits, each with its top bit, that stand for one number have one exponent
no_higher : (m m' e e' : ℕ) → 2 ^ 23 ≤ m' → m < 2 ^ 24 → m * 2 ^ e ≡ m' * 2 ^ e' → ¬ (e < e')
no_higher m m' e e' low short eq less =
    let k = e' - e in
    let sum : k + e ≡ e' = omega arith in
    let one : 1 ≤ k = omega arith in
    let two : 0 < 2 = omega arith in
    let apart = unscaled_down m' m k e' e sum (sym eq) in
    let big = mul-le (2 ^ 23) (2 ^ 1) m' (2 ^ k) low (pow-le-pow_right two one) in
    omega (arith, apart, big)

pub one_exponent : (m m' e e' : ℕ) → 2 ^ 23 ≤ m → m < 2 ^ 24 → 2 ^ 23 ≤ m' → m' < 2 ^ 24 → m * 2 ^ e ≡ m' * 2 ^ e' → (e ≡ e') × (m ≡ m')
one_exponent m m' e e' low short low' short' eq =
    let a : ¬ (e < e') = no_higher m m' e e' low' short eq in
    let b : ¬ (e' < e) = no_higher m' m e' e low short' (sym eq) in
    let same : e ≡ e' = ⊎_elim (λ h. absurd (a h)) (λ h. ⊎_elim (λ g. absurd (b g)) (λ g. omega arith) (cases_lt e' e)) (cases_lt e e') in
    (same, eq_of_mul-eq-mul_right (2 ^ e) (pow_pos e) m m' (eq ∙ ap (λ x. m' * 2 ^ x) (sym same)))

-- a word without sign is its exponent and fraction
from_fields : (w : ℕ) → sign w ≡ 0 → w ≡ exponent w * 2 ^ 23 + fraction w
from_fields w s = omega (arith, s)

one_number_word : (v w n : ℕ) → IsNumberWord v n → IsNumberWord w n → v ≡ w
one_number_word v w n a b =
    let r = one_exponent (2 ^ 23 + fraction v) (2 ^ 23 + fraction w) (exponent v) (exponent w) (omega arith) (omega arith) (omega arith) (omega arith) (sym a.scaled ∙ b.scaled) in
    omega (arith, from_fields v a.normal.unsigned, from_fields w b.normal.unsigned, r.0, r.1)

-- each rate and infinity has one word
pub one_word : (p : Peak) (v w : ℕ) → StandsFor v p → StandsFor w p → v ≡ w
one_word (Finite n) v w (inl a) (inl b) = a.0 ∙ sym b.0
one_word (Finite n) v w (inl a) (inr b) = absurd (omega (arith, a.1, b.positive))
one_word (Finite n) v w (inr a) (inl b) = absurd (omega (arith, b.1, a.positive))
one_word (Finite n) v w (inr a) (inr b) = one_number_word v w n a b
one_word Infinite v w a b = omega (arith, from_fields v a.0, from_fields w b.0, a.1, a.2, b.1, b.2)

-- the word of an exponent and a mantissa
pub word_of_fields : (e m n : ℕ) → 1 ≤ e → e ≤ 254 → 2 ^ 23 ≤ m → m < 2 ^ 24 → 1 ≤ n → n < 2 ^ 46 → n * 2 ^ 150 ≡ m * 2 ^ e → IsNumberWord (e * 2 ^ 23 + (m - 2 ^ 23)) n
word_of_fields e m n some finite low short pos below eq =
    let w = e * 2 ^ 23 + (m - 2 ^ 23) in
    let f : fraction w ≡ m - 2 ^ 23 = omega arith in
    let x : exponent w ≡ e = omega arith in
    let y : 2 ^ 23 + fraction w ≡ m = omega (arith, f) in
    record { positive = pos; below = below; normal = record { unsigned = omega arith; not_least = omega (arith, x); not_most = omega (arith, x) }; scaled = rw (x, y) eq }

-- what is below its highest bit in a rate is a multiple of what its word has no room for
pub multiple_below : (n j : ℕ) → 0 < n → IsRate n → 2 ^ j ≤ n → n < 2 ^ suc j → 23 ≤ j → n / 2 ^ (j - 23) * 2 ^ (j - 23) ≡ n
multiple_below n j pos rate low high far =
    let k = j - 23 in
    let r = multiple_of_pow k n (λ i h. ⊎_elim (λ z. let e : bit_at n i ≡ 0 = omega arith in e)
    (λ o. absurd (let one : bit_at n i ≡ 1 = omega (arith, bit_at-lt n i) in let near = rate.near i j one (highest_bit j n low high) in omega (arith, near))) (cases_lt (bit_at n i) 1)) in
    ap (λ x. x / 2 ^ k * 2 ^ k) r.1 ∙ ap (λ x. x * 2 ^ k) (shl-shr r.0 k) ∙ sym r.1

-- the mantissa of a number of at most 24 bits
pub left : (n j : ℕ) → 2 ^ j ≤ n → n < 2 ^ suc j → j ≤ 23 → (n * 2 ^ (23 - j) % 2 ^ 64 ≡ n * 2 ^ (23 - j)) × (2 ^ 23 ≤ n * 2 ^ (23 - j)) × (n * 2 ^ (23 - j) < 2 ^ 24)
    × (n * 2 ^ 150 ≡ (n * 2 ^ (23 - j)) * 2 ^ (j + 127))
left n j low high near =
    let k = 23 - j in
    let two : 0 < 2 = omega arith in
    let sj : suc j ≤ 24 = omega arith in
    let short : n < 2 ^ 24 = omega (arith, pow-le-pow_right two sj) in
    let sum : j + k ≡ 23 = omega arith in
    let sum' : suc j + k ≡ 24 = omega arith in
    let floor : 2 ^ 23 ≡ 2 ^ j * 2 ^ k = ap (λ x. 2 ^ x) (sym sum) ∙ pow-add 2 j k in
    let roof : 2 ^ (suc j + k) ≡ 2 ^ 24 = ap (λ x. 2 ^ x) sum' in (
      shl_whole n 24 k 64 short (omega arith),
      omega (arith, floor, mul-le (2 ^ j) (2 ^ k) n (2 ^ k) low (omega arith)),
      omega (arith, shl_below n (suc j) k high, roof),
      sym (scaled_up n k (j + 127) 150 (omega arith)),
    )

-- and of a longer one
pub right : (n j : ℕ) → 0 < n → IsRate n → 2 ^ j ≤ n → n < 2 ^ suc j → 23 ≤ j → (2 ^ 23 ≤ n / 2 ^ (j - 23)) × (n / 2 ^ (j - 23) < 2 ^ 24) × (n * 2 ^ 150 ≡ (n / 2 ^ (j - 23)) * 2 ^ (j + 127))
right n j pos rate low high far =
    let k = j - 23 in
    let q = n / 2 ^ k in
    let whole = multiple_below n j pos rate low high far in
    let sum : 23 + k ≡ j = omega arith in
    let sum' : 24 + k ≡ suc j = omega arith in
    let floor : 2 ^ 23 * 2 ^ k ≡ 2 ^ j = sym (pow-add 2 23 k) ∙ ap (λ x. 2 ^ x) sum in
    let roof : n < 2 ^ (24 + k) = subst (λ x. n < 2 ^ x) (sym sum') high in
    (le-div (2 ^ 23) n (2 ^ k) (pow_pos k) (omega (arith, floor)), shr_below n 24 k roof, ap (λ x. x * 2 ^ 150) (sym whole) ∙ scaled_up q k 150 (j + 127) (omega arith))

-- a rate's highest bit
pub top_below : (n j : ℕ) → n < 2 ^ 46 → 2 ^ j ≤ n → j < 46
top_below n j below low = let two : 0 < 2 = omega arith in ⊎_elim (λ h. h) (λ h. absurd (omega (arith, pow-le-pow_right two h))) (cases_lt j 46)

-- 0 has no set bit
zero_is_rate : IsRate 0
zero_is_rate = record { small = omega arith; near = λ i j at_i at_j. absurd (omega (arith, bit_at-zero i, at_i)) }

-- a number that a word stands for is a rate
pub rate_of_word_number : (w n : ℕ) → StandsFor w (Finite n) → IsRate n
rate_of_word_number w n (inl h) = subst IsRate (sym h.1) zero_is_rate
rate_of_word_number w n (inr h) =
    let m = 2 ^ 23 + fraction w in
    let e = exponent w in
    ⊎_elim (λ (low : e < 150).
    let whole : n * 2 ^ (150 - e) ≡ m = unscaled_down n m (150 - e) 150 e (omega arith) h.scaled in
    let some : 1 ≤ 2 ^ (150 - e) = pow_pos (150 - e) in
    let few : n * 1 ≤ n * 2 ^ (150 - e) = mul-le n 1 n (2 ^ (150 - e)) (omega arith) some in
    let back : n * 2 ^ 0 ≡ n = omega arith in
    subst IsRate back (rate_of_product n 0 (omega (arith, few, whole)) (omega (arith, back, h.below))))
    (λ (high : 150 ≤ e).
    let k = e - 150 in
    let sum : k + 150 ≡ e = omega arith in
    let is : n ≡ m * 2 ^ k = eq_of_mul-eq-mul_right (2 ^ 150) (pow_pos 150) n (m * 2 ^ k) (h.scaled ∙ sym (scaled_up m k 150 e sum)) in
    subst IsRate (sym is) (rate_of_product m k (omega arith) (omega (arith, is, h.below))))
    (cases_lt e 150)
