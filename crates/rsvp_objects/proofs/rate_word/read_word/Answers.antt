use Rattle.std.proofs.Common.{◌≡◌, ◌+◌, ◌-◌, ◌*◌, ◌/◌, ◌%◌, ◌^◌, ◌<◌, ◌≤◌, ℕ, sym, ap, ◌∙◌, subst, refl, arith, inl, inr}
use Rattle.std.specs.Int.RustNames.{bit_and}
use Rattle.std.proofs.lemmas.Nat.{and_mask, mul-le, shl_whole, shr_le, shl-shr, shl_below, pow_pos}
use Rattle.std.proofs.lemmas.Bool.{cases_lt}
use Rattle.std.proofs.Math.Nat.{pow-le-pow_right}
use Rattle.rsvp_objects.specs.RateWord.{exponent, fraction, IsScaled}
use Rattle.rsvp_objects.proofs.Scaled.{scaled_up, scaled_down, unscaled_down}
use Rattle.rsvp_objects.proofs.rate_word.read_word.Goals as goal
use Rattle.rsvp_objects.proofs.rate_word.read_word.Goals.{then-down-gt-EXPONENT_AT-via-then-down-gt-EXPONENT_AT, then-down-gt-EXPONENT_AT-via-else-down-gt-EXPONENT_AT+then-mantissa-down}

exponent_is : (w : ℕ) → bit_and (w / 2 ^ 23) 255 ≡ exponent w
exponent_is w = and_mask (w / 2 ^ 23) 8

fraction_is : (w : ℕ) → bit_and w 8388607 ≡ fraction w
fraction_is w = and_mask w 23

-- how far down the mantissa goes, and the mantissa
down_is : (w : ℕ) → 150 - bit_and (w / 2 ^ 23) 255 ≡ 150 - exponent w
down_is w = ap (λ x. 150 - x) (exponent_is w)

mantissa_is : (w : ℕ) → 2 ^ 23 + bit_and w 8388607 ≡ 2 ^ 23 + fraction w
mantissa_is w = ap (λ x. 2 ^ 23 + x) (fraction_is w)

pub returns-then-up-ge-ROOM_ABOVE-clause-err : goal.returns-then-up-ge-ROOM_ABOVE-clause-err
returns-then-up-ge-ROOM_ABOVE-clause-err c =
    let w = c.args.word in
    let e = exponent_is w in
    let up = exponent w - 150 in
    let long : 23 ≤ up = omega (arith, e) in
    let two : 0 < 2 = omega arith in
    let m = 2 ^ 23 + fraction w in (
      record { unsigned = omega arith; not_least = omega (arith, e); not_most = omega (arith, e) },
      (m * 2 ^ up, scaled_up m up 150 (exponent w) (omega (arith, e)), mul-le (2 ^ 23) (2 ^ 23) m (2 ^ up) (omega arith) (pow-le-pow_right two long)),
    )

pub returns-then-exponent-ge-WHOLE-clause-ok : goal.returns-then-exponent-ge-WHOLE-clause-ok
returns-then-exponent-ge-WHOLE-clause-ok c =
    let w = c.args.word in
    let e = exponent_is w in
    let f = fraction_is w in
    let up = exponent w - 150 in
    let m = 2 ^ 23 + fraction w in
    let n = c.moved_up-then-exponent-ge-WHOLE.result in
    let is : n ≡ m * 2 ^ up = c.moved_up-then-exponent-ge-WHOLE.ensures ∙ ap (λ x. (2 ^ 23 + x) * 2 ^ (bit_and (w / 2 ^ 23) 255 - 150)) f ∙ ap (λ x. m * 2 ^ (x - 150)) e in
    let short : m < 2 ^ 24 = omega arith in
    let two : 0 < 2 = omega arith in
    let low : 24 + up ≤ 46 = omega (arith, e) in
    let one : 1 * 1 ≤ m * 2 ^ up = mul-le 1 1 m (2 ^ up) (omega arith) (pow_pos up) in
    inr (record {
      positive = rw is one;
      below = omega (arith, is, shl_below m 24 up short, pow-le-pow_right two low);
      normal = record { unsigned = omega arith; not_least = omega (arith, e); not_most = omega (arith, e) };
      scaled = rw is (scaled_up m up 150 (exponent w) (omega (arith, e)));
    })

-- the code's shift there and back
there_and_back : (m k : ℕ) → m < 2 ^ 24 → k ≤ 23 → m / 2 ^ k * 2 ^ k % 2 ^ 64 ≡ m / 2 ^ k * 2 ^ k
there_and_back m k short near = shl_whole (m / 2 ^ k) 24 k 64 (omega (arith, shr_le m k)) (omega arith)

-- no number where the mantissa is not a multiple
too_far : (n m k : ℕ) → 24 ≤ k → 2 ^ 23 ≤ m → m < 2 ^ 24 → ¬ (n * 2 ^ k ≡ m)
too_far n m k far low short eq =
    let two : 0 < 2 = omega arith in
    let big = pow-le-pow_right two far in
    elim (cases_lt n 1) [
      | inl none ↦ let z : n ≡ 0 = omega arith in let h = subst (λ x. x * 2 ^ k ≡ m) z eq in omega (arith, h)
      | inr some ↦ let h = mul-le 1 (2 ^ 24) n (2 ^ k) some big in omega (arith, h, eq)
    ]

not_whole : (n m k m' k' : ℕ) → m' ≡ m → k' ≡ k → m < 2 ^ 24 → k' ≤ 23 → (m' / 2 ^ k' * 2 ^ k' % 2 ^ 64 ≡ m' → ⊥) → n * 2 ^ k ≡ m → ⊥
not_whole n m k m' k' m_is k_is short near apart eq =
    let back : m / 2 ^ k ≡ n = ap (λ x. x / 2 ^ k) (sym eq) ∙ shl-shr n k in
    let near' : k ≤ 23 = omega arith in
    let there : m / 2 ^ k * 2 ^ k % 2 ^ 64 ≡ m = there_and_back m k short near' ∙ ap (λ x. x * 2 ^ k) back ∙ eq in
    apart (rw (m_is, k_is) there)

whole_down : (w k m' k' n : ℕ) → m' ≡ 2 ^ 23 + fraction w → k' ≡ k → k' ≤ 23 → k + exponent w ≡ 150 → m' / 2 ^ k' * 2 ^ k' % 2 ^ 64 ≡ m' → n ≡ m' / 2 ^ k' * 2 ^ 0
    → (1 ≤ n) × (n < 2 ^ 46) × IsScaled w n
whole_down w k m' k' n m_is k_is near sum back is =
    let m = 2 ^ 23 + fraction w in
    let short : m < 2 ^ 24 = omega arith in
    let near' : k ≤ 23 = omega arith in
    let q : n ≡ m / 2 ^ k = is ∙ (let e : m' / 2 ^ k' * 2 ^ 0 ≡ m' / 2 ^ k' = omega arith in e) ∙ rw (m_is, k_is) refl in
    let at : m / 2 ^ k * 2 ^ k % 2 ^ 64 ≡ m = rw (m_is, k_is) at back in
    let whole : n * 2 ^ k ≡ m = ap (λ x. x * 2 ^ k) q ∙ sym (there_and_back m k short near') ∙ at in
    let some : 1 ≤ n = elim (cases_lt n 1) [ inl none ↦ let z : n ≡ 0 = omega arith in let h = subst (λ x. x * 2 ^ k ≡ m) z whole in absurd (omega (arith, h)) | inr some ↦ some ] in
    (some, omega (arith, q, shr_le m k), scaled_down n m k 150 (exponent w) sum whole)

pub returns-then-down-gt-EXPONENT_AT-clause-err : goal.returns-then-down-gt-EXPONENT_AT-clause-err
returns-then-down-gt-EXPONENT_AT-clause-err c =
    let w = c.args.word in
    let e = exponent_is w in
    let k = 150 - exponent w in
    let m = 2 ^ 23 + fraction w in
    let short : m < 2 ^ 24 = omega arith in
    let low : 2 ^ 23 ≤ m = omega arith in
    let sum : k + exponent w ≡ 150 = omega (arith, e) in
    inr (
      record { unsigned = omega arith; not_least = omega (arith, e); not_most = omega (arith, e) },
      λ n eq.
          let whole = unscaled_down n m k 150 (exponent w) sum eq in
          elim c.then-down-gt-EXPONENT_AT.branch [
            | then-down-gt-EXPONENT_AT-via-then-down-gt-EXPONENT_AT v ↦ too_far n m k (omega (arith, v.if-down-gt-EXPONENT_AT.true, down_is w)) low short whole
            | then-down-gt-EXPONENT_AT-via-else-down-gt-EXPONENT_AT+then-mantissa-down v ↦ not_whole n m k _ _ (mantissa_is w)
                (down_is w) short v.if-down-gt-EXPONENT_AT.false v.if-mantissa-down.true whole
          ],
    )

pub returns-clause-ok : goal.returns-clause-ok
returns-clause-ok c =
    let w = c.args.word in
    let e = exponent_is w in
    let k = 150 - exponent w in
    let sum : k + exponent w ≡ 150 = omega (arith, e) in
    let r = whole_down w k _ _ c.moved_up-2.result (mantissa_is w) (down_is w) c.if-down-gt-EXPONENT_AT.false sum c.if-mantissa-down.false c.moved_up-2.ensures in
    inr (record {
      positive = r.0;
      below = r.1;
      normal = record { unsigned = omega arith; not_least = omega (arith, e); not_most = omega (arith, e) };
      scaled = r.2;
    })
