-- A number has no bit if and only if it is 0.
use Rattle.std.specs.Prelude.{◌≡◌, ◌↔◌, ℕ, ◌<◌, ◌^◌, ◌==◌, false, List, [], ◌∷◌, length, refl}
use Rattle.std.specs.Int.{bit_at, trailing_zeros, w16}
use Rattle.std.proofs.Common.{zero, suc, sym, ◌∙◌, inl, arith}
use Rattle.std.proofs.lemmas.Bool.Decides.{nat_tests}
use Rattle.std.proofs.lemmas.Nat.Bits.{bit_at-trailing_zeros, bit_at-zero}
use Rattle.rsvp_base.specs.Members.{In}

not_zero : (n : ℕ) → 0 < n → (n == 0) ≡ false
not_zero n lt = grind (arith, nat_tests)

-- its bits are those of these ends, by the number that each has
pub no_bits : (n : ℕ) (es : List ℕ) (f : ℕ → ℕ) → n < 2 ^ 16 → ((i : ℕ) → (bit_at n i ≡ 1) ↔ ((e : ℕ) × In e es × (f e ≡ i))) → (n == 0) ≡ (length es == 0)
no_bits zero [] f few are = refl
no_bits (suc n) [] f few are =
    let low = bit_at-trailing_zeros w16 (suc n) (omega arith) few in
    absurd ((are (trailing_zeros w16 (suc n))).0 low.1).1
no_bits zero (e ∷ es) f few are =
    let z = bit_at-zero (f e) in
    let o = (are (f e)).1 (e, inl refl, refl) in
    absurd (omega (arith, z, o))
no_bits (suc n) (e ∷ es) f few are = not_zero (suc n) (omega arith) ∙ sym (not_zero (length (e ∷ es)) (omega arith))
