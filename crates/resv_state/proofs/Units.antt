-- Whether something was found, and room for one more.
use Rattle.std.proofs.Common.{◌≡◌, ◌+◌, ◌≤◌, ℕ, Bool, true, false, cond, is_some, List, [], ◌∷◌, refl, sym, ap, ◌∙◌, arith}
use Rattle.std.specs.Prelude.{nat_le, nat_lt, slice_get}
use Rattle.std.proofs.lemmas.Bool.{le-leb}
use Rattle.std.proofs.lemmas.Bool.Decides.{nat_tests}
use Rattle.resv_state.specs.declared.fact.Held.{Held}
use Rattle.resv_state.specs.Walks.{Rest, is_full}

pub first_full : (es : List (Rest × (Held × ℕ))) → is_some (slice_get es 0) ≡ is_full es
first_full [] = refl
first_full (e ∷ es) = refl

pub known : (b : Bool) (n most : ℕ) → b ≡ true → n ≤ most → true ≡ nat_le (cond b n (n + 1)) most
known b n most e le = sym (ap (λ w. nat_le (cond w n (n + 1)) most) e ∙ le-leb n most le)

pub fresh : (b : Bool) (n m most : ℕ) → b ≡ false → m ≡ n → nat_lt m most ≡ nat_le (cond b n (n + 1)) most
fresh b n m most e is = by_one m ∙ ap (λ k. nat_le (k + 1) most) is ∙ sym (ap (λ w. nat_le (cond w n (n + 1)) most) e)
  where
    by_one : (a : ℕ) → nat_lt a most ≡ nat_le (a + 1) most
    by_one a = grind (arith, nat_tests)
