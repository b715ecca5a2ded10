-- The place of the first element that passes a test, in a list that another list stands for.
use Rattle.std.specs.Prelude.{◌≡◌, ℕ, ◌+◌, Bool, true, false, cond, not, ◌||◌, nat_lt, List, [], ◌∷◌, map as each, length, position, Some, None, suc, refl}
use Rattle.std.proofs.Common.{ap, ◌∙◌, arith}
use Rattle.std.specs.List.{list_any, position_or_len}
use Rattle.std.proofs.lemmas.Bool.Decides.{nat_tests}
use Rattle.std.proofs.lemmas.List.{length-map}

module _ {A B : Type 0} (p : B → Bool) (f : A → B) where
  position_or_len-map : (xs : List A) → position_or_len p (each f xs) ≡ position_or_len (λ x. p (f x)) xs
  position_or_len-map [] = refl
  position_or_len-map (x ∷ xs) = ap (λ n. cond (not (p (f x))) (1 + n) 0) (position_or_len-map xs)

  -- the place in the list that is stood for
  pub position-map : (xs : List A) → position p (each f xs) ≡ position (λ x. p (f x)) xs
  position-map xs =
      ap (λ n. cond (nat_lt n (length (each f xs))) (Some n) None) (position_or_len-map xs)
      ∙ ap (λ n. cond (nat_lt (position_or_len (λ x. p (f x)) xs) n) (Some (position_or_len (λ x. p (f x)) xs)) None) (length-map xs f)

module _ {A : Type 0} (p : A → Bool) where
  both_one_more : (n m : ℕ) → nat_lt n m ≡ nat_lt (1 + n) (suc m)
  both_one_more n m = grind (arith, nat_tests)

  none_before : (m : ℕ) → true ≡ nat_lt 0 (suc m)
  none_before m = grind (arith, nat_tests)

  list_any_place : (xs : List A) → list_any p xs ≡ nat_lt (position_or_len p xs) (length xs)
  list_any_place [] = refl
  list_any_place (x ∷ xs) =
      elim (p x) as (λ b. (b || list_any p xs) ≡ nat_lt (cond (not b) (1 + position_or_len p xs) 0) (suc (length xs))) [
        | true ↦ none_before (length xs)
        | false ↦ list_any_place xs ∙ both_one_more (position_or_len p xs) (length xs)
      ]

  placed : (b : Bool) (n : ℕ) → cond b (Some n) None ≡ None → b ≡ false
  placed true n e = cc
  placed false n e = refl

  -- without a place, none passes
  pub list_any-no_position : (xs : List A) → position p xs ≡ None → list_any p xs ≡ false
  list_any-no_position xs gone = list_any_place xs ∙ placed _ _ gone
