-- How many pass in a list that another list stands for, with one more.
use Rattle.std.specs.Prelude.{◌≡◌, ◌+◌, ◌↔◌, ◌++◌, ◌∷◌, [], Bool, true, false, cond, not, IsTrue, List, length, nat_lt, map as each, count_by, refl}
use Rattle.std.proofs.Common.{ap, arith, sym, ◌∙◌}
use Rattle.std.proofs.lemmas.Bool.Decides.{nat_tests}
use Rattle.std.proofs.lemmas.List.{length-append, map-append}
use Rattle.std.proofs.lemmas.List.Sums.{sum_by_push}

module _ {A B : Type 0} (p : B → Bool) (f : A → B) (xs : List A) (x : A) where
  count_by-push : count_by p (each f (xs ++ x ∷ [])) ≡ count_by p (each f xs) + cond (p (f x)) 1 0
  count_by-push = ap (count_by p) (map-append f xs (x ∷ [])) ∙ sum_by_push (λ y. cond (p y) 1 0) (each f xs) (f x)

  -- it passes
  pub one_more : p (f x) ≡ true → count_by p (each f (xs ++ x ∷ [])) ≡ count_by p (each f xs) + 1
  one_more t = count_by-push ∙ ap (λ b. count_by p (each f xs) + cond b 1 0) t

  -- it does not
  pub no_more : p (f x) ≡ false → count_by p (each f (xs ++ x ∷ [])) ≡ count_by p (each f xs)
  no_more t = count_by-push ∙ ap (λ b. count_by p (each f xs) + cond b 1 0) t ∙ omega arith

-- ---- whether anything happened
pub some_there : {A : Type 0} (xs : List A) (x : A) → true ≡ nat_lt 0 (length (xs ++ x ∷ []))
some_there xs x = let size = length-append xs (x ∷ []) in grind (arith, nat_tests, size)

none_there : {A B : Type 0} (f : A → B) (xs : List A) → nat_lt 0 (length xs) ≡ false → each f xs ≡ []
none_there f [] e = refl
none_there f (x ∷ xs) e = absurd (grind (arith, nat_tests, e))

there_none : {A B : Type 0} (f : A → B) (xs : List A) → each f xs ≡ [] → nat_lt 0 (length xs) ≡ false
there_none f [] e = grind (arith, nat_tests)
there_none f (x ∷ xs) e = cc

not_true : (b : Bool) → not b ≡ true → b ≡ false
not_true true e = cc
not_true false e = refl

pub none_yet : {A B : Type 0} (f : A → B) (xs : List A) (begun : Bool) → begun ≡ nat_lt 0 (length xs) → IsTrue (not begun) ↔ (each f xs ≡ [])
none_yet f xs begun is = (λ t. none_there f xs (sym is ∙ not_true begun t), λ none. ap not (is ∙ there_none f xs none))
