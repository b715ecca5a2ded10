-- The bytes of which texts are made: those of words are no spaces, and those of lines no line feeds.
use Rattle.std.proofs.Common.{◌≡◌, ℕ, zero, suc, ◌+◌, ◌<◌, ◌/◌, ◌%◌, List, [], ◌∷◌, ◌++◌, Bool, true, false, not, ◌&&◌, ◌==◌, cond, refl, ap, ◌∙◌, arith, lt-ltb}
use Rattle.std.specs.Prelude.{nat_lt}
use Rattle.std.specs.Fmt.{decimal, digits, digits_onto, digit_glyph}
use Rattle.std.specs.List.{list_all, flat_map, join_by}
use Rattle.rsvp_base.proofs.SetLaws.{and_both, and_made}

-- ---- each byte passes
module _ (test : ℕ → Bool) where
  pub joined : (xs ys : List ℕ) → list_all test xs ≡ true → list_all test ys ≡ true → list_all test (xs ++ ys) ≡ true
  joined [] ys h k = k
  joined (x ∷ xs) ys h k = let b = and_both (test x) (list_all test xs) h in and_made (test x) (list_all test (xs ++ ys)) b.0 (joined xs ys b.1 k)

  pub weaker : (other : ℕ → Bool) → ((c : ℕ) → test c ≡ true → other c ≡ true) → (xs : List ℕ) → list_all test xs ≡ true → list_all other xs ≡ true
  weaker other each [] h = refl
  weaker other each (x ∷ xs) h = let b = and_both (test x) (list_all test xs) h in and_made (other x) (list_all other xs) (each x b.0) (weaker other each xs b.1)

  either : (b : Bool) (xs ys : List ℕ) → list_all test xs ≡ true → list_all test ys ≡ true → list_all test (cond b xs ys) ≡ true
  either true xs ys h k = h
  either false xs ys h k = k

  pub all_joined : {A : Type 0} (f : A → List ℕ) → ((x : A) → list_all test (f x) ≡ true) → (xs : List A) → list_all test (flat_map f xs) ≡ true
  all_joined f each [] = refl
  all_joined f each (x ∷ xs) = joined (f x) (flat_map f xs) (each x) (all_joined f each xs)

  pub all_parted : {A : Type 0} (f : A → List ℕ) (between : List ℕ) → list_all test between ≡ true → ((x : A) → list_all test (f x) ≡ true) → (xs : List A)
      → list_all test (join_by f between xs) ≡ true
  all_parted f between some each [] = refl
  all_parted f between some each (x ∷ xs) = joined (f x) (flat_map (λ y. between ++ f y) xs) (each x) (all_joined (λ y. between ++ f y) (λ y. joined between (f y) some (each y)) xs)

  -- digits pass, whatever the number
  module _ (digit : (d : ℕ) → d < 10 → test (48 + d) ≡ true) where
    glyph : (n : ℕ) → test (digit_glyph false (n % 10)) ≡ true
    glyph n = let small : n % 10 < 10 = omega arith in ap (λ (b : Bool). test (cond b (48 + n % 10) (87 + n % 10))) (lt-ltb (n % 10) 10 small) ∙ digit (n % 10) small

    onto : (k n : ℕ) (after : List ℕ) → list_all test after ≡ true → list_all test (digits_onto k 10 false n after) ≡ true
    onto zero n after h = h
    onto (suc k) n after h =
        let more = and_made (test (digit_glyph false (n % 10))) (list_all test after) (glyph n) h in
        either (n / 10 == 0) (digit_glyph false (n % 10) ∷ after) (digits_onto k 10 false (n / 10) (digit_glyph false (n % 10) ∷ after)) more
        (onto k (n / 10) (digit_glyph false (n % 10) ∷ after) more)

    pub in_digits : (n : ℕ) → list_all test (decimal n) ≡ true
    unfolding digits
    in_digits n = onto 64 n [] refl

-- ---- visible ones, and those before `e`
abbrev pub is_visible : ℕ → Bool
is_visible c = nat_lt 32 c

abbrev pub is_before_e : ℕ → Bool
is_before_e c = nat_lt 32 c && nat_lt c 101

pub digits_before_e : (n : ℕ) → list_all is_before_e (decimal n) ≡ true
digits_before_e = in_digits is_before_e (λ d small. and_made (nat_lt 32 (48 + d)) (nat_lt (48 + d) 101) (lt-ltb 32 (48 + d) (omega arith)) (lt-ltb (48 + d) 101 (omega arith)))

pub digits_visible : (n : ℕ) → list_all is_visible (decimal n) ≡ true
digits_visible = in_digits is_visible (λ d small. lt-ltb 32 (48 + d) (omega arith))

-- ---- bytes that are not this one
abbrev pub lacks : ℕ → List ℕ → Bool
lacks c xs = list_all (λ x. not (x == c)) xs
