-- Sums: in another order, and of what counts at one place each.
use Rattle.std.proofs.Common.{◌≡◌, ℕ, zero, suc, ◌+◌, ◌*◌, ◌<◌, ◌≤◌, List, [], ◌∷◌, length, Bool, true, false, cond, inl, inr, arith, sym, refl, ap, ◌∙◌}
use Rattle.std.specs.Prelude.{◌==◌, nat_lt, sum_by}
use Rattle.std.specs.List.{filter, range_with_len}
use Rattle.std.proofs.lemmas.List.Sums.{sum_by-cons}
use Rattle.rsvp_base.specs.Members.{In}
use Rattle.rsvp_base.proofs.Tables.{either}
use Rattle.tree_model.proofs.Following.{number_same, same_number}

-- ---- sums of sums
pub sum_alike : {A : Type 0} (f g : A → ℕ) (xs : List A) → ((x : A) → In x xs → f x ≡ g x) → sum_by f xs ≡ sum_by g xs
sum_alike f g [] same = refl
sum_alike f g (x ∷ xs) same =
    let here = same x (inl refl) in
    let rest = sum_alike f g xs (λ y i. same y (inr i)) in
    omega (arith, here, rest, sum_by-cons f x xs, sum_by-cons g x xs)

pub sum_plus : {A : Type 0} (f g : A → ℕ) (xs : List A) → sum_by (λ x. f x + g x) xs ≡ sum_by f xs + sum_by g xs
sum_plus f g [] = refl
sum_plus f g (x ∷ xs) =
    let rest = sum_plus f g xs in
    omega (arith, rest, sum_by-cons (λ y. f y + g y) x xs, sum_by-cons f x xs, sum_by-cons g x xs)

pub sum_none : {A : Type 0} (xs : List A) → sum_by (λ x. 0) xs ≡ 0
sum_none [] = refl
sum_none (x ∷ xs) = let rest = sum_none xs in omega (arith, rest, sum_by-cons (λ y. 0) x xs)

pub sum_swap : {A B : Type 0} (f : A → B → ℕ) (xs : List A) (ys : List B) → sum_by (λ x. sum_by (f x) ys) xs ≡ sum_by (λ y. sum_by (λ x. f x y) xs) ys
sum_swap f [] ys = sym (sum_none ys)
sum_swap f (x ∷ xs) ys =
    let rest = sum_swap f xs ys in
    let more = sum_alike (λ y. sum_by (λ z. f z y) (x ∷ xs)) (λ y. f x y + sum_by (λ z. f z y) xs) ys (λ y i. sum_by-cons (λ z. f z y) x xs) in
    let parts = sum_plus (f x) (λ y. sum_by (λ z. f z y) xs) ys in
    let first = sum_by-cons (λ z. sum_by (f z) ys) x xs in
    omega (arith, rest, more, parts, first)

pub sum_filter : {A : Type 0} (w : A → ℕ) (p : A → Bool) (xs : List A) → sum_by w (filter p xs) ≡ sum_by (λ x. cond (p x) (w x) 0) xs
sum_filter w p [] = refl
sum_filter {A} w p (x ∷ xs) = by (p x) (sum_filter w p xs) ∙ sym (sum_by-cons (λ y. cond (p y) (w y) 0) x xs)
  where
    by : (b : Bool) → sum_by w (filter p xs) ≡ sum_by (λ y. cond (p y) (w y) 0) xs
        → sum_by w (cond b (x ∷ filter p xs) (filter p xs)) ≡ cond b (w x) 0 + sum_by (λ y. cond (p y) (w y) 0) xs
    by true rest = omega (arith, rest, sum_by-cons w x (filter p xs))
    by false rest = omega (arith, rest)

pub length_sum : {A : Type 0} (p : A → Bool) (xs : List A) → length (filter p xs) ≡ sum_by (λ x. cond (p x) 1 0) xs
length_sum p [] = refl
length_sum {A} p (x ∷ xs) = by (p x) (length_sum p xs) ∙ sym (sum_by-cons (λ y. cond (p y) 1 0) x xs)
  where
    by : (b : Bool) → length (filter p xs) ≡ sum_by (λ y. cond (p y) 1 0) xs
        → length (cond b (x ∷ filter p xs) (filter p xs)) ≡ cond b 1 0 + sum_by (λ y. cond (p y) 1 0) xs
    by true rest = omega (arith, rest)
    by false rest = omega (arith, rest)

-- ---- what counts at one number
other_number : (m n : ℕ) → ((m ≡ n) → ⊥) → (m == n) ≡ false
other_number m n apart = either (m == n) (λ t. absurd (apart (same_number m n t))) (λ f. f)

next_number : (a m : ℕ) → a ≤ m → (m == a) ≡ false → a + 1 ≤ m
next_number a m le f = by (nat_lt a m) refl
  where
    by : (b : Bool) → nat_lt a m ≡ b → a + 1 ≤ m
    by true t = let lt : a < m = grind (arith, t) in omega (arith, lt)
    by false t =
        let ge : m ≤ a = grind (arith, t) in
        let is : m ≡ a = omega (arith, le, ge) in
        let z : true ≡ false = sym (number_same m a is) ∙ f in absurd (cc)

sum_behind : (m c a k : ℕ) → m < a → sum_by (λ n. cond (m == n) c 0) (range_with_len a k) ≡ 0
sum_behind m c a zero lt = refl
sum_behind m c a (suc k) lt =
    let rest = sum_behind m c (a + 1) k (omega arith) in
    let here : cond (m == a) c 0 ≡ 0 = ap (λ (b : Bool). cond b c 0) (other_number m a (λ e. omega (arith, e, lt))) in
    omega (arith, rest, here, sum_by-cons (λ n. cond (m == n) c 0) a (range_with_len (a + 1) k))

pub sum_at : (m c a k : ℕ) → a ≤ m → m < a + k → sum_by (λ n. cond (m == n) c 0) (range_with_len a k) ≡ c
sum_at m c a zero le lt = absurd (omega (arith, le, lt))
sum_at m c a (suc k) le lt = by (m == a) refl (λ more. sum_at m c (a + 1) k more (omega (arith, lt)))
  where
    first : sum_by (λ n. cond (m == n) c 0) (range_with_len a (suc k)) ≡ cond (m == a) c 0 + sum_by (λ n. cond (m == n) c 0) (range_with_len (a + 1) k)
    first = sum_by-cons (λ n. cond (m == n) c 0) a (range_with_len (a + 1) k)

    by : (b : Bool) → (m == a) ≡ b → (a + 1 ≤ m → sum_by (λ n. cond (m == n) c 0) (range_with_len (a + 1) k) ≡ c) → sum_by (λ n. cond (m == n) c 0) (range_with_len a (suc k)) ≡ c
    by true t later =
        let is = same_number m a t in
        let here : cond (m == a) c 0 ≡ c = ap (λ (b : Bool). cond b c 0) t in
        let none = sum_behind m c (a + 1) k (omega (arith, is)) in
        omega (arith, first, here, none)
    by false f later =
        let here : cond (m == a) c 0 ≡ 0 = ap (λ (b : Bool). cond b c 0) f in
        let rest = later (next_number a m le f) in
        omega (arith, first, here, rest)

-- each counts at its number alone
pub sum_parted : {A : Type 0} (f w : A → ℕ) (k : ℕ) (xs : List A) → ((x : A) → In x xs → f x < k) → sum_by (λ n. sum_by (λ x. cond (f x == n) (w x) 0) xs) (range_with_len 0 k) ≡ sum_by w xs
sum_parted f w k xs inside =
    sum_swap (λ n x. cond (f x == n) (w x) 0) (range_with_len 0 k) xs
    ∙ sum_alike (λ x. sum_by (λ n. cond (f x == n) (w x) 0) (range_with_len 0 k)) w xs
    (λ x i. let lt = inside x i in sum_at (f x) (w x) 0 k (omega arith) (omega (arith, lt)))

-- one number more
sum_more_from : (w : ℕ → ℕ) (a k : ℕ) → sum_by w (range_with_len a (suc k)) ≡ sum_by w (range_with_len a k) + w (a + k)
sum_more_from w a zero =
    let first = sum_by-cons w a [] in
    let is : w a ≡ w (a + 0) = ap w (let z : a ≡ a + 0 = omega arith in z) in
    omega (arith, first, is)
sum_more_from w a (suc k) =
    let rest = sum_more_from w (a + 1) k in
    let long = sum_by-cons w a (range_with_len (a + 1) (suc k)) in
    let short = sum_by-cons w a (range_with_len (a + 1) k) in
    let is : w (a + 1 + k) ≡ w (a + suc k) = ap w (let z : a + 1 + k ≡ a + suc k = omega arith in z) in
    omega (arith, rest, long, short, is)

pub sum_more : (w : ℕ → ℕ) (k : ℕ) → sum_by w (range_with_len 0 (k + 1)) ≡ sum_by w (range_with_len 0 k) + w k
sum_more w k =
    let from = sum_more_from w 0 k in
    let one : sum_by w (range_with_len 0 (k + 1)) ≡ sum_by w (range_with_len 0 (suc k)) = ap (λ (n : ℕ). sum_by w (range_with_len 0 n)) (let z : k + 1 ≡ suc k = omega arith in z) in
    let is : w (0 + k) ≡ w k = ap w (let z : 0 + k ≡ k = omega arith in z) in
    omega (arith, from, one, is)

-- no more than sixteen each
pub sum_few : (w : ℕ → ℕ) (a k : ℕ) → ((n : ℕ) → w n ≤ 16) → sum_by w (range_with_len a k) ≤ 16 * k
sum_few w a zero few = omega arith
sum_few w a (suc k) few =
    let rest = sum_few w (a + 1) k few in
    let here = few a in
    let first = sum_by-cons w a (range_with_len (a + 1) k) in
    omega (arith, rest, here, first)
