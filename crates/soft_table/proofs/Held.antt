-- The rows that slots and their keys stand for, and how they change.
use Rattle.std.proofs.Common.{◌≡◌, ◌≤◌, ℕ, zero, suc, List, [], ◌∷◌, length, Option, Some, None, refl, sym, ap, ◌∙◌, arith}
use Rattle.std.specs.Prelude.{slice_get, IfSome}
use Rattle.std.specs.List.{insert, remove, cons_option}
use Rattle.soft_table.specs.Lists.{key_row, rows_of}

-- each slot has its key
abbrev pub AreFull : {K : Type 0} → List (Option K) → List ℕ → Type 0
AreFull {K} keys slots = (i s : ℕ) → slice_get slots i ≡ Some s → (k : K) × (slice_get keys s ≡ Some (Some k))

pub nothing_at : {A : Type 0} (xs : List A) (i : ℕ) → length xs ≤ i → slice_get xs i ≡ None
nothing_at [] i le = refl
nothing_at (x ∷ xs) zero le = absurd (omega (arith, le))
nothing_at (x ∷ xs) (suc i) le = nothing_at xs i (omega (arith, le))

pub nothing_past : {A : Type 0} (xs : List A) (i : ℕ) → slice_get xs i ≡ None → length xs ≤ i
nothing_past [] i e = omega arith
nothing_past (x ∷ xs) zero e = cc
nothing_past (x ∷ xs) (suc i) e = omega (arith, nothing_past xs i e)

module _ {K : Type 0} where
  rows_cons : (keys : List (Option K)) (s : ℕ) (ss : List ℕ) (k : K) → slice_get keys s ≡ Some (Some k) → rows_of keys (s ∷ ss) ≡ (k, s) ∷ rows_of keys ss
  rows_cons keys s ss k is = ap (λ w. cons_option (key_row s w) (rows_of keys ss)) is

  tail_full : (keys : List (Option K)) (s : ℕ) (ss : List ℕ) → AreFull keys (s ∷ ss) → AreFull keys ss
  tail_full keys s ss full = λ i t is. full (suc i) t is

  pub length_rows : (keys : List (Option K)) (slots : List ℕ) → AreFull keys slots → length (rows_of keys slots) ≡ length slots
  length_rows keys [] full = refl
  length_rows keys (s ∷ ss) full = let k = full 0 s refl in ap length (rows_cons keys s ss k.0 k.1) ∙ ap suc (length_rows keys ss (tail_full keys s ss full))

  pub row_at : (keys : List (Option K)) (slots : List ℕ) (i s : ℕ) (k : K) → AreFull keys slots → slice_get slots i ≡ Some s → slice_get keys s ≡ Some (Some k)
      → slice_get (rows_of keys slots) i ≡ Some (k, s)
  row_at keys [] i s k full at is = cc
  row_at keys (t ∷ ts) zero s k full at is =
      let same : t ≡ s = cc in
      ap (λ w. slice_get w 0) (rows_cons keys t ts k (ap (slice_get keys) same ∙ is)) ∙ ap (λ z. Some (k, z)) same
  row_at keys (t ∷ ts) (suc i) s k full at is =
      let kt = full 0 t refl in
      ap (λ w. slice_get w (suc i)) (rows_cons keys t ts kt.0 kt.1) ∙ row_at keys ts i s k (tail_full keys t ts full) at is

  pub row_back : (keys : List (Option K)) (slots : List ℕ) (i : ℕ) (e : K × ℕ) → AreFull keys slots → slice_get (rows_of keys slots) i ≡ Some e
      → (slice_get slots i ≡ Some e.1) × (slice_get keys e.1 ≡ Some (Some e.0))
  row_back keys [] i e full at = cc
  row_back keys (t ∷ ts) zero e full at =
      let kt = full 0 t refl in
      let both : Some (kt.0, t) ≡ Some e = sym (ap (λ w. slice_get w 0) (rows_cons keys t ts kt.0 kt.1)) ∙ at in
      let is : (kt.0, t) ≡ e = cc in
      (ap (λ z. Some z.1) is, ap (λ z. slice_get keys z.1) (sym is) ∙ kt.1 ∙ ap (λ z. Some (Some z.0)) is)
  row_back keys (t ∷ ts) (suc i) e full at =
      let kt = full 0 t refl in
      row_back keys ts i e (tail_full keys t ts full) (sym (ap (λ w. slice_get w (suc i)) (rows_cons keys t ts kt.0 kt.1)) ∙ at)

  pub no_row : (keys : List (Option K)) (slots : List ℕ) (i : ℕ) → AreFull keys slots → slice_get slots i ≡ None → slice_get (rows_of keys slots) i ≡ None
  no_row keys slots i full none = nothing_at (rows_of keys slots) i (omega (arith, length_rows keys slots full, nothing_past slots i none))

  -- ---- a slot put in, and taken out
  abbrev pub AreSame : List (Option K) → List (Option K) → List ℕ → Type 0
  AreSame old new slots = (j t : ℕ) → slice_get slots j ≡ Some t → key_row t (slice_get new t) ≡ key_row t (slice_get old t)

  pub rows_same : (old new : List (Option K)) (slots : List ℕ) → AreSame old new slots → rows_of new slots ≡ rows_of old slots
  rows_same old new [] same = refl
  rows_same old new (t ∷ ts) same =
      ap (λ w. cons_option w (rows_of new ts)) (same 0 t refl) ∙ ap (cons_option (key_row t (slice_get old t))) (rows_same old new ts (λ j u is. same (suc j) u is))

  pub rows_inserted : (old new : List (Option K)) (slots : List ℕ) (i s : ℕ) (k : K) → i ≤ length slots → slice_get new s ≡ Some (Some k) → AreSame old new slots → AreFull old slots
      → rows_of new (insert slots i s) ≡ insert (rows_of old slots) i (k, s)
  rows_inserted old new [] zero s k le is same full = rows_cons new s [] k is
  rows_inserted old new [] (suc i) s k le is same full = absurd (omega (arith, le))
  rows_inserted old new (t ∷ ts) zero s k le is same full =
      let kt = full 0 t refl in
      let was = rows_cons old t ts kt.0 kt.1 in
      rows_cons new s (t ∷ ts) k is ∙ ap (λ w. (k, s) ∷ w) (rows_same old new (t ∷ ts) same ∙ was) ∙ ap (λ w. insert w 0 (k, s)) (sym was)
  rows_inserted old new (t ∷ ts) (suc i) s k le is same full =
      let kt = full 0 t refl in
      let was = rows_cons old t ts kt.0 kt.1 in
      let rest = rows_inserted old new ts i s k (omega (arith, le)) is (λ j u at. same (suc j) u at) (tail_full old t ts full) in
      ap (λ w. cons_option w (rows_of new (insert ts i s))) (same 0 t refl ∙ ap (key_row t) kt.1) ∙ ap (λ w. (kt.0, t) ∷ w) rest ∙ ap (λ w. insert w (suc i) (k, s)) (sym was)

  pub rows_removed : (keys : List (Option K)) (slots : List ℕ) (i : ℕ) → AreFull keys slots → rows_of keys (remove slots i) ≡ remove (rows_of keys slots) i
  rows_removed keys [] zero full = refl
  rows_removed keys [] (suc i) full = refl
  rows_removed keys (t ∷ ts) zero full = let kt = full 0 t refl in ap (λ w. remove w 0) (sym (rows_cons keys t ts kt.0 kt.1))
  rows_removed keys (t ∷ ts) (suc i) full =
      let kt = full 0 t refl in
      let rest = rows_removed keys ts i (tail_full keys t ts full) in
      rows_cons keys t (remove ts i) kt.0 kt.1 ∙ ap (λ w. (kt.0, t) ∷ w) rest ∙ ap (λ w. remove w (suc i)) (sym (rows_cons keys t ts kt.0 kt.1))

  -- ---- each slot has its key where there are as many rows as slots
  one_most : (s : ℕ) (o : Option (Option K)) (rows : List (K × ℕ)) → length (cons_option (key_row s o) rows) ≤ suc (length rows)
  one_most s None rows = omega arith
  one_most s (Some None) rows = omega arith
  one_most s (Some (Some k)) rows = omega arith

  most_rows : (keys : List (Option K)) (slots : List ℕ) → length (rows_of keys slots) ≤ length slots
  most_rows keys [] = omega arith
  most_rows keys (s ∷ ss) = omega (arith, one_most s (slice_get keys s) (rows_of keys ss), most_rows keys ss)

  one_if : (s : ℕ) (o : Option (Option K)) (rows : List (K × ℕ)) (n : ℕ) → length rows ≤ n → length (cons_option (key_row s o) rows) ≡ suc n → (k : K) × (o ≡ Some (Some k)) × (length rows ≡ n)
  one_if s None rows n le e = absurd (omega (arith, e, le))
  one_if s (Some None) rows n le e = absurd (omega (arith, e, le))
  one_if s (Some (Some k)) rows n le e = (k, refl, omega (arith, e))

  pub full_if : (keys : List (Option K)) (slots : List ℕ) → length (rows_of keys slots) ≡ length slots → AreFull keys slots
  full_if keys [] e i t at = cc
  full_if keys (s ∷ ss) e zero t at =
      let same : s ≡ t = cc in
      let one = one_if s (slice_get keys s) (rows_of keys ss) (length ss) (most_rows keys ss) e in
      (one.0, ap (slice_get keys) (sym same) ∙ one.1)
  full_if keys (s ∷ ss) e (suc i) t at = full_if keys ss (one_if s (slice_get keys s) (rows_of keys ss) (length ss) (most_rows keys ss) e).2 i t at

  pub next_full : (keys : List (Option K)) (slots : List ℕ) → AreFull keys slots → (j : ℕ) (o : Option ℕ) → o ≡ slice_get slots j → IfSome o (λ s. (k : K) × (slice_get keys s ≡ Some (Some k)))
  next_full keys slots full j None e = tt
  next_full keys slots full j (Some n) e = full j n (sym e)
