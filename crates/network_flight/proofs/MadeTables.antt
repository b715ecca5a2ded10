-- Tables of lists, read at a place.
use Rattle.std.proofs.Common.{◌≡◌, ℕ, zero, suc, ◌+◌, ◌<◌, ◌≤◌, List, [], ◌∷◌, ◌++◌, Bool, true, false, Option, None, Some, length, get_or, refl, sym, ap, ap₂, ◌∙◌, arith, inl, inr}
use Rattle.std.specs.Prelude.{slice_get, map as each, ◌==◌, IfSome}
use Rattle.std.proofs.lemmas.Bool.{eqb-true}
use Rattle.std.proofs.lemmas.List.{length-map, map-append}
use Rattle.std.proofs.lemmas.List.FromFn.{length-map-range_with_len, map-range_with_len_more, get_or-map-range_with_len}
use Rattle.std.proofs.lemmas.Option.{slice_get_read}
use Rattle.rsvp_base.specs.Members.{In}
use Rattle.tree_model.specs.declared.hops.End.{End}
use Rattle.tree_model.specs.Networks.{Net, ends_from, end_at}
use Rattle.tree_model.proofs.Ifaces.{interfaces_are_ends}
use Rattle.std.specs.List.{range_with_len}

-- a table made for each number
pub made_at : {A : Type 0} (f : ℕ → A) (n k : ℕ) → k < n → slice_get (each f (range_with_len 0 n)) k ≡ Some (f k)
made_at f n k lt =
    let e : 0 + k ≡ k = omega arith in
    slice_get_read (each f (range_with_len 0 n)) n k (f k) (sym (length-map-range_with_len f 0 n)) lt (sym (get_or-map-range_with_len f 0 n k k (f k) lt e))

-- what is read at a place that is there
pub read_or : {A : Type 0} (xs : List A) (k : ℕ) (d : A) → k < length xs → slice_get xs k ≡ Some (get_or xs k d)
read_or [] k d lt = absurd (omega arith)
read_or (x ∷ xs) zero d lt = refl
read_or (x ∷ xs) (suc k) d lt = read_or xs k d (omega arith)

-- what is read in a list of lists
pub read_each : {A B : Type 0} (f : A → B) (xs : List A) (k : ℕ) (x : A) → slice_get xs k ≡ Some x → slice_get (each f xs) k ≡ Some (f x)
read_each f [] k x e = absurd (cc)
read_each f (y ∷ ys) zero x e = let h : Some y ≡ Some x = e in let same : y ≡ x = cc in ap (λ z. Some (f z)) same
read_each f (y ∷ ys) (suc k) x e = read_each f ys k x e

within : {A : Type 0} (xs : List A) (k : ℕ) (x : A) → slice_get xs k ≡ Some x → k < length xs
within [] k x e = absurd (cc)
within (y ∷ ys) zero x e = omega arith
within (y ∷ ys) (suc k) x e = let h = within ys k x e in omega (arith, h)

past : {A : Type 0} (xs : List A) (k : ℕ) → slice_get xs k ≡ None → length xs ≤ k
past [] k e = omega arith
past (y ∷ ys) zero e = let h : Some y ≡ None = e in absurd (cc)
past (y ∷ ys) (suc k) e = let h = past ys k e in omega (arith, h)

module _ {A B : Type 0} (f : B → A) (g : ℕ → A) (xs : List B) (n : ℕ) (is : each f xs ≡ each g (range_with_len 0 n)) where
  pub many : length xs ≡ n
  many = sym (length-map xs f) ∙ ap (λ (ys : List A). length ys) is ∙ length-map-range_with_len g 0 n

  -- one number more
  pub made_more : (ys : List B) (x : B) → ys ≡ xs ++ x ∷ [] → f x ≡ g n → each f ys ≡ each g (range_with_len 0 (n + 1))
  made_more ys x e same =
      let step : 0 + n ≡ n = omega arith in
      ap (each f) e ∙ map-append f xs (x ∷ []) ∙ ap₂ (λ (l m : List A). l ++ m) is (ap (λ z. z ∷ []) same) ∙ sym (map-range_with_len_more g 0 n n step)

  -- what is read in a table that was made for each number
  pub read_made : (k : ℕ) (x : B) → slice_get xs k ≡ Some x → f x ≡ g k
  read_made k x e =
      let lt : k < n = (let h = within xs k x e in omega (arith, h, many)) in
      let there : Some (f x) ≡ Some (g k) = sym (read_each f xs k x e) ∙ ap (λ (ys : List A). slice_get ys k) is ∙ made_at g n k lt in
      cc

  pub read_none : (k : ℕ) → slice_get xs k ≡ None → n ≤ k
  read_none k e = let h = past xs k e in omega (arith, h, many)

-- ---- ends
pub no_ends : (number n nodes : ℕ) (ends : List End) → ((e : End) → In e ends → e.node < nodes) → nodes ≤ n → ends_from number ends n ≡ []
no_ends number n nodes [] placed le = refl
no_ends number n nodes (e ∷ es) placed le = by (e.node == n) refl (no_ends (number + 1) n nodes es (λ x i. placed x (inr i)) le)
  where
    by : (b : Bool) → (e.node == n) ≡ b → ends_from (number + 1) es n ≡ [] → ends_from number (e ∷ es) n ≡ []
    by true t rest = (let same = eqb-true e.node n t in let lt = placed e (inl refl) in absurd (omega arith))
    by false t rest = rw t rest

pub end_inside : (net : Net) (n i : ℕ) (o : Option ℕ) → o ≡ end_at net.ends n i → IfSome o (λ e. e < length net.ends)
end_inside net n i None e = tt
end_inside net n i (Some x) e = ((interfaces_are_ends net).iface_of_end n i x (sym e)).0
