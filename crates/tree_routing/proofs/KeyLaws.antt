-- The trees that have a hop, as a list in order.
use Rattle.std.specs.Prelude.{◌≡◌, ℕ, ◌+◌, ◌<◌, ◌≤◌, List, [], ◌∷◌, ◌++◌, length, map as each, is_some, refl, slice_index_or}
use Rattle.std.proofs.Common.{sym, ap, ◌∙◌, take, take_all}
use Rattle.std.proofs.lemmas.List.{map-append}
use Rattle.rsvp_base.specs.Keys.{Keys}
use Rattle.rsvp_base.specs.Rows.{AreRows, table_of, HasRowAt}
use Rattle.rsvp_base.specs.Sets.{Set, set_of, with_key, with_keys}
use Rattle.rsvp_base.specs.Table.{empty}
use Rattle.rsvp_base.specs.declared.addr.Addr.{Addr}
use Rattle.rsvp_base.proofs.Rows.{are_rows, table_is}
use Rattle.rsvp_base.proofs.SetLaws.{with_key_present}
use Rattle.tree_model.specs.declared.hops.TreeHop.{TreeHop}
use Rattle.tree_model.specs.Trees.{tree_keys, key_of, trees_of}
use Rattle.tree_routing.specs.Routes.{as_row, IsWithTree}
use Rattle.tree_routing.proofs.LeastLaws.{take_one_more}

-- ---- the set of what a list of hops gives, hop by hop
set_push : {K : Type 0} {o : Keys K} (m : Set o) (xs : List K) (y : K) → with_keys m (xs ++ y ∷ []) ≡ with_key (with_keys m xs) y
set_push m [] y = refl
set_push m (x ∷ xs) y = set_push (with_key m x) xs y

-- a key as a row of a set
abbrev alone : {K : Type 0} → K → K × Unit {0}
alone k = (k, tt)

module _ {A K : Type 0} (o : Keys K) (list : List A → List K) (key : A → K) where
  -- a key that is there
  pub key_there : (xs : List K) (t : K) (i : ℕ) → HasRowAt o (alone {K = K}) xs t i → (up : AreRows o (alone {K = K}) xs)
      → each (alone {K = K}) xs ≡ (with_key (table_of o (alone {K = K}) xs up) t).rows
  key_there xs t i h up = sym (ap (λ (m : Set o). m.rows) (with_key_present o (table_of o (alone {K = K}) xs up) t (ap is_some (h.found t))))

  -- one hop more
  pub one_key_more : (pushed : (xs : List A) (k : A) → list (xs ++ k ∷ []) ≡ list xs ++ key k ∷ []) (xs ys : List K) (ks : List A) (i : ℕ) (k d : A) → i < length ks
      → k ≡ slice_index_or ks i d
      → each (alone {K = K}) xs ≡ (set_of {o = o} (list (take i ks))).rows → ((up : AreRows o (alone {K = K}) xs)
      → each (alone {K = K}) ys ≡ (with_key (table_of o (alone {K = K}) xs up) (key k)).rows)
      → each (alone {K = K}) ys ≡ (set_of {o = o} (list (take (i + 1) ks))).rows
  one_key_more pushed xs ys ks i k d lt is e f =
      let up = are_rows o (alone {K = K}) xs (set_of {o = o} (list (take i ks))) e in
      let table : table_of o (alone {K = K}) xs up ≡ set_of {o = o} (list (take i ks)) = table_is o (alone {K = K}) xs up (set_of {o = o} (list (take i ks))) e in
      let more : list (take (i + 1) ks) ≡ list (take i ks) ++ key k ∷ [] =
      ap list (take_one_more ks i d lt) ∙ ap (λ (x : A). list (take i ks ++ x ∷ [])) (sym is) ∙ pushed (take i ks) k in
      f up ∙ ap (λ (m : Set o). (with_key m (key k)).rows) table
      ∙ sym (ap (λ (x : List K). (set_of {o = o} x).rows) more ∙ ap (λ (m : Set o). m.rows) (set_push {o = o} empty (list (take i ks)) (key k)))

-- ---- trees
-- the set of the trees of hops
abbrev pub set_at : List TreeHop → Set tree_keys
set_at rs = set_of {o = tree_keys} (each key_of rs)

tree_pushed : (xs : List TreeHop) (r : TreeHop) → each key_of (xs ++ r ∷ []) ≡ each key_of xs ++ (r.group, r.source) ∷ []
tree_pushed xs r = map-append key_of xs (r ∷ [])

-- a tree that is there
pub there_already : (xs : List (Addr × Addr)) (t : Addr × Addr) (i : ℕ) → HasRowAt tree_keys as_row xs t i → IsWithTree xs t xs
there_already xs t i h = key_there tree_keys (λ (rs : List TreeHop). each key_of rs) key_of xs t i h

pub rows_up : (xs : List (Addr × Addr)) (ks : List TreeHop) → each as_row xs ≡ (set_at ks).rows → AreRows tree_keys as_row xs
rows_up xs ks e = are_rows tree_keys as_row xs (set_at ks) e

pub one_tree_more : (xs ys : List (Addr × Addr)) (ks : List TreeHop) (i : ℕ) (k d : TreeHop) → i < length ks → k ≡ slice_index_or ks i d → each as_row xs ≡ (set_at (take i ks)).rows
    → IsWithTree xs (k.group, k.source) ys → each as_row ys ≡ (set_at (take (i + 1) ks)).rows
one_tree_more xs ys ks i k d lt is e f = one_key_more tree_keys (λ (rs : List TreeHop). each key_of rs) key_of tree_pushed xs ys ks i k d lt is e f

firsts : (xs : List (Addr × Addr)) → each (λ e. e.0) (each as_row xs) ≡ xs
firsts [] = refl
firsts (x ∷ xs) = ap (λ (ys : List (Addr × Addr)). x ∷ ys) (firsts xs)

pub trees_are : (xs : List (Addr × Addr)) (ks : List TreeHop) → each as_row xs ≡ (set_at ks).rows → xs ≡ trees_of ks
trees_are xs ks e = sym (firsts xs) ∙ ap (each (λ (r : (Addr × Addr) × Unit {0}). r.0)) e

pub all_taken : (ks : List TreeHop) (n : ℕ) → length ks ≤ n → (set_at (take n ks)).rows ≡ (set_at ks).rows
all_taken ks n le = ap (λ (xs : List TreeHop). (set_at xs).rows) (take_all n ks le)
