-- The laws of finite sets: members after each call, and equations by their members.
use Rattle.std.specs.Prelude.{◌≡◌, ◌⊎◌, ◌+◌, ◌≤◌, Bool, true, false, cond, not, ◌&&◌, ◌||◌, List, [], ◌∷◌, map as each, is_some, Option, Some, None, refl}
use Rattle.std.proofs.Common.{sym, ap, ◌∙◌, arith, inl, inr}
use Rattle.std.specs.List.{list_any}
use Rattle.std.specs.Ordering.{eq_by_cmp}
use Rattle.std.specs.FinMap.Entries.{is_some-find}
use Rattle.rsvp_base.specs.Keys.{Keys}
use Rattle.rsvp_base.specs.Table.{get, has, size, put_in, with_rows, kept, without}
use Rattle.rsvp_base.specs.Sets.{Set, with_key, union, cut, IsWithin}
use Rattle.rsvp_base.proofs.Tables.{either, tied_same, get-put_in, get-kept, same_table, size-put_in}

-- ---- Boolean identities
or_comm : (a b : Bool) → (a || b) ≡ (b || a)
or_comm true true = refl
or_comm true false = refl
or_comm false true = refl
or_comm false false = refl

pub or_assoc : (a b c : Bool) → ((a || b) || c) ≡ (a || (b || c))
or_assoc true b c = refl
or_assoc false b c = refl

or_idem : (a : Bool) → (a || a) ≡ a
or_idem true = refl
or_idem false = refl

pub or_false : (a : Bool) → (a || false) ≡ a
or_false true = refl
or_false false = refl

pub or_either : (a b : Bool) → (a || b) ≡ true → (a ≡ true) ⊎ (b ≡ true)
or_either true b e = inl refl
or_either false b e = inr e

pub or_left : (a b : Bool) → a ≡ true → (a || b) ≡ true
or_left true b e = refl
or_left false b e = cc

pub or_right : (a b : Bool) → b ≡ true → (a || b) ≡ true
or_right true b e = refl
or_right false b e = e

or_absorbed : (a b : Bool) → (a ≡ true → b ≡ true) → (a || b) ≡ b
or_absorbed true b h = sym (h refl)
or_absorbed false b h = refl

pub and_both : (a b : Bool) → (a && b) ≡ true → (a ≡ true) × (b ≡ true)
and_both true b e = (refl, e)
and_both false b e = cc

pub and_made : (a b : Bool) → a ≡ true → b ≡ true → (a && b) ≡ true
and_made true b e f = f
and_made false b e f = cc

and_or : (a b c : Bool) → ((a || b) && c) ≡ ((a && c) || (b && c))
and_or true b true = refl
and_or true true false = refl
and_or true false false = refl
and_or false b c = refl

and_assoc : (a b c : Bool) → ((a && b) && c) ≡ (a && (b && c))
and_assoc true b c = refl
and_assoc false b c = refl

some_kept : {X : Type 0} (b : Bool) (v : Option X) → is_some (cond b v None) ≡ (is_some v && b)
some_kept true None = refl
some_kept true (Some x) = refl
some_kept false None = refl
some_kept false (Some x) = refl

some_put : {X : Type 0} (b : Bool) (x : X) (v : Option X) → is_some (cond b (Some x) v) ≡ (b || is_some v)
some_put true x v = refl
some_put false x v = refl

nothing_same : (v w : Option (Unit {0})) → is_some v ≡ is_some w → v ≡ w
nothing_same None None e = refl
nothing_same None (Some y) e = cc
nothing_same (Some x) None e = cc
nothing_same (Some x) (Some y) e = refl

module _ {K : Type 0} (o : Keys K) where
  -- ---- members
  pub has-with_key : (s : Set o) (k q : K) → has (with_key s k) q ≡ (eq_by_cmp o.cmp q k || has s q)
  has-with_key s k q = ap is_some (get-put_in o s k tt q) ∙ some_put (eq_by_cmp o.cmp q k) tt (get s q)

  regroup : (a b c : Bool) → ((b || a) || c) ≡ (a || (b || c))
  regroup a b c = ap (λ x. x || c) (or_comm b a) ∙ or_assoc a b c

  pub has-with_rows : (es : List (K × Unit {0})) (s : Set o) (q : K) → has (with_rows s es) q ≡ (has s q || list_any (eq_by_cmp o.cmp q) (each (λ e. e.0) es))
  has-with_rows [] s q = sym (or_false (has s q))
  has-with_rows (e ∷ es) s q =
      has-with_rows es (put_in s e.0 tt) q ∙ ap (λ b. b || list_any (eq_by_cmp o.cmp q) (each (λ x. x.0) es)) (has-with_key s e.0 q)
      ∙ regroup (has s q) (eq_by_cmp o.cmp q e.0) (list_any (eq_by_cmp o.cmp q) (each (λ x. x.0) es))

  pub has-union : (s t : Set o) (q : K) → has (union s t) q ≡ (has s q || has t q)
  has-union s t q = has-with_rows t.rows s q ∙ ap (λ b. has s q || b) (sym (is_some-find o.cmp q t.rows))

  pub has-kept : (p : K → Bool) (s : Set o) (q : K) → has (kept p s) q ≡ (has s q && p q)
  has-kept p s q = ap is_some (get-kept o p s q) ∙ some_kept (p q) (get s q)

  pub has-cut : (s t : Set o) (q : K) → has (cut s t) q ≡ (has s q && has t q)
  has-cut s t q = has-kept (has t) s q

  -- ---- sets with the same members are equal
  pub same_set : (s t : Set o) → ((q : K) → has s q ≡ has t q) → s ≡ t
  same_set s t alike = same_table o s t (λ q. nothing_same (get s q) (get t q) (alike q))

  -- ---- one key
  pub with_key_present : (s : Set o) (k : K) → has s k ≡ true → with_key s k ≡ s
  with_key_present s k there = same_set _ _ (λ q. has-with_key s k q ∙ or_absorbed (eq_by_cmp o.cmp q k) (has s q) (λ t. ap (has s) (tied_same o q k t) ∙ there))

  none_tied : (s : Set o) (k q : K) → has s k ≡ false → (has s q && not (eq_by_cmp o.cmp k q)) ≡ has s q
  none_tied s k q gone =
      either (eq_by_cmp o.cmp k q)
      (λ t. let out : has s q ≡ false = ap (has s) (sym (tied_same o k q t)) ∙ gone in ap (λ b. b && not (eq_by_cmp o.cmp k q)) out ∙ sym out)
      (λ t. ap (λ b. has s q && not b) t ∙ and_true (has s q))
    where
      and_true : (a : Bool) → (a && true) ≡ a
      and_true true = refl
      and_true false = refl

  pub without_absent : (s : Set o) (k : K) → has s k ≡ false → without s k ≡ s
  without_absent s k gone = same_set _ _ (λ q. has-kept (λ x. not (eq_by_cmp o.cmp k x)) s q ∙ none_tied s k q gone)

  pub size-with_key : (s : Set o) (k : K) → size (with_key s k) ≡ cond (has s k) (size s) (size s + 1)
  size-with_key s k = size-put_in o s k tt

  pub size_grows : (s : Set o) (k : K) → size s ≤ size (with_key s k)
  size_grows s k = let grown = size-with_key s k in either (has s k) (λ t. let e = grown ∙ ap (λ b. cond b (size s) (size s + 1)) t in omega arith)
      (λ t. let e = grown ∙ ap (λ b. cond b (size s) (size s + 1)) t in omega arith)

  pub size-with_rows : (es : List (K × Unit {0})) (s : Set o) → size s ≤ size (with_rows s es)
  size-with_rows [] s = omega arith
  size-with_rows (e ∷ es) s = let one = size_grows s e.0 in let rest = size-with_rows es (with_key s e.0) in omega arith

  -- ---- the lattice of sets
  pub union_comm : (s t : Set o) → union s t ≡ union t s
  union_comm s t = same_set _ _ (λ q. has-union s t q ∙ or_comm (has s q) (has t q) ∙ sym (has-union t s q))

  pub union_assoc : (s t u : Set o) → union (union s t) u ≡ union s (union t u)
  union_assoc s t u =
      same_set _ _ (λ q. has-union (union s t) u q ∙ ap (λ b. b || has u q) (has-union s t q) ∙ or_assoc (has s q) (has t q) (has u q)
      ∙ ap (λ b. has s q || b) (sym (has-union t u q)) ∙ sym (has-union s (union t u) q))

  pub union_idem : (s : Set o) → union s s ≡ s
  union_idem s = same_set _ _ (λ q. has-union s s q ∙ or_idem (has s q))

  pub within_union_left : (s t : Set o) → IsWithin s (union s t)
  within_union_left s t q h = has-union s t q ∙ or_left (has s q) (has t q) h

  pub within_union_right : (s t : Set o) → IsWithin t (union s t)
  within_union_right s t q h = has-union s t q ∙ or_right (has s q) (has t q) h

  pub union_of_within : (s t : Set o) → IsWithin s t → union s t ≡ t
  union_of_within s t h = same_set _ _ (λ q. has-union s t q ∙ or_absorbed (has s q) (has t q) (h q))

  pub within_of_union : (s t : Set o) → union s t ≡ t → IsWithin s t
  within_of_union s t e q h = ap (λ w. has w q) (sym e) ∙ within_union_left s t q h

  -- a set within another is no larger
  pub size_within : (s t : Set o) → IsWithin s t → size s ≤ size t
  size_within s t h = let grown = size-with_rows t.rows s in let same = ap size (union_of_within s t h) in omega arith

  pub within_cut : (s t u : Set o) → IsWithin s t → IsWithin (cut s u) (cut t u)
  within_cut s t u h q e = let parts = and_both (has s q) (has u q) (sym (has-cut s u q) ∙ e) in has-cut t u q ∙ and_made (has t q) (has u q) (h q parts.0) parts.1

  pub cut_within : (s t : Set o) → IsWithin (cut s t) s
  cut_within s t q e = (and_both (has s q) (has t q) (sym (has-cut s t q) ∙ e)).0

  pub cut-union : (s t u : Set o) → cut (union s t) u ≡ union (cut s u) (cut t u)
  cut-union s t u =
      same_set _ _ (λ q. has-cut (union s t) u q ∙ ap (λ b. b && has u q) (has-union s t q) ∙ and_or (has s q) (has t q) (has u q)
      ∙ ap (λ b. b || (has t q && has u q)) (sym (has-cut s u q)) ∙ ap (λ b. has (cut s u) q || b) (sym (has-cut t u q)) ∙ sym (has-union (cut s u) (cut t u) q))

  pub cut-cut : (s t u : Set o) → cut (cut s t) u ≡ cut s (cut t u)
  cut-cut s t u =
      same_set _ _ (λ q. has-cut (cut s t) u q ∙ ap (λ b. b && has u q) (has-cut s t q) ∙ and_assoc (has s q) (has t q) (has u q)
      ∙ ap (λ b. has s q && b) (sym (has-cut t u q)) ∙ sym (has-cut s (cut t u) q))
