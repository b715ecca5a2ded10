-- What the rows under one first part of their keys are, and how they change.
use Rattle.std.specs.Prelude.{◌≡◌, Bool, true, false, cond, not, List, [], ◌∷◌, map as each, Some, None, refl}
use Rattle.std.proofs.Common.{sym, ap, ◌∙◌}
use Rattle.std.specs.declared.cmp.Ordering.{Ordering}
use Rattle.std.specs.declared.cmp.Ordering.TheVariants.{Less, Equal, Greater}
use Rattle.std.specs.Ordering.{eq_by_cmp, is_eq, ordering_then}
use Rattle.std.specs.Cmp.{tied_itself}
use Rattle.std.specs.FinMap.Entries.{find, where_key}
use Rattle.rsvp_base.specs.Keys.{Keys, pairs}
use Rattle.rsvp_base.specs.Table.{Table, get, put_in, kept, without}
use Rattle.rsvp_base.specs.Under.{rows_under, under}
use Rattle.rsvp_base.proofs.Tables.{get-put_in, get-kept, get-without, same_table}

-- pairs tie where both parts do
then_eq : (r s : Ordering) → is_eq r ≡ true → is_eq (ordering_then r s) ≡ is_eq s
then_eq Less s e = cc
then_eq Equal s e = refl
then_eq Greater s e = cc

then_apart : (r s : Ordering) → is_eq r ≡ false → is_eq (ordering_then r s) ≡ false
then_apart Less s e = refl
then_apart Equal s e = cc
then_apart Greater s e = refl

module _ {A B : Type 0} (o : Keys A) (p : Keys B) where
  same_first : (a : A) (b k : B) → eq_by_cmp (pairs o p).cmp (a, b) (a, k) ≡ eq_by_cmp p.cmp b k
  same_first a b k = then_eq (o.cmp a a) (p.cmp b k) (ap is_eq (tied_itself o.total a))

  other_first : (a c : A) (b k : B) → eq_by_cmp o.cmp c a ≡ false → eq_by_cmp (pairs o p).cmp (c, b) (a, k) ≡ false
  other_first a c b k apart = then_apart (o.cmp c a) (p.cmp b k) apart

module _ {A B X : Type 0} (o : Keys A) (p : Keys B) where
  find-rows_under : (a : A) (b : B) (es : List ((A × B) × X)) → find p.cmp b (rows_under o p a es) ≡ find (pairs o p).cmp (a, b) es
  find-rows_under a b [] = refl
  find-rows_under a b (e ∷ es) =
      let rest = find-rows_under a b es in
      elim (eq_by_cmp o.cmp a e.0.0) as (λ t. eq_by_cmp o.cmp a e.0.0 ≡ t → find p.cmp b (each (λ e. (e.0.1, e.1)) (cond t (e ∷ where_key (pairs o p).cmp (λ k. eq_by_cmp o.cmp a k.0) es) (where_key (pairs o p).cmp (λ k. eq_by_cmp o.cmp a k.0) es))) ≡ find (pairs o p).cmp (a, b) (e ∷ es)) [
        | true ↦ λ t. ap (cond (eq_by_cmp p.cmp b e.0.1) (Some e.1)) rest ∙ ap (λ c. cond c (Some e.1) (find (pairs o p).cmp (a, b) es)) (sym (then_eq _ (p.cmp b e.0.1) t))
        | false ↦ λ t. rest ∙ ap (λ c. cond c (Some e.1) (find (pairs o p).cmp (a, b) es)) (sym (then_apart _ (p.cmp b e.0.1) t))
      ] refl

  pub get-under : (m : Table (pairs o p) X) (a : A) (b : B) → get (under o p m a) b ≡ get m (a, b)
  get-under m a b = find-rows_under a b m.rows

  -- ---- a row put in, or taken out, under the same first part or another
  pub under-put_in_same : (m : Table (pairs o p) X) (a : A) (k : B) (v : X) → under o p (put_in m (a, k) v) a ≡ put_in (under o p m a) k v
  under-put_in_same m a k v =
      same_table p _ _ (λ b. get-under (put_in m (a, k) v) a b ∙ get-put_in (pairs o p) m (a, k) v (a, b)
      ∙ ap (λ t. cond t (Some v) (get m (a, b))) (same_first o p a b k) ∙ ap (cond (eq_by_cmp p.cmp b k) (Some v)) (sym (get-under m a b)) ∙ sym (get-put_in p (under o p m a) k v b))

  pub under-put_in_other : (m : Table (pairs o p) X) (a c : A) (k : B) (v : X) → eq_by_cmp o.cmp c a ≡ false → under o p (put_in m (a, k) v) c ≡ under o p m c
  under-put_in_other m a c k v apart =
      same_table p _ _ (λ b. get-under (put_in m (a, k) v) c b ∙ get-put_in (pairs o p) m (a, k) v (c, b)
      ∙ ap (λ t. cond t (Some v) (get m (c, b))) (other_first o p a c b k apart) ∙ sym (get-under m c b))

  pub under-without_same : (m : Table (pairs o p) X) (a : A) (k : B) → under o p (without m (a, k)) a ≡ without (under o p m a) k
  under-without_same m a k =
      same_table p _ _ (λ b. get-under (without m (a, k)) a b ∙ get-without (pairs o p) m (a, k) (a, b)
      ∙ ap (λ t. cond (not t) (get m (a, b)) None) (same_first o p a k b) ∙ ap (λ w. cond (not (eq_by_cmp p.cmp k b)) w None) (sym (get-under m a b)) ∙ sym (get-without p (under o p m a) k b))

  pub under-without_other : (m : Table (pairs o p) X) (a c : A) (k : B) → eq_by_cmp o.cmp a c ≡ false → under o p (without m (a, k)) c ≡ under o p m c
  under-without_other m a c k apart =
      same_table p _ _ (λ b. get-under (without m (a, k)) c b ∙ get-without (pairs o p) m (a, k) (c, b)
      ∙ ap (λ t. cond (not t) (get m (c, b)) None) (other_first o p c a k b apart) ∙ sym (get-under m c b))

  -- ---- the rows that pass a test
  pub under-kept : (m : Table (pairs o p) X) (a : A) (test : A × B → Bool) → under o p (kept test m) a ≡ kept (λ b. test (a, b)) (under o p m a)
  under-kept m a test =
      same_table p _ _ (λ b. get-under (kept test m) a b ∙ get-kept (pairs o p) test m (a, b) ∙ ap (λ w. cond (test (a, b)) w None) (sym (get-under m a b))
      ∙ sym (get-kept p (λ q. test (a, q)) (under o p m a) b))
