-- Tables of which each row is changed or dropped: one after another, beside a row that is put in, under a first part of the
-- keys.
use Rattle.std.specs.Prelude.{◌≡◌, true, cond, is_some, Option, Some, None, refl}
use Rattle.std.proofs.Common.{sym, ap, ◌∙◌}
use Rattle.std.specs.Ordering.{eq_by_cmp}
use Rattle.rsvp_base.specs.Keys.{Keys, pairs}
use Rattle.rsvp_base.specs.Table.{Table, changed, get, has, put_in}
use Rattle.rsvp_base.specs.Under.{under}
use Rattle.rsvp_base.proofs.Tables.{either, get-changed, get-put_in, same_table, then_do, tied_same}
use Rattle.rsvp_base.proofs.UnderLaws.{get-under}

module _ {K X Y : Type 0} (o : Keys K) (f : K → X → Option Y) where
  -- a row that was put in, and changed, is a changed row that was put in
  pub changed_put : (m : Table o X) (k : K) (v : X) (w : Y) → f k v ≡ Some w → changed f (put_in m k v) ≡ put_in (changed f m) k w
  changed_put m k v w e =
      same_table o _ _ (λ q.
      get-changed o f (put_in m k v) q ∙ ap (λ z. then_do z (f q)) (get-put_in o m k v q)
      ∙ either (eq_by_cmp o.cmp q k)
      (λ t. ap (λ b. then_do (cond b (Some v) (get m q)) (f q)) t ∙ ap (λ z. f z v) (tied_same o q k t) ∙ e
      ∙ sym (get-put_in o (changed f m) k w q ∙ ap (λ b. cond b (Some w) (get (changed f m) q)) t))
      (λ t. ap (λ b. then_do (cond b (Some v) (get m q)) (f q)) t ∙ sym (get-changed o f m q) ∙ sym (get-put_in o (changed f m) k w q ∙ ap (λ b. cond b (Some w) (get (changed f m) q)) t)))

  -- where each row stays, whatever becomes of it, the keys are the same
  pub has_changed : ((k : K) (x : X) → is_some (f k x) ≡ true) → (m : Table o X) (q : K) → has (changed f m) q ≡ has m q
  has_changed all m q = ap is_some (get-changed o f m q) ∙ by (get m q)
    where
      by : (w : Option X) → is_some (then_do w (f q)) ≡ is_some w
      by None = refl
      by (Some x) = all q x

-- where each row of the table stays as it is, the table does
pub unchanged : {K X : Type 0} (o : Keys K) (f : K → X → Option X) (m : Table o X) → ((k : K) (x : X) → get m k ≡ Some x → f k x ≡ Some x) → changed f m ≡ m
unchanged {K} {X} o f m same = same_table o _ _ (λ q. get-changed o f m q ∙ by q (get m q) refl)
  where
    by : (q : K) (w : Option X) → get m q ≡ w → then_do w (f q) ≡ w
    by q None e = refl
    by q (Some x) e = same q x e

-- changes that are the same row by row
pub changed_same : {K X Y : Type 0} (o : Keys K) (g h : K → X → Option Y) → ((k : K) (x : X) → g k x ≡ h k x) → (m : Table o X) → changed g m ≡ changed h m
changed_same o g h e m = λ i. changed (λ k x. e k x i) m

-- one change after another
pub changed_twice : {K X Y Z : Type 0} (o : Keys K) (g : K → X → Option Y) (f : K → Y → Option Z) (m : Table o X) → changed f (changed g m) ≡ changed (λ k x. then_do (g k x) (f k)) m
changed_twice {K} {X} o g f m = same_table o _ _ (λ q. get-changed o f (changed g m) q ∙ ap (λ w. then_do w (f q)) (get-changed o g m q) ∙ by q (get m q)
    ∙ sym (get-changed o (λ k x. then_do (g k x) (f k)) m q))
  where
    by : (q : K) (w : Option X) → then_do (then_do w (g q)) (f q) ≡ then_do w (λ x. then_do (g q x) (f q))
    by q None = refl
    by q (Some x) = refl

-- the rows under a first part of a changed table are the changed rows under it
pub under_changed : {A B X Y : Type 0} (o : Keys A) (q : Keys B) (f : A × B → X → Option Y) (m : Table (pairs o q) X) (a : A) → under o q (changed f m) a ≡ changed (λ b. f (a, b)) (under o q m a)
under_changed o q f m a =
    same_table q _ _ (λ b. get-under o q (changed f m) a b ∙ get-changed (pairs o q) f m (a, b)
    ∙ sym (get-changed q (λ z. f (a, z)) (under o q m a) b ∙ ap (λ w. then_do w (f (a, b))) (get-under o q m a b)))
