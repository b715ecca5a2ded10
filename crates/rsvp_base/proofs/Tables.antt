-- What tables answer after each change, and when they are equal.
use Rattle.std.specs.Prelude.{◌≡◌, ◌+◌, Bool, true, false, cond, not, List, [], ◌∷◌, Option, ◌⊎◌, Some, None, refl}
use Rattle.std.proofs.Common.{sym, ap, ◌∙◌, T, inl, inr}
use Rattle.std.specs.declared.cmp.Ordering.{Ordering}
use Rattle.std.specs.declared.cmp.Ordering.TheVariants.{Less, Equal, Greater}
use Rattle.std.specs.Ordering.{eq_by_cmp, is_eq, is_lt}
use Rattle.std.specs.Cmp.{tied_itself}
use Rattle.std.specs.FinMap.Entries.{find, below_all, is_sorted, find-put, find-where_key, length-put, same_entries}
use Rattle.rsvp_base.specs.Keys.{Keys}
use Rattle.rsvp_base.specs.Table.{Table, get, has, size, put_in, kept, without, changed, changed_rows, kept_row, same_rows, first, second}

-- a test that passes is true
pub holds : (b : Bool) → T b → b ≡ true
holds true h = refl
holds false h = absurd h

-- by the two answers of a test
pub either : (b : Bool) {C : Type 0} → (b ≡ true → C) → (b ≡ false → C) → C
either true f g = f refl
either false f g = g refl

is_equal : (r : Ordering) → is_eq r ≡ true → r ≡ Equal
is_equal Less p = cc
is_equal Equal p = refl
is_equal Greater p = cc

pub less_not_equal : (r : Ordering) → T (is_lt r) → is_eq r ≡ false
less_not_equal Less h = refl
less_not_equal Equal h = absurd h
less_not_equal Greater h = absurd h

-- keys that tie are one
pub tied_same : {K : Type 0} (o : Keys K) (q k : K) → eq_by_cmp o.cmp q k ≡ true → q ≡ k
tied_same o q k e = o.same q k (is_equal (o.cmp q k) e)

pub tied_self : {K : Type 0} (o : Keys K) (k : K) → eq_by_cmp o.cmp k k ≡ true
tied_self o k = ap is_eq (tied_itself o.total k)

module _ {K X : Type 0} (o : Keys K) where
  -- ---- put_in
  pub get-put_in : (m : Table o X) (k : K) (v : X) (q : K) → get (put_in m k v) q ≡ cond (eq_by_cmp o.cmp q k) (Some v) (get m q)
  get-put_in m k v q = find-put o.cmp o.total q k v m.rows

  pub get-put_in_same : (m : Table o X) (k : K) (v : X) → get (put_in m k v) k ≡ Some v
  get-put_in_same m k v = get-put_in m k v k ∙ ap (λ b. cond b (Some v) (get m k)) (tied_self o k)

  pub get-put_in_other : (m : Table o X) (k : K) (v : X) (q : K) → eq_by_cmp o.cmp q k ≡ false → get (put_in m k v) q ≡ get m q
  get-put_in_other m k v q apart = get-put_in m k v q ∙ ap (λ b. cond b (Some v) (get m q)) apart

  -- what is found after a row was put is that row, or was there
  pub got_put_in : (m : Table o X) (k : K) (v : X) (q : K) (x : X) → get (put_in m k v) q ≡ Some x → ((q ≡ k) × (x ≡ v)) ⊎ (get m q ≡ Some x)
  got_put_in m k v q x e =
      let g = sym (get-put_in m k v q) ∙ e in
      either (eq_by_cmp o.cmp q k)
      (λ t. let here : Some v ≡ Some x = ap (λ b. cond b (Some v) (get m q)) (sym t) ∙ g in inl (tied_same o q k t, (cc)))
      (λ t. inr (ap (λ b. cond b (Some v) (get m q)) (sym t) ∙ g))

  pub size-put_in : (m : Table o X) (k : K) (v : X) → size (put_in m k v) ≡ cond (has m k) (size m) (size m + 1)
  size-put_in m k v = length-put o.cmp o.total k v m.rows m.sorted

  -- ---- kept and without
  pub get-kept : (p : K → Bool) (m : Table o X) (q : K) → get (kept p m) q ≡ cond (p q) (get m q) None
  get-kept p m q = find-where_key o.cmp p q (λ x tie. ap p (sym (o.same q x tie))) m.rows

  pub got_kept : (p : K → Bool) (m : Table o X) (q : K) (x : X) → get (kept p m) q ≡ Some x → (p q ≡ true) × (get m q ≡ Some x)
  got_kept p m q x e =
      let g = sym (get-kept p m q) ∙ e in
      either (p q)
      (λ t. (t, ap (λ b. cond b (get m q) None) (sym t) ∙ g))
      (λ t. let gone : None ≡ Some x = ap (λ b. cond b (get m q) None) (sym t) ∙ g in absurd (cc))

  pub get-without : (m : Table o X) (k q : K) → get (without m k) q ≡ cond (not (eq_by_cmp o.cmp k q)) (get m q) None
  get-without m k q = get-kept (λ x. not (eq_by_cmp o.cmp k x)) m q

  pub got_without : (m : Table o X) (k q : K) (x : X) → get (without m k) q ≡ Some x → get m q ≡ Some x
  got_without m k q x e = (got_kept (λ z. not (eq_by_cmp o.cmp k z)) m q x e).1

  -- ---- tables that answer alike are equal
  pub same_table : (m n : Table o X) → ((q : K) → get m q ≡ get n q) → m ≡ n
  same_table m n alike = same_rows m n (same_entries o.cmp o.total o.same m.rows n.rows m.sorted n.sorted alike)

  -- without a key that is not there
  pub without_absent : (m : Table o X) (k : K) → get m k ≡ None → without m k ≡ m
  without_absent m k none =
      same_table _ _ (λ q. get-without m k q ∙ either (eq_by_cmp o.cmp k q)
      (λ t. ap (λ b. cond (not b) (get m q) None) t ∙ sym (ap (get m) (sym (tied_same o k q t)) ∙ none))
      (λ t. ap (λ b. cond (not b) (get m q) None) t))

  -- a key below each key of a list is not found in it
  pub none_above : (k : K) (es : List (K × X)) → T (below_all o.cmp k es) → find o.cmp k es ≡ None
  none_above k [] h = refl
  none_above k (e ∷ es) h = ap (λ b. cond b (Some e.1) (find o.cmp k es)) (less_not_equal _ (first _ _ h)) ∙ none_above k es (second _ _ h)

-- ---- changed
abbrev pub then_do : {X Y : Type 0} → Option X → (X → Option Y) → Option Y
then_do None f = None
then_do (Some x) f = f x

module _ {K X Y : Type 0} (o : Keys K) (f : K → X → Option Y) where
  find-changed : (es : List (K × X)) (q : K) → T (is_sorted o.cmp es) → find o.cmp q (changed_rows f es) ≡ then_do (find o.cmp q es) (f q)
  find-changed [] q h = refl
  find-changed (e ∷ es) q h = by_tie (find-changed es q (second _ _ h)) (eq_by_cmp o.cmp q e.0) refl (f e.0 e.1) refl
    where
      by_tie : find o.cmp q (changed_rows f es) ≡ then_do (find o.cmp q es) (f q) → (b : Bool) → eq_by_cmp o.cmp q e.0 ≡ b → (w : Option Y) → f e.0 e.1 ≡ w
          → find o.cmp q (kept_row e.0 w (changed_rows f es)) ≡ then_do (cond b (Some e.1) (find o.cmp q es)) (f q)
      by_tie ih true t None w =
          let k = tied_same o q e.0 t in
          ih ∙ ap (λ x. then_do x (f q)) (ap (λ z. find o.cmp z es) k ∙ none_above o e.0 es (first _ _ h)) ∙ sym (ap (λ z. f z e.1) k ∙ w)
      by_tie ih true t (Some y) w = ap (λ b. cond b (Some y) (find o.cmp q (changed_rows f es))) t ∙ sym (ap (λ z. f z e.1) (tied_same o q e.0 t) ∙ w)
      by_tie ih false t None w = ih
      by_tie ih false t (Some y) w = ap (λ b. cond b (Some y) (find o.cmp q (changed_rows f es))) t ∙ ih

  pub get-changed : (m : Table o X) (q : K) → get (changed f m) q ≡ then_do (get m q) (f q)
  get-changed m q = find-changed m.rows q m.sorted

  then_some : (w : Option X) (q : K) (y : Y) → then_do w (f q) ≡ Some y → (x : X) × (w ≡ Some x) × (f q x ≡ Some y)
  then_some None q y e = cc
  then_some (Some x) q y e = (x, refl, e)

  -- a row of the changed table is the change of a row
  pub got_changed : (m : Table o X) (q : K) (y : Y) → get (changed f m) q ≡ Some y → (x : X) × (get m q ≡ Some x) × (f q x ≡ Some y)
  got_changed m q y e = then_some (get m q) q y (sym (get-changed m q) ∙ e)
