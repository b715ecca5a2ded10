-- Tables by session: how many sessions they have and how many rows of one, as a row is put in or taken out; and their limits.
use Rattle.std.proofs.Common.{◌≡◌, ◌≤◌, ◌+◌, ◌*◌, ◌||◌, ◌&&◌, ℕ, zero, suc, Bool, true, false, cond, is_some, List, [], ◌∷◌, length, map as each, Option, Some, None, refl, sym, ap, subst, ◌∙◌, arith}
use Rattle.std.specs.Prelude.{nat_le, not, sum_by}
use Rattle.std.specs.List.{list_any}
use Rattle.std.specs.Ordering.{eq_by_cmp}
use Rattle.std.specs.FinMap.Entries.{where_key, find}
use Rattle.std.proofs.lemmas.Bool.{both_ways}
use Rattle.std.proofs.lemmas.Bool.Decides.{nat_tests}
use Rattle.std.proofs.lemmas.List.Sums.{sum_by-cons}
use Rattle.rsvp_base.specs.Keys.{Keys, pairs}
use Rattle.rsvp_base.specs.Orders.{sessions}
use Rattle.rsvp_base.specs.Sets.{with_key}
use Rattle.rsvp_base.specs.Table.{Table, empty, get, has, size, put_in, kept, without}
use Rattle.rsvp_base.specs.Under.{rows_under, under}
use Rattle.rsvp_base.specs.SessionLimits.{sessions_in, has_room_at, IsWithinSessionLimits}
use Rattle.rsvp_base.specs.declared.session.Session.{Session}
use Rattle.rsvp_base.proofs.Counts.{has-set_of, size_below, sum-without}
use Rattle.rsvp_base.proofs.SetLaws.{and_both, same_set, has-with_key, size-with_key}
use Rattle.rsvp_base.proofs.Tables.{either, tied_same, tied_self, get-put_in, get-kept, get-without, same_table, size-put_in}
use Rattle.rsvp_base.proofs.UnderLaws.{get-under, under-put_in_same, under-put_in_other}

-- a key less
pub size-without : {K X : Type 0} (o : Keys K) (m : Table o X) (k : K) (v : X) → get m k ≡ Some v → size (without m k) + 1 ≡ size m
size-without o m k v at =
    let ones = sum-without o (λ e. 1) m k v at in
    omega (arith, ones, all_ones m.rows, all_ones (without m k).rows)
  where
    all_ones : {A : Type 0} (xs : List A) → sum_by (λ (x : A). 1) xs ≡ length xs
    all_ones [] = refl
    all_ones (x ∷ xs) = omega (arith, all_ones xs, sum_by-cons (λ z. 1) x xs)

abbrev pub is_full : {A : Type 0} → List A → Bool
is_full [] = false
is_full (x ∷ xs) = true

pub full_if : {A : Type 0} (xs : List A) → 1 ≤ length xs → is_full xs ≡ true
full_if [] le = absurd (omega arith)
full_if (x ∷ xs) le = refl

pub if_full : {A : Type 0} (xs : List A) → is_full xs ≡ true → 1 ≤ length xs
if_full [] e = absurd (both_ways _ refl e)
if_full (x ∷ xs) e = omega arith

pub if_empty : {A : Type 0} (xs : List A) → is_full xs ≡ false → length xs ≡ 0
if_empty [] e = refl
if_empty (x ∷ xs) e = absurd (both_ways _ e refl)

pub at_most : (a b : ℕ) → a ≤ b → nat_le a b ≡ true
at_most a b le = grind (arith, nat_tests)

pub is_at_most : (a b : ℕ) → nat_le a b ≡ true → a ≤ b
is_at_most a b e = grind (arith, nat_tests)

module _ {B X : Type 0} (o : Keys B) where
  -- a session has a key where there is something under it
  pub any_under : (q : Session) (es : List ((Session × B) × X)) → list_any (eq_by_cmp sessions.cmp q) (each (λ k. k.0) (each (λ e. e.0) es)) ≡ is_full (rows_under sessions o q es)
  any_under q [] = refl
  any_under q (e ∷ es) = by (eq_by_cmp sessions.cmp q e.0.0) (any_under q es)
    where
      by : (b : Bool) → list_any (eq_by_cmp sessions.cmp q) (each (λ k. k.0) (each (λ e. e.0) es)) ≡ is_full (rows_under sessions o q es)
          → (b || list_any (eq_by_cmp sessions.cmp q) (each (λ k. k.0) (each (λ e. e.0) es)))
          ≡ is_full {A = B × X} (each (λ (e : (Session × B) × X). (e.0.1, e.1)) (cond b (e ∷ where_key (pairs sessions o).cmp (λ k. eq_by_cmp sessions.cmp q k.0) es)
          (where_key (pairs sessions o).cmp (λ k. eq_by_cmp sessions.cmp q k.0) es)))
      by true rest = refl
      by false rest = rest

  pub has_session : (m : Table (pairs sessions o) X) (q : Session) → has (sessions_in o m) q ≡ is_full (under sessions o m q).rows
  has_session m q = has-set_of sessions (each (λ k. k.0) (each (λ e. e.0) m.rows)) q ∙ any_under q m.rows

  pub some_rows : (b : B) (es : List (B × X)) → is_some (find o.cmp b es) ≡ true → 1 ≤ length es
  some_rows b [] h = absurd (both_ways _ refl h)
  some_rows b (e ∷ es) h = omega arith

  pub full_put : (m : Table o X) (b : B) (v : X) → is_full (put_in m b v).rows ≡ true
  full_put m b v = full_if (put_in m b v).rows many
    where
      many : 1 ≤ size (put_in m b v)
      many =
          either (has m b)
          (λ t. let n = size-put_in o m b v ∙ ap (λ w. cond w (size m) (size m + 1)) t in omega (arith, n, some_rows b m.rows t))
          (λ t. let n = size-put_in o m b v ∙ ap (λ w. cond w (size m) (size m + 1)) t in omega (arith, n))

  -- the sessions of a table with one more fact
  pub sessions_put : (m : Table (pairs sessions o) X) (s : Session) (b : B) (v : X) → sessions_in o (put_in m (s, b) v) ≡ with_key (sessions_in o m) s
  sessions_put m s b v =
      same_set sessions _ _ (λ q. has_session (put_in m (s, b) v) q ∙ either (eq_by_cmp sessions.cmp q s)
      (λ t.
      let is = tied_same sessions q s t in
      ap (λ x. is_full (under sessions o (put_in m (s, b) v) x).rows) is ∙ ap (λ (u : Table o X). is_full u.rows) (under-put_in_same sessions o m s b v) ∙ full_put (under sessions o m s) b v
      ∙ sym (has-with_key sessions (sessions_in o m) s q ∙ ap (λ w. w || has (sessions_in o m) q) t))
      (λ t.
      ap (λ (u : Table o X). is_full u.rows) (under-put_in_other sessions o m s q b v t) ∙ sym (has_session m q)
      ∙ sym (has-with_key sessions (sessions_in o m) s q ∙ ap (λ w. w || has (sessions_in o m) q) t)))

  pub size_sessions : (m : Table (pairs sessions o) X) (s : Session) (b : B) (v : X) → size (sessions_in o (put_in m (s, b) v))
      ≡ cond (is_full (under sessions o m s).rows) (size (sessions_in o m)) (size (sessions_in o m) + 1)
  size_sessions m s b v = ap size (sessions_put m s b v) ∙ size-with_key sessions (sessions_in o m) s ∙ ap (λ w. cond w (size (sessions_in o m)) (size (sessions_in o m) + 1)) (has_session m s)

  pub size_under : (m : Table (pairs sessions o) X) (s : Session) (b : B) (v : X) → size (under sessions o (put_in m (s, b) v) s)
      ≡ cond (is_some (get m (s, b))) (size (under sessions o m s)) (size (under sessions o m s) + 1)
  size_under m s b v =
      ap size (under-put_in_same sessions o m s b v) ∙ size-put_in o (under sessions o m s) b v
      ∙ ap (λ w. cond (is_some w) (size (under sessions o m s)) (size (under sessions o m s) + 1)) (get-under sessions o m s b)

module _ {B X : Type 0} (o : Keys B) where
  module _ (m : Table (pairs sessions o) X) (within : IsWithinSessionLimits o m) (s : Session) (b : B) (v : X) where
    -- where the key is there
    pub room_over : is_some (get m (s, b)) ≡ true → has_room_at o (put_in m (s, b) v) s ≡ true
    room_over there =
        let few : size (sessions_in o (put_in m (s, b) v)) ≡ size (sessions_in o m) =
        size_sessions o m s b v ∙ ap (λ w. cond w (size (sessions_in o m)) (size (sessions_in o m) + 1))
        (full_if (under sessions o m s).rows (some_rows o b (under sessions o m s).rows (ap is_some (get-under sessions o m s b) ∙ there))) in
        let one = size_under o m s b v ∙ ap (λ w. cond w (size (under sessions o m s)) (size (under sessions o m s) + 1)) there in
        ap (λ n. nat_le n 32 && nat_le (size (under sessions o (put_in m (s, b) v) s)) 16) few ∙ ap (λ n. nat_le (size (sessions_in o m)) 32 && nat_le n 16) one
        ∙ ap (λ t. t && nat_le (size (under sessions o m s)) 16) (at_most _ 32 within.all) ∙ at_most _ 16 (within.one s)

    -- where the session has facts
    pub room_among : is_some (get m (s, b)) ≡ false → is_full (under sessions o m s).rows ≡ true → has_room_at o (put_in m (s, b) v) s ≡ nat_le (size (under sessions o m s) + 1) 16
    room_among new some =
        let few : size (sessions_in o (put_in m (s, b) v)) ≡ size (sessions_in o m) = size_sessions o m s b v ∙ ap (λ w. cond w (size (sessions_in o m)) (size (sessions_in o m) + 1)) some in
        let one = size_under o m s b v ∙ ap (λ w. cond w (size (under sessions o m s)) (size (under sessions o m s) + 1)) new in
        ap (λ n. nat_le n 32 && nat_le (size (under sessions o (put_in m (s, b) v) s)) 16) few ∙ ap (λ n. nat_le (size (sessions_in o m)) 32 && nat_le n 16) one
        ∙ ap (λ t. t && nat_le (size (under sessions o m s) + 1) 16) (at_most _ 32 within.all)

    -- where it has none
    pub room_first : is_full (under sessions o m s).rows ≡ false → has_room_at o (put_in m (s, b) v) s ≡ nat_le (size (sessions_in o m) + 1) 32
    room_first none =
        let few : size (sessions_in o (put_in m (s, b) v)) ≡ size (sessions_in o m) + 1 = size_sessions o m s b v ∙ ap (λ w. cond w (size (sessions_in o m)) (size (sessions_in o m) + 1)) none in
        let no : is_some (get m (s, b)) ≡ false =
        either (is_some (get m (s, b))) (λ t. absurd (omega (
          arith,
          if_empty (under sessions o m s).rows none,
          some_rows o b (under sessions o m s).rows (ap is_some (get-under sessions o m s b) ∙ t),
        ))) (λ t. t) in
        let one : size (under sessions o (put_in m (s, b) v) s) ≡ 1 =
        size_under o m s b v ∙ ap (λ w. cond w (size (under sessions o m s)) (size (under sessions o m s) + 1)) no ∙ ap (λ n. n + 1) (if_empty (under sessions o m s).rows none) in
        ap (λ n. nat_le n 32 && nat_le (size (under sessions o (put_in m (s, b) v) s)) 16) few ∙ ap (λ n. nat_le (size (sessions_in o m) + 1) 32 && nat_le n 16) one
        ∙ and_true (nat_le (size (sessions_in o m) + 1) 32)
      where
        and_true : (t : Bool) → (t && true) ≡ t
        and_true true = refl
        and_true false = refl

    -- the limits hold again
    pub within_put : has_room_at o (put_in m (s, b) v) s ≡ true → IsWithinSessionLimits o (put_in m (s, b) v)
    within_put room =
        let parts = and_both (nat_le (size (sessions_in o (put_in m (s, b) v))) 32) (nat_le (size (under sessions o (put_in m (s, b) v) s)) 16) room in
        record {
          all = is_at_most _ 32 parts.0;
          one = λ q. either (eq_by_cmp sessions.cmp q s)
              (λ t. subst (λ x. size (under sessions o (put_in m (s, b) v) x) ≤ 16) (sym (tied_same sessions q s t)) (is_at_most _ 16 parts.1))
              (λ t. subst (λ (u : Table o X). size u ≤ 16) (sym (under-put_in_other sessions o m s q b v t)) (within.one q));
        }

-- ---- fewer facts
module _ {B X Y : Type 0} (o : Keys B) (m : Table (pairs sessions o) X) (n : Table (pairs sessions o) Y) (fewer : (k : Session × B) → has n k ≡ true → has m k ≡ true) where
  under_fewer : (s : Session) → size (under sessions o n s) ≤ size (under sessions o m s)
  under_fewer s = size_below o (under sessions o n s) (under sessions o m s) (λ b h. ap is_some (get-under sessions o m s b) ∙ fewer (s, b) (ap is_some (sym (get-under sessions o n s b)) ∙ h))

  sessions_fewer : size (sessions_in o n) ≤ size (sessions_in o m)
  sessions_fewer =
      size_below sessions (sessions_in o n) (sessions_in o m) (λ q h.
      has_session o m q ∙ full_if (under sessions o m q).rows (omega (arith, under_fewer q, if_full (under sessions o n q).rows (sym (has_session o n q) ∙ h))))

  pub within_fewer : IsWithinSessionLimits o m → IsWithinSessionLimits o n
  within_fewer within = record { all = omega (arith, sessions_fewer, within.all); one = λ s. omega (arith, under_fewer s, within.one s) }

pub within_none : {B X : Type 0} (o : Keys B) → IsWithinSessionLimits {X = X} o empty
within_none o = record { all = omega arith; one = λ s. omega arith }

-- ---- within the limits there are at most 512
abbrev others : {B : Type 0} → Session → Session × B → Bool
others s k = not (eq_by_cmp sessions.cmp s k.0)

module _ {B X : Type 0} (o : Keys B) where
  split : (s : Session) (es : List ((Session × B) × X)) → length es ≡ length (rows_under sessions o s es) + length (where_key (pairs sessions o).cmp (others s) es)
  split s [] = refl
  split s (e ∷ es) = by (eq_by_cmp sessions.cmp s e.0.0) (split s es)
    where
      by : (b : Bool) → length es ≡ length (rows_under sessions o s es) + length (where_key (pairs sessions o).cmp (others s) es)
          → suc (length es) ≡ length {A = B × X} (each (λ (e : (Session × B) × X). (e.0.1, e.1))
          (cond b (e ∷ where_key (pairs sessions o).cmp (λ k. eq_by_cmp sessions.cmp s k.0) es) (where_key (pairs sessions o).cmp (λ k. eq_by_cmp sessions.cmp s k.0) es)))
          + length (cond (not b) (e ∷ where_key (pairs sessions o).cmp (others s) es) (where_key (pairs sessions o).cmp (others s) es))
      by true rest = omega (arith, rest)
      by false rest = omega (arith, rest)

  kept_fewer : (m : Table (pairs sessions o) X) (s : Session) (k : Session × B) → has (kept (others s) m) k ≡ true → has m k ≡ true
  kept_fewer m s k h = by (others s k) (ap is_some (get-kept (pairs sessions o) (others s) m k)) h
    where
      by : (t : Bool) → has (kept (others s) m) k ≡ is_some (cond t (get m k) None) → has (kept (others s) m) k ≡ true → has m k ≡ true
      by true e h = sym e ∙ h
      by false e h = absurd (both_ways _ refl (sym e ∙ h))

  gone_session : (m : Table (pairs sessions o) X) (s : Session) → size (under sessions o (kept (others s) m) s) ≡ 0
  gone_session m s =
      let nothing : Table o X = empty in
      let none = size_below o (under sessions o (kept (others s) m) s) nothing (λ b h. absurd (both_ways (has (under sessions o (kept (others s) m) s) b) (ap is_some (gone b)) h)) in
      omega (arith, none)
    where
      gone : (b : B) → get (under sessions o (kept (others s) m) s) b ≡ None
      gone b = get-under sessions o (kept (others s) m) s b ∙ get-kept (pairs sessions o) (others s) m (s, b) ∙ ap (λ t. cond (not t) (get m (s, b)) None) (tied_self sessions s)

  fewer_sessions : (m : Table (pairs sessions o) X) (s : Session) → has (sessions_in o m) s ≡ true → size (sessions_in o (kept (others s) m)) + 1 ≤ size (sessions_in o m)
  fewer_sessions m s there =
      let below = size_below sessions (sessions_in o (kept (others s) m)) (without (sessions_in o m) s) (λ q h. member q h (full_of q h)) in
      let less = size-without sessions (sessions_in o m) s tt (some_tt (get (sessions_in o m) s) there) in
      omega (arith, below, less)
    where
      some_tt : (w : Option (Unit {0})) → is_some w ≡ true → w ≡ Some tt
      some_tt None e = absurd (both_ways _ refl e)
      some_tt (Some tt) e = refl

      full_of : (q : Session) → has (sessions_in o (kept (others s) m)) q ≡ true → 1 ≤ size (under sessions o (kept (others s) m) q)
      full_of q h = if_full (under sessions o (kept (others s) m) q).rows (sym (has_session o (kept (others s) m) q) ∙ h)

      member : (q : Session) → has (sessions_in o (kept (others s) m)) q ≡ true → 1 ≤ size (under sessions o (kept (others s) m) q) → has (without (sessions_in o m) s) q ≡ true
      member q h many =
          either (eq_by_cmp sessions.cmp s q)
          (λ t. let none = gone_session m s in let same = ap (λ x. size (under sessions o (kept (others s) m) x)) (tied_same sessions s q t) in absurd (omega (arith, many, none, same)))
          (λ t.
          let was : has (sessions_in o m) q ≡ true = has_session o m q ∙ full_if (under sessions o m q).rows (omega (arith, many, under_fewer o m (kept (others s) m) (kept_fewer m s) q)) in
          ap is_some (get-without sessions (sessions_in o m) s q ∙ ap (λ b. cond (not b) (get (sessions_in o m) q) None) t) ∙ was)

  step : (n : ℕ) (m : Table (pairs sessions o) X) → size (sessions_in o m) ≤ suc n → ((s : Session) → size (under sessions o m s) ≤ 16)
      → ((k : Table (pairs sessions o) X) → size (sessions_in o k) ≤ n → ((s : Session) → size (under sessions o k s) ≤ 16) → size k ≤ 16 * n) → size m ≤ 16 * suc n
  step n m few one rest = by m.rows refl
    where
      by : (es : List ((Session × B) × X)) → m.rows ≡ es → size m ≤ 16 * suc n
      by [] e = omega (arith, ap length e)
      by (x ∷ es) e =
          let s = x.0.0 in
          let there : has (sessions_in o m) s ≡ true = has-set_of sessions (each (λ k. k.0) (each (λ e. e.0) m.rows)) s
          ∙ ap (λ rs. list_any (eq_by_cmp sessions.cmp s) (each (λ k. k.0) (each (λ e. e.0) rs))) e
          ∙ ap (λ t. t || list_any (eq_by_cmp sessions.cmp s) (each (λ k. k.0) (each (λ e. e.0) es))) (tied_self sessions s) in
          let fewer = fewer_sessions m s there in
          let parts = split s m.rows in
          let less = rest (kept (others s) m) (omega (arith, few, fewer)) (λ q. omega (arith, one q, under_fewer o m (kept (others s) m) (kept_fewer m s) q)) in
          omega (arith, parts, less, one s)

  pub all_at_most : (n : ℕ) (m : Table (pairs sessions o) X) → size (sessions_in o m) ≤ n → ((s : Session) → size (under sessions o m s) ≤ 16) → size m ≤ 16 * n
  all_at_most zero m few one = by m.rows refl
    where
      by : (es : List ((Session × B) × X)) → m.rows ≡ es → size m ≤ 16 * 0
      by [] e = omega (arith, ap length e)
      by (x ∷ es) e =
          let there : has (sessions_in o m) x.0.0 ≡ true = has-set_of sessions (each (λ k. k.0) (each (λ e. e.0) m.rows)) x.0.0
          ∙ ap (λ rs. list_any (eq_by_cmp sessions.cmp x.0.0) (each (λ k. k.0) (each (λ e. e.0) rs))) e
          ∙ ap (λ t. t || list_any (eq_by_cmp sessions.cmp x.0.0) (each (λ k. k.0) (each (λ e. e.0) es))) (tied_self sessions x.0.0) in
          let fewer = fewer_sessions m x.0.0 there in
          omega (arith, few, fewer)
  all_at_most (suc n) m few one = step n m few one (λ k. all_at_most n k)

-- ---- a row taken out
module _ {K X : Type 0} (o : Keys K) where
  -- and put back
  pub put_back : (m : Table o X) (k : K) (v : X) → get m k ≡ Some v → put_in (without m k) k v ≡ m
  put_back m k v at =
      same_table o _ _ (λ q. get-put_in o (without m k) k v q ∙ either (eq_by_cmp o.cmp q k)
      (λ t. ap (λ b. cond b (Some v) (get (without m k) q)) t ∙ sym (ap (get m) (tied_same o q k t) ∙ at))
      (λ t. ap (λ b. cond b (Some v) (get (without m k) q)) t ∙ get-without o m k q ∙ ap (λ b. cond (not b) (get m q) None) (apart q t)))
    where
      apart : (q : K) → eq_by_cmp o.cmp q k ≡ false → eq_by_cmp o.cmp k q ≡ false
      apart q f =
          either (eq_by_cmp o.cmp k q)
          (λ t. absurd (both_ways (eq_by_cmp o.cmp q k) f (ap (λ z. eq_by_cmp o.cmp q z) (tied_same o k q t) ∙ tied_self o q)))
          (λ t. t)

module _ {B X : Type 0} (o : Keys B) where
  -- the sessions with the row, by what is left of its session
  pub sessions_without : (m : Table (pairs sessions o) X) (s : Session) (b : B) (v : X) → get m (s, b) ≡ Some v
      → size (sessions_in o m) ≡ cond (is_full (under sessions o (without m (s, b)) s).rows) (size (sessions_in o (without m (s, b)))) (size (sessions_in o (without m (s, b))) + 1)
  sessions_without m s b v at = ap (λ (t : Table (pairs sessions o) X). size (sessions_in o t)) (sym (put_back (pairs sessions o) m (s, b) v at)) ∙ size_sessions o (without m (s, b)) s b v
