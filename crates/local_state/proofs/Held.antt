-- Rows of sessions, as one is put in or taken out: the limits, and how many sessions have some.
use Rattle.std.proofs.Common.{◌≡◌, ◌≤◌, ◌+◌, ◌-◌, ◌||◌, ℕ, suc, Bool, true, false, cond, is_some, List, [], ◌∷◌, length, map as each, Option, None, Some, refl, sym, ap, subst, ◌∙◌, arith}
use Rattle.std.specs.Prelude.{nat_le, nat_lt, not}
use Rattle.std.specs.List.{filter, list_any}
use Rattle.std.specs.Ordering.{eq_by_cmp}
use Rattle.std.specs.FinMap.Entries.{where_key}
use Rattle.std.proofs.lemmas.Bool.{both_ways}
use Rattle.std.proofs.lemmas.Bool.Decides.{nat_tests}
use Rattle.rsvp_base.specs.Keys.{Keys, pairs}
use Rattle.rsvp_base.specs.Orders.{sessions}
use Rattle.rsvp_base.specs.Rows.{AreRows, table_of}
use Rattle.rsvp_base.specs.SessionLimits.{IsWithinSessionLimits, has_room_at, sessions_in}
use Rattle.rsvp_base.specs.Table.{Table, empty, get, has, kept, put_in, size, without}
use Rattle.rsvp_base.specs.Under.{under}
use Rattle.rsvp_base.specs.declared.addr.Addr.{Addr}
use Rattle.rsvp_base.specs.declared.session.Session.{Session}
use Rattle.rsvp_base.proofs.Rows.{are_rows, table_is}
use Rattle.rsvp_base.proofs.SessionCounts.{is_full, full_if, some_rows, has_session, size_sessions, sessions_without, room_over, room_among, room_first, within_put, within_fewer, size-without}
use Rattle.rsvp_base.proofs.Tables.{either, get-kept, get-without, got_kept, got_without, same_table, size-put_in, tied_same, tied_self}
use Rattle.rsvp_base.proofs.SetLaws.{same_set, without_absent as absent_same}
use Rattle.rsvp_base.proofs.UnderLaws.{get-under}
use Rattle.router_rules.specs.NodeConfig.{is_addr}
use Rattle.local_state.specs.Rows.{tspec_row}
use Rattle.local_state.specs.declared.senders.LocalSender.{LocalSender}

pub any_named : (addr : Addr) (xs : List LocalSender) → list_any (λ r. is_addr r.sender.addr addr) xs ≡ list_any (λ x. is_addr x.addr addr) (each (λ e. e.0) (each tspec_row xs))
any_named addr [] = refl
any_named addr (x ∷ xs) = ap (λ b. is_addr x.sender.addr addr || b) (any_named addr xs)

pub full_many : {A : Type 0} (xs : List A) → is_full xs ≡ nat_lt 0 (length xs)
full_many [] = refl
full_many (x ∷ xs) = many (length xs)
  where
    many : (n : ℕ) → true ≡ nat_lt 0 (suc n)
    many n = grind (arith, nat_tests)

one_below : (n m : ℕ) → nat_le (n + 1) m ≡ nat_lt n m
one_below n m = grind (arith, nat_tests)

module _ {A B X : Type 0} (o : Keys B) (row : A → (Session × B) × X) where
  abbrev keys_of : Keys (Session × B)
  keys_of = pairs sessions o

  -- rows that are those of a table within the limits
  pub held_rows : (xs : List A) (m : Table (pairs sessions o) X) (n : ℕ) → each row xs ≡ m.rows → IsWithinSessionLimits o m → n ≡ size (sessions_in o m)
      → (up : AreRows (pairs sessions o) row xs) × IsWithinSessionLimits o (table_of (pairs sessions o) row xs up) × (n ≡ size (sessions_in o (table_of (pairs sessions o) row xs up)))
  held_rows xs m n is within count =
      let up = are_rows keys_of row xs m is in
      let same = sym (table_is keys_of row xs up m is) in
      (up, subst (λ (t : Table (pairs sessions o) X). IsWithinSessionLimits o t) same within, subst (λ (t : Table (pairs sessions o) X). n ≡ size (sessions_in o t)) same count)

module _ {B X : Type 0} (o : Keys B) (m : Table (pairs sessions o) X) (within : IsWithinSessionLimits o m) (s : Session) (b : B) where
  -- ---- in place of one that is there
  pub over_within : (v : X) → is_some (get m (s, b)) ≡ true → IsWithinSessionLimits o (put_in m (s, b) v)
  over_within v there = within_put o m within s b v (room_over o m within s b v there)

  pub over_count : (v : X) → is_some (get m (s, b)) ≡ true → size (sessions_in o (put_in m (s, b) v)) ≡ size (sessions_in o m)
  over_count v there =
      size_sessions o m s b v ∙ ap (λ w. cond w (size (sessions_in o m)) (size (sessions_in o m) + 1))
      (full_if (under sessions o m s).rows (some_rows o b (under sessions o m s).rows (ap is_some (get-under sessions o m s b) ∙ there)))

  -- ---- a new one
  pub new_room : (v : X) (n k : ℕ) → is_some (get m (s, b)) ≡ false → n ≡ size (sessions_in o m) → k ≡ size (under sessions o m s)
      → has_room_at o (put_in m (s, b) v) s ≡ cond (nat_lt 0 k) (nat_lt k 16) (nat_lt n 32)
  new_room v n k new count among = by (is_full (under sessions o m s).rows) refl
    where
      many : is_full (under sessions o m s).rows ≡ nat_lt 0 k
      many = full_many (under sessions o m s).rows ∙ ap (nat_lt 0) (sym among)

      by : (t : Bool) → is_full (under sessions o m s).rows ≡ t → has_room_at o (put_in m (s, b) v) s ≡ cond (nat_lt 0 k) (nat_lt k 16) (nat_lt n 32)
      by true f = room_among o m within s b v new f ∙ one_below (size (under sessions o m s)) 16 ∙ ap (λ z. nat_lt z 16) (sym among) ∙ ap (λ c. cond c (nat_lt k 16) (nat_lt n 32)) (sym f ∙ many)
      by false f = room_first o m within s b v f ∙ one_below (size (sessions_in o m)) 32 ∙ ap (λ z. nat_lt z 32) (sym count) ∙ ap (λ c. cond c (nat_lt k 16) (nat_lt n 32)) (sym f ∙ many)

  pub new_count : (v : X) (n k : ℕ) → n ≡ size (sessions_in o m) → k ≡ size (under sessions o m s) → cond (nat_lt 0 k) n (n + 1) ≡ size (sessions_in o (put_in m (s, b) v))
  new_count v n k count among =
      ap (λ c. cond c n (n + 1)) (ap (nat_lt 0) among ∙ sym (full_many (under sessions o m s).rows)) ∙ ap (λ z. cond (is_full (under sessions o m s).rows) z (z + 1)) count
      ∙ sym (size_sessions o m s b v)

  -- ---- one less
  pub less_within : IsWithinSessionLimits o (without m (s, b))
  less_within = within_fewer o m (without m (s, b)) (λ k h. was k h) within
    where
      was : (k : Session × B) → has (without m (s, b)) k ≡ true → has m k ≡ true
      was k h = by (get (without m (s, b)) k) refl h
        where
          by : (w : Option X) → get (without m (s, b)) k ≡ w → is_some w ≡ true → has m k ≡ true
          by None at e = cc
          by (Some v) at e = ap is_some (got_without (pairs sessions o) m (s, b) k v at)

  pub some_sessions : (v : X) → get m (s, b) ≡ Some v → 1 ≤ size (sessions_in o m)
  some_sessions v at =
      some_rows sessions s (sessions_in o m).rows (has_session o m s ∙ full_if (under sessions o m s).rows (some_rows o b (under sessions o m s).rows (ap is_some (get-under sessions o m s b ∙ at))))

  pub less_count : (v : X) (n k : ℕ) → get m (s, b) ≡ Some v → n ≡ size (sessions_in o m) → k ≡ size (under sessions o (without m (s, b)) s)
      → cond (nat_lt 0 k) n (n - 1) ≡ size (sessions_in o (without m (s, b)))
  less_count v n k at count among = by (is_full (under sessions o (without m (s, b)) s).rows) refl
    where
      left : ℕ
      left = size (sessions_in o (without m (s, b)))

      many : is_full (under sessions o (without m (s, b)) s).rows ≡ nat_lt 0 k
      many = full_many (under sessions o (without m (s, b)) s).rows ∙ ap (nat_lt 0) (sym among)

      by : (t : Bool) → is_full (under sessions o (without m (s, b)) s).rows ≡ t → cond (nat_lt 0 k) n (n - 1) ≡ left
      by true f =
          let all : n ≡ left = count ∙ sessions_without o m s b v at ∙ ap (λ c. cond c left (left + 1)) f in
          ap (λ c. cond c n (n - 1)) (sym many ∙ f) ∙ all
      by false f =
          let all : n ≡ left + 1 = count ∙ sessions_without o m s b v at ∙ ap (λ c. cond c left (left + 1)) f in
          let one : n - 1 ≡ left = omega (arith, all) in
          ap (λ c. cond c n (n - 1)) (sym many ∙ f) ∙ one

-- ---- a session taken out
module _ {B X : Type 0} (o : Keys B) (m : Table (pairs sessions o) X) (s : Session) where
  abbrev pub others : Session × B → Bool
  others k = not (eq_by_cmp sessions.cmp k.0 s)

  abbrev pub left : Table (pairs sessions o) X
  left = kept others m

  turned : (q : Session) → eq_by_cmp sessions.cmp s q ≡ eq_by_cmp sessions.cmp q s
  turned q = by (eq_by_cmp sessions.cmp s q) (eq_by_cmp sessions.cmp q s) refl refl
    where
      by : (a b : Bool) → eq_by_cmp sessions.cmp s q ≡ a → eq_by_cmp sessions.cmp q s ≡ b → a ≡ b
      by true true e f = refl
      by false false e f = refl
      by true false e f = absurd (both_ways (eq_by_cmp sessions.cmp q s) f (ap (eq_by_cmp sessions.cmp q) (tied_same sessions s q e) ∙ tied_self sessions q))
      by false true e f = absurd (both_ways (eq_by_cmp sessions.cmp s q) e (ap (eq_by_cmp sessions.cmp s) (tied_same sessions q s f) ∙ tied_self sessions s))

  pub left_within : IsWithinSessionLimits o m → IsWithinSessionLimits o left
  left_within w = within_fewer o m left (λ k h. was k h) w
    where
      was : (k : Session × B) → has left k ≡ true → has m k ≡ true
      was k h = by (get left k) refl h
        where
          by : (w : Option X) → get left k ≡ w → is_some w ≡ true → has m k ≡ true
          by None at e = cc
          by (Some v) at e = ap is_some (got_kept (pairs sessions o) others m k v at).1

  left_sessions : sessions_in o left ≡ without (sessions_in o m) s
  left_sessions =
      same_set sessions _ _ (λ q. has_session o left q ∙ either (eq_by_cmp sessions.cmp s q)
      (λ t.
      ap is_full (none_left q t) ∙ sym (ap is_some (get-without sessions (sessions_in o m) s q) ∙ ap (λ b. is_some (cond (not b) (get (sessions_in o m) q) None)) t))
      (λ t.
      ap (λ (u : Table o X). is_full u.rows) (same_left q t) ∙ sym (has_session o m q) ∙ sym
      (ap is_some (get-without sessions (sessions_in o m) s q) ∙ ap (λ b. is_some (cond (not b) (get (sessions_in o m) q) None)) t)))
    where
      same_left : (q : Session) → eq_by_cmp sessions.cmp s q ≡ false → under sessions o left q ≡ under sessions o m q
      same_left q t =
          same_table o _ _ (λ b. get-under sessions o left q b ∙ get-kept (pairs sessions o) others m (q, b) ∙ ap (λ c. cond (not c) (get m (q, b)) None) (sym (turned q) ∙ t)
          ∙ sym (get-under sessions o m q b))

      none_left : (q : Session) → eq_by_cmp sessions.cmp s q ≡ true → (under sessions o left q).rows ≡ []
      none_left q t =
          ap (λ (u : Table o X). u.rows) (same_table o (under sessions o left q) empty (λ b. get-under sessions o left q b ∙ get-kept (pairs sessions o) others m (q, b)
          ∙ ap (λ c. cond (not c) (get m (q, b)) None) (sym (turned q) ∙ t)))

  pub left_count : (n k : ℕ) → n ≡ size (sessions_in o m) → k ≡ size (under sessions o m s) → cond (nat_lt 0 k) (n - 1) n ≡ size (sessions_in o left)
  left_count n k count among = by (has (sessions_in o m) s) refl
    where
      many : has (sessions_in o m) s ≡ nat_lt 0 k
      many = has_session o m s ∙ full_many (under sessions o m s).rows ∙ ap (nat_lt 0) (sym among)

      some_tt : (w : Option (Unit {0})) → is_some w ≡ true → w ≡ Some tt
      some_tt None e = cc
      some_tt (Some tt) e = refl

      by : (t : Bool) → has (sessions_in o m) s ≡ t → cond (nat_lt 0 k) (n - 1) n ≡ size (sessions_in o left)
      by true f =
          let one = size-without sessions (sessions_in o m) s tt (some_tt (get (sessions_in o m) s) f) in
          let less : n - 1 ≡ size (sessions_in o left) = omega (arith, one, count, ap size left_sessions) in
          ap (λ c. cond c (n - 1) n) (sym many ∙ f) ∙ less
      by false f =
          ap (λ c. cond c (n - 1) n) (sym many ∙ f) ∙ count ∙ sym (ap size left_sessions ∙ ap size (absent_same sessions (sessions_in o m) s f))

  pub some_left : (n k : ℕ) → n ≡ size (sessions_in o m) → k ≡ size (under sessions o m s) → nat_lt 0 k ≡ true → 1 ≤ n
  some_left n k count among some =
      let there : has (sessions_in o m) s ≡ true = has_session o m s ∙ full_many (under sessions o m s).rows ∙ ap (nat_lt 0) (sym among) ∙ some in
      let many = some_rows sessions s (sessions_in o m).rows there in
      omega (arith, many, count)

-- rows that pass a test of their keys
pub rows_kept : {A K X : Type 0} (o : Keys K) (row : A → K × X) (test : K → Bool) (xs : List A) → each row (filter (λ x. test (row x).0) xs) ≡ where_key o.cmp test (each row xs)
rows_kept o row test [] = refl
rows_kept {A} {K} {X} o row test (x ∷ xs) = by (test (row x).0) (rows_kept o row test xs)
  where
    by : (b : Bool) → each row (filter (λ x. test (row x).0) xs) ≡ where_key o.cmp test (each row xs)
        → each row (cond b (x ∷ filter (λ x. test (row x).0) xs) (filter (λ x. test (row x).0) xs)) ≡ cond b (row x ∷ where_key o.cmp test (each row xs)) (where_key o.cmp test (each row xs))
    by true rest = ap (λ es. row x ∷ es) rest
    by false rest = rest

-- a row put makes at most one more
pub put_few : {K X : Type 0} (o : Keys K) (m : Table o X) (k : K) (v : X) → size (put_in m k v) ≤ size m + 1
put_few o m k v =
    either (has m k)
    (λ t. let n = size-put_in o m k v ∙ ap (λ b. cond b (size m) (size m + 1)) t in omega (arith, n))
    (λ t. let n = size-put_in o m k v ∙ ap (λ b. cond b (size m) (size m + 1)) t in omega (arith, n))
