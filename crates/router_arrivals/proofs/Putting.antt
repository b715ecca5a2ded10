-- Rows of one session that are put one after another: which keys there are then, and what room there is.
use Rattle.std.specs.Prelude.{◌≡◌, ℕ, zero, suc, ◌+◌, ◌≤◌, ◌<◌, nat_le, ◌&&◌, Bool, true, false, cond, is_some, List, [], ◌∷◌, ◌++◌, map as each, length, slice_index_or, take, Some, refl}
use Rattle.std.proofs.Common.{sym, ap, ◌∙◌, arith}
use Rattle.std.proofs.lemmas.Bool.{both_ways}
use Rattle.std.specs.Ordering.{eq_by_cmp}
use Rattle.rsvp_base.specs.Keys.{Keys, pairs}
use Rattle.rsvp_base.specs.Orders.{sessions}
use Rattle.rsvp_base.specs.SessionLimits.{IsWithinSessionLimits, has_room_at, sessions_in}
use Rattle.rsvp_base.specs.Table.{Table, get, has, put_in, size, with_rows}
use Rattle.rsvp_base.specs.Under.{under}
use Rattle.rsvp_base.specs.declared.session.Session.{Session}
use Rattle.rsvp_base.proofs.Counts.{size_below}
use Rattle.rsvp_base.proofs.Members.{in_each}
use Rattle.rsvp_base.proofs.SessionCounts.{at_most, full_if, is_at_most, room_among, room_over, size_under, some_rows}
use Rattle.rsvp_base.proofs.SessionRoom.{fewer_within, room_tested, rows_room}
use Rattle.rsvp_base.proofs.Tables.{either, get-put_in, get-put_in_other, tied_same, tied_self}
use Rattle.rsvp_base.proofs.UnderLaws.{get-under}
use Rattle.laws_sends.proofs.Via.{take_one}

-- ---- one session is not the other, either way round, nor a key of the one a key of the other
pub turned : (s t : Session) → eq_by_cmp sessions.cmp s t ≡ false → eq_by_cmp sessions.cmp t s ≡ false
turned s t off =
    either (eq_by_cmp sessions.cmp t s)
    (λ on. absurd (both_ways _ off (ap (eq_by_cmp sessions.cmp s) (tied_same sessions t s on) ∙ tied_self sessions s)))
    (λ e. e)

pub keys_apart : {B : Type 0} (o : Keys B) (q k : Session × B) → eq_by_cmp sessions.cmp k.0 q.0 ≡ false → eq_by_cmp (pairs sessions o).cmp q k ≡ false
keys_apart {B} o q k off =
    either (eq_by_cmp (pairs sessions o).cmp q k)
    (λ on. absurd (both_ways _ off (ap (λ (z : Session × B). eq_by_cmp sessions.cmp k.0 z.0) (tied_same (pairs sessions o) q k on) ∙ tied_self sessions k.0)))
    (λ e. e)

-- ---- a call that is not refused had room
pub had_room : (room : Bool) → (room ≡ false → false ≡ true) → room ≡ true
had_room true full = refl
had_room false full = full refl

module _ {A B X : Type 0} (o : Keys B) (s : Session) (g : A → B) (h : A → X) where
  abbrev row : A → (Session × B) × X
  row x = ((s, g x), h x)

  abbrev pub put_all : Table (pairs sessions o) X → List A → Table (pairs sessions o) X
  put_all m xs = with_rows m (each row xs)

  -- ---- one after another
  put_more : (xs : List A) (x : A) (m : Table (pairs sessions o) X) → put_in (put_all m xs) (s, g x) (h x) ≡ put_all m (xs ++ x ∷ [])
  put_more [] x m = refl
  put_more (y ∷ xs) x m = put_more xs x (put_in m (s, g y) (h y))

  pub one_put : (xs : List A) (i : ℕ) (d : A) (m now : Table (pairs sessions o) X) → now ≡ put_all m (take i xs) → i < length xs
      → put_in now (s, g (slice_index_or xs i d)) (h (slice_index_or xs i d)) ≡ put_all m (take (i + 1) xs)
  one_put xs i d m now is lt =
      ap (λ (t : Table (pairs sessions o) X). put_in t (s, g (slice_index_or xs i d)) (h (slice_index_or xs i d))) is ∙ put_more (take i xs) (slice_index_or xs i d) m
      ∙ ap (put_all m) (sym (take_one xs i d lt))

  -- ---- which keys there are
  put_has : (m : Table (pairs sessions o) X) (k q : Session × B) (v : X) → has m q ≡ true → has (put_in m k v) q ≡ true
  put_has m k q v there = ap is_some (get-put_in (pairs sessions o) m k v q) ∙ by (eq_by_cmp (pairs sessions o).cmp q k)
    where
      by : (b : Bool) → is_some (cond b (Some v) (get m q)) ≡ true
      by true = refl
      by false = there

  stays : (xs : List A) (m : Table (pairs sessions o) X) (q : Session × B) → has m q ≡ true → has (put_all m xs) q ≡ true
  stays [] m q there = there
  stays (x ∷ xs) m q there = stays xs (put_in m (s, g x) (h x)) q (put_has m (s, g x) q (h x) there)

  first_stays : (xs : List A) (i : ℕ) (m : Table (pairs sessions o) X) (q : Session × B) → has (put_all m (take i xs)) q ≡ true → has (put_all m xs) q ≡ true
  first_stays xs zero m q there = stays xs m q there
  first_stays [] (suc i) m q there = there
  first_stays (x ∷ xs) (suc i) m q there = first_stays xs i (put_in m (s, g x) (h x)) q there

  -- of other sessions nothing changes
  pub away : (xs : List A) (m : Table (pairs sessions o) X) (q : Session × B) → eq_by_cmp sessions.cmp s q.0 ≡ false → get m q ≡ get (put_all m xs) q
  away [] m q off = refl
  away (x ∷ xs) m q off = sym (get-put_in_other (pairs sessions o) m (s, g x) (h x) q (keys_apart o q (s, g x) off)) ∙ away xs (put_in m (s, g x) (h x)) q off

  -- ---- what room there is
  pub over_many : (m : Table (pairs sessions o) X) → nat_le (size (under sessions o m s)) 16 ≡ false → has_room_at o m s ≡ false
  over_many m over = by (nat_le (size (sessions_in o m)) 32) (nat_le (size (under sessions o m s)) 16) over
    where
      by : (a b : Bool) → b ≡ false → (a && b) ≡ false
      by true b e = e
      by false b e = refl

  all_within : (xs : List A) (m : Table (pairs sessions o) X) → IsWithinSessionLimits o m → has_room_at o (put_all m xs) s ≡ true → IsWithinSessionLimits o (put_all m xs)
  all_within xs m w room = (rows_room o m (each row xs) s (λ e i. ap (λ (z : (Session × B) × X). z.0.0) (in_each row e xs i).2) w).0 room

  module _ (xs : List A) (i : ℕ) (d : A) (m now : Table (pairs sessions o) X) (is : now ≡ put_all m (take i xs)) (lt : i < length xs) (within : IsWithinSessionLimits o m) where
    abbrev x : A
    x = slice_index_or xs i d

    abbrev next : Table (pairs sessions o) X
    next = put_in now (s, g x) (h x)

    more : (q : Session × B) → has next q ≡ true → has (put_all m xs) q ≡ true
    more q there = first_stays xs (i + 1) m q (ap (λ (t : Table (pairs sessions o) X). has t q) (sym (one_put xs i d m now is lt)) ∙ there)

    -- where one has no room, all have none
    pub no_room : has_room_at o next s ≡ false → has_room_at o (put_all m xs) s ≡ false
    no_room out =
        either (has_room_at o (put_all m xs) s)
        (λ room. absurd (both_ways _ out (room_tested o next s (fewer_within o (put_all m xs) next more (all_within xs m within room)))))
        (λ e. e)

    -- where they are few, only the first can have none
    pub only_first : IsWithinSessionLimits o now → nat_le (size (under sessions o (put_all m xs) s)) 16 ≡ true → has_room_at o next s ≡ false → now ≡ m
    only_first still few out = by xs i is
      where
        least : size (under sessions o next s) ≤ 16
        least =
            let below = size_below o (under sessions o next s) (under sessions o (put_all m xs) s)
            (λ b there. ap is_some (get-under sessions o (put_all m xs) s b) ∙ more (s, b) (ap is_some (sym (get-under sessions o next s b)) ∙ there)) in
            omega (arith, below, is_at_most _ 16 few)

        none : (y : A) → has now (s, g y) ≡ true → ⊥
        none y there =
            either (is_some (get now (s, g x)))
            (λ t. both_ways _ out (room_over o now still s (g x) (h x) t))
            (λ f.
            let some = full_if (under sessions o now s).rows (some_rows o (g y) (under sessions o now s).rows (ap is_some (get-under sessions o now s (g y)) ∙ there)) in
            let one = size_under o now s (g x) (h x) ∙ ap (λ w. cond w (size (under sessions o now s)) (size (under sessions o now s) + 1)) f in
            both_ways _ out (room_among o now still s (g x) (h x) f some ∙ at_most _ 16 (omega (arith, one, least))))

        by : (ys : List A) (n : ℕ) → now ≡ put_all m (take n ys) → now ≡ m
        by ys zero e = e
        by [] (suc n) e = e
        by (y ∷ ys) (suc n) e =
            let first : has (put_in m (s, g y) (h y)) (s, g y) ≡ true = ap is_some (get-put_in (pairs sessions o) m (s, g y) (h y) (s, g y)
            ∙ ap (λ b. cond b (Some (h y)) (get m (s, g y))) (tied_self (pairs sessions o) (s, g y))) in
            absurd (none y (ap (λ (t : Table (pairs sessions o) X). has t (s, g y)) e ∙ stays (take n ys) (put_in m (s, g y) (h y)) (s, g y) first))
