-- The limits by session: the test at the session that changed tells them, and fewer rows are within them.
use Rattle.std.specs.Prelude.{◌≡◌, ◌≤◌, ◌↔◌, true, false, List, [], ◌∷◌, map as each, is_some, Option, Some, None}
use Rattle.std.proofs.Common.{sym, ap, subst, ◌∙◌, arith, inl, inr}
use Rattle.std.proofs.lemmas.Bool.{leb-true, le-leb}
use Rattle.std.specs.Ordering.{eq_by_cmp}
use Rattle.rsvp_base.specs.declared.session.Session.{Session}
use Rattle.rsvp_base.specs.Keys.{Keys, pairs}
use Rattle.rsvp_base.specs.Members.{In}
use Rattle.rsvp_base.specs.Orders.{sessions}
use Rattle.rsvp_base.specs.SessionLimits.{IsWithinSessionLimits, has_room_at, sessions_in}
use Rattle.rsvp_base.specs.Table.{Table, get, has, keys, put_in, size, with_rows}
use Rattle.rsvp_base.specs.Under.{under}
use Rattle.rsvp_base.proofs.Counts.{found_in, in_found, set_below, size_below}
use Rattle.rsvp_base.proofs.Members.{in_each, to_each}
use Rattle.rsvp_base.proofs.SetLaws.{and_both, and_made}
use Rattle.rsvp_base.proofs.Tables.{either, tied_same}
use Rattle.rsvp_base.proofs.UnderLaws.{get-under, under-put_in_other}

module _ {B X : Type 0} (o : Keys B) where
  -- n differs from m at the session s alone
  pub room_told : (m n : Table (pairs sessions o) X) (s : Session) → IsWithinSessionLimits o m → ((t : Session) → eq_by_cmp sessions.cmp t s ≡ false → under sessions o n t ≡ under sessions o m t)
      → has_room_at o n s ≡ true → IsWithinSessionLimits o n
  room_told m n s w same e =
      let r = and_both _ _ e in
      record {
        all = leb-true (size (sessions_in o n)) 32 r.0;
        one = λ t. either (eq_by_cmp sessions.cmp t s) (λ tie. subst (λ (z : Session). size (under sessions o n z) ≤ 16) (sym (tied_same sessions t s tie))
            (leb-true (size (under sessions o n s)) 16 r.1))
            (λ apart. subst (λ (z : Table o X). size z ≤ 16) (sym (same t apart)) (w.one t));
      }

  pub room_tested : (n : Table (pairs sessions o) X) (s : Session) → IsWithinSessionLimits o n → has_room_at o n s ≡ true
  room_tested n s w = and_made _ _ (le-leb (size (sessions_in o n)) 32 w.all) (le-leb (size (under sessions o n s)) 16 (w.one s))

  -- with one row put
  pub put_room : (m : Table (pairs sessions o) X) (k : Session × B) (x : X) → IsWithinSessionLimits o m → (has_room_at o (put_in m k x) k.0 ≡ true) ↔ IsWithinSessionLimits o (put_in m k x)
  put_room m k x w = (room_told m (put_in m k x) k.0 w (λ t apart. under-put_in_other sessions o m k.0 t k.1 x apart), room_tested (put_in m k x) k.0)

  -- with rows of one session put
  rows_apart : (es : List ((Session × B) × X)) (m : Table (pairs sessions o) X) (s t : Session) → ((e : (Session × B) × X) → In e es → e.0.0 ≡ s) → eq_by_cmp sessions.cmp t s ≡ false
      → under sessions o (with_rows m es) t ≡ under sessions o m t
  rows_apart [] m s t of apart = λ i. under sessions o m t
  rows_apart (e ∷ es) m s t of apart =
      rows_apart es (put_in m e.0 e.1) s t (λ z i. of z (inr i)) apart
      ∙ under-put_in_other sessions o m e.0.0 t e.0.1 e.1 (ap (λ (z : Session). eq_by_cmp sessions.cmp t z) (of e (inl (λ i. e))) ∙ apart)

  pub rows_room : (m : Table (pairs sessions o) X) (es : List ((Session × B) × X)) (s : Session) → ((e : (Session × B) × X) → In e es → e.0.0 ≡ s) → IsWithinSessionLimits o m
      → (has_room_at o (with_rows m es) s ≡ true) ↔ IsWithinSessionLimits o (with_rows m es)
  rows_room m es s of w = (room_told m (with_rows m es) s w (λ t apart. rows_apart es m s t of apart), room_tested (with_rows m es) s)

  -- ---- fewer rows
  pub fewer_within : (m n : Table (pairs sessions o) X) → ((k : Session × B) → has n k ≡ true → has m k ≡ true) → IsWithinSessionLimits o m → IsWithinSessionLimits o n
  fewer_within m n less w =
      record {
        all = let few = set_below sessions (firsts n) (firsts m) (λ s i. first_in s i) in let most = w.all in omega (arith, few, most);
        one = λ s.
            let few = size_below o (under sessions o n s) (under sessions o m s) (λ b h. ap is_some (get-under sessions o m s b) ∙ less (s, b) (sym (ap is_some (get-under sessions o n s b)) ∙ h)) in
            let most = w.one s in omega (arith, few, most);
      }
    where
      firsts : Table (pairs sessions o) X → List Session
      firsts t = each (λ k. k.0) (keys t)

      key_has : (t : Table (pairs sessions o) X) (k : Session × B) → In k (keys t) → has t k ≡ true
      key_has t k i = let r = in_each (λ (e : (Session × B) × X). e.0) k t.rows i in ap is_some
          (in_found (pairs sessions o) t k r.0.1 (subst (λ (z : Session × B). In (z, r.0.1) t.rows) (sym r.2) r.1))

      has_key : (t : Table (pairs sessions o) X) (k : Session × B) → has t k ≡ true → In k (keys t)
      has_key t k h = by (get t k) (λ i. get t k) h
        where
          by : (w : Option X) → get t k ≡ w → is_some w ≡ true → In k (keys t)
          by None g e = absurd (cc)
          by (Some x) g e = to_each (λ (z : (Session × B) × X). z.0) (k, x) t.rows (found_in (pairs sessions o) t k x g)

      first_in : (s : Session) → In s (firsts n) → In s (firsts m)
      first_in s i =
          let r = in_each (λ (k : Session × B). k.0) s (keys n) i in
          subst (λ (z : Session). In z (firsts m)) (sym r.2) (to_each (λ (k : Session × B). k.0) r.0 (keys m) (has_key m r.0 (less r.0 (key_has n r.0 r.1))))
