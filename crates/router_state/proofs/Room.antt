-- There is room for a countdown of each session that can have one.
use Rattle.std.specs.Prelude.{◌≡◌, ℕ, ◌+◌, ◌<◌, ◌≤◌, true, false, is_some, cond, List, ◌++◌, map as each, ◌⊎◌, nat_le, ◌&&◌}
use Rattle.std.proofs.Common.{sym, ap, inl, inr, ◌∙◌, arith}
use Rattle.std.proofs.lemmas.List.{length-append, length-map}
use Rattle.rsvp_base.specs.Keys.{Keys, pairs}
use Rattle.rsvp_base.specs.Members.{In}
use Rattle.rsvp_base.specs.Orders.{sessions, senders}
use Rattle.rsvp_base.specs.SessionLimits.{IsWithinSessionLimits, sessions_in, has_room_at}
use Rattle.rsvp_base.specs.Sets.{set_of}
use Rattle.rsvp_base.specs.Table.{Table, get, has, keys, put_in, size}
use Rattle.rsvp_base.specs.declared.session.Session.{Session}
use Rattle.rsvp_base.proofs.Counts.{found_in, in_set_of, set_of_in, size-set_of, size_below, in_found}
use Rattle.rsvp_base.proofs.Members.{in_append, in_left, in_right, to_each, in_each}
use Rattle.rsvp_base.proofs.Tables.{either, get-put_in_other, size-put_in, tied_same}
use Rattle.std.specs.Ordering.{eq_by_cmp}
use Rattle.rsvp_base.specs.Under.{under}
use Rattle.rsvp_base.proofs.UnderLaws.{get-under}
use Rattle.router_state.proofs.Routed.{same_test}
use Rattle.laws_bounds.proofs.Lists.{some_is}
use Rattle.laws_bounds.specs.RouterRules.Facts.{Facts}
use Rattle.laws_bounds.specs.RouterRules.Forgetting.{counted}

module _ {K : Type 0} (o : Keys K) where
  pub in_keys : {X : Type 0} (m : Table o X) (k : K) → has m k ≡ true → In k (keys m)
  in_keys m k h = let v = some_is (get m k) h in to_each (λ e. e.0) (k, v.0) m.rows (found_in o m k v.0 v.1)

  pub size_append : (xs ys : List K) → size (set_of {o = o} (xs ++ ys)) ≤ size (set_of {o = o} xs) + size (set_of {o = o} ys)
  size_append xs ys =
      let a = set_of {o = o} xs in
      let b = set_of {o = o} ys in
      let zs = keys a ++ keys b in
      let below = size_below o (set_of {o = o} (xs ++ ys)) (set_of {o = o} zs) (λ k h. in_set_of o zs k (by k (in_append k xs ys (set_of_in o (xs ++ ys) k h)))) in
      let few = size-set_of o zs in
      let l = length-append (keys a) (keys b) in
      let la = length-map a.rows (λ e. e.0) in
      let lb = length-map b.rows (λ e. e.0) in
      omega (arith, below, few, l, la, lb)
    where
      by : (k : K) → (In k xs ⊎ In k ys) → In k (keys (set_of {o = o} xs) ++ keys (set_of {o = o} ys))
      by k (inl x) = in_left k _ _ (in_keys (set_of {o = o} xs) k (in_set_of o xs k x))
      by k (inr y) = in_right k (keys (set_of {o = o} xs)) _ (in_keys (set_of {o = o} ys) k (in_set_of o ys k y))

pub counted_few : (f : Facts) → IsWithinSessionLimits senders f.senders → IsWithinSessionLimits senders f.paths → size (counted f) ≤ 64
counted_few f a b = let s = size_append sessions (each (λ k. k.0) (keys f.senders)) (each (λ k. k.0) (keys f.paths)) in omega (arith, s, a.all, b.all)

-- a session that is counted, and has no countdown yet, has room for one
pub due_room : (f : Facts) (due : Table sessions ℕ) (s : Session) → ((q : Session) → has due q ≡ true → has (counted f) q ≡ true) → has (counted f) s ≡ true → has due s ≡ false
    → IsWithinSessionLimits senders f.senders → IsWithinSessionLimits senders f.paths → size due < 64
due_room f due s among here new a b =
    let more : size (put_in due s 0) ≡ size due + 1 = size-put_in sessions due s 0 ∙ ap (λ t. cond t (size due) (size due + 1)) new in
    let below : size (put_in due s 0) ≤ size (counted f) = size_below sessions (put_in due s 0) (counted f) in_it in
    let few = counted_few f a b in
    omega (arith, more, below, few)
  where
    in_it : (q : Session) → has (put_in due s 0) q ≡ true → has (counted f) q ≡ true
    in_it q h =
        either (eq_by_cmp sessions.cmp q s)
        (λ t. ap (λ z. has (counted f) z) (tied_same sessions q s t) ∙ here)
        (λ t. among q (sym (ap is_some (get-put_in_other sessions due s 0 q t)) ∙ h))

-- ---- tables with the same keys
pub size_same : {K X Y : Type 0} (o : Keys K) (s : Table o X) (t : Table o Y) → ((k : K) → has s k ≡ has t k) → size s ≡ size t
size_same o s t e =
    let a : size s ≤ size t = size_below o s t (λ k h. sym (e k) ∙ h) in
    let b : size t ≤ size s = size_below o t s (λ k h. e k ∙ h) in
    omega (arith, a, b)

module _ {B X Y : Type 0} (o : Keys B) where
  same_sessions : (m : Table (pairs sessions o) X) (n : Table (pairs sessions o) Y) → ((k : Session × B) → has m k ≡ true → has n k ≡ true) → (q : Session) → has (sessions_in o m) q ≡ true
      → has (sessions_in o n) q ≡ true
  same_sessions m n e q h =
      let a = in_each (λ (k : Session × B). k.0) q (keys m) (set_of_in sessions (each (λ (k : Session × B). k.0) (keys m)) q h) in
      let b = in_each (λ (r : (Session × B) × X). r.0) a.0 m.rows a.1 in
      let there : has m b.0.0 ≡ true = ap is_some (in_found (pairs sessions o) m b.0.0 b.0.1 b.1) in
      let k = in_keys (pairs sessions o) n b.0.0 (e b.0.0 there) in
      let c : In (b.0.0.0) (each (λ (k : Session × B). k.0) (keys n)) = to_each (λ (k : Session × B). k.0) b.0.0 (keys n) k in
      let at : q ≡ b.0.0.0 = a.2 ∙ ap (λ (k : Session × B). k.0) b.2 in
      ap (λ z. has (sessions_in o n) z) at ∙ in_set_of sessions (each (λ (k : Session × B). k.0) (keys n)) b.0.0.0 c

  alike : (m : Table (pairs sessions o) X) (n : Table (pairs sessions o) Y) → ((k : Session × B) → has m k ≡ has n k)
      → (size (sessions_in o m) ≡ size (sessions_in o n)) × ((s : Session) → size (under sessions o m s) ≡ size (under sessions o n s))
  alike m n e = (
    size_same sessions (sessions_in o m) (sessions_in o n) (λ q. same_test _ _ (same_sessions m n (λ k h. sym (e k) ∙ h) q) (back q)),
    λ s. size_same o (under sessions o m s) (under sessions o n s) (λ b. ap is_some (get-under sessions o m s b) ∙ e (s, b) ∙ sym (ap is_some (get-under sessions o n s b))),
  )
    where
      back : (q : Session) → has (sessions_in o n) q ≡ true → has (sessions_in o m) q ≡ true
      back q h =
          let a = in_each (λ (k : Session × B). k.0) q (keys n) (set_of_in sessions (each (λ (k : Session × B). k.0) (keys n)) q h) in
          let b = in_each (λ (r : (Session × B) × Y). r.0) a.0 n.rows a.1 in
          let there : has n b.0.0 ≡ true = ap is_some (in_found (pairs sessions o) n b.0.0 b.0.1 b.1) in
          let k = in_keys (pairs sessions o) m b.0.0 (e b.0.0 ∙ there) in
          let c : In (b.0.0.0) (each (λ (k : Session × B). k.0) (keys m)) = to_each (λ (k : Session × B). k.0) b.0.0 (keys m) k in
          let at : q ≡ b.0.0.0 = a.2 ∙ ap (λ (k : Session × B). k.0) b.2 in
          ap (λ z. has (sessions_in o m) z) at ∙ in_set_of sessions (each (λ (k : Session × B). k.0) (keys m)) b.0.0.0 c

  pub room_same : (m : Table (pairs sessions o) X) (n : Table (pairs sessions o) Y) → ((k : Session × B) → has m k ≡ has n k) → (s : Session) → has_room_at o m s ≡ has_room_at o n s
  room_same m n e s = let a = alike m n e in (λ i. nat_le (a.0 i) 32 && nat_le (a.1 s i) 16)

  pub within_same : (m : Table (pairs sessions o) X) (n : Table (pairs sessions o) Y) → ((k : Session × B) → has m k ≡ has n k) → IsWithinSessionLimits o m → IsWithinSessionLimits o n
  within_same m n e w = let a = alike m n e in record { all = omega (arith, a.0, w.all); one = λ s. omega (arith, a.1 s, w.one s) }
