-- What holds from some round on.
use Rattle.std.proofs.Common.{◌≡◌, ℕ, zero, suc, ◌+◌, ◌*◌, ◌≤◌, List, [], ◌∷◌, length, true, ⊎_elim, arith, zero-add}
use Rattle.rsvp_base.specs.Members.{In}
use Rattle.calm_rounds.specs.Machine.{Machine, run, waits, Fresh, IsClocked, IsStamped}
use Rattle.calm_rounds.specs.Rounds.{AreQuiet, Rounds, run_rounds}
use Rattle.calm_rounds.specs.Hold.{Visited, Hold, Keep}

module _ {W S I K : Type 0} (m : Machine W S I K) where
  pub visited_map : (Q R : W → Type 0) → ((u : W) → Q u → R u) → (ss : List S) (w : W) → Visited m Q ss w → Visited m R ss w
  visited_map Q R f [] w q = f w q
  visited_map Q R f (s ∷ ss) w q = (f w q.0, visited_map Q R f ss (m.step s w) q.1)

  pub visited_both : (Q R : W → Type 0) (ss : List S) (w : W) → Visited m Q ss w → Visited m R ss w → Visited m (λ u. Q u × R u) ss w
  visited_both Q R [] w q r = (q, r)
  visited_both Q R (s ∷ ss) w q r = ((q.0, r.0), visited_both Q R ss (m.step s w) q.1 r.1)

  pub visited_start : (Q : W → Type 0) (ss : List S) (w : W) → Visited m Q ss w → Q w
  visited_start Q [] w q = q
  visited_start Q (s ∷ ss) w q = q.0

  pub visited_end : (Q : W → Type 0) (ss : List S) (w : W) → Visited m Q ss w → Q (run m ss w)
  visited_end Q [] w q = q
  visited_end Q (s ∷ ss) w q = visited_end Q ss (m.step s w) q.1

  -- weakening, and two claims at once
  pub hold_map : (Q R : W → Type 0) → ((u : W) → Q u → R u) → (k : ℕ) (rs : List (List S)) (w : W) → Hold m k rs w Q → Hold m k rs w R
  hold_map Q R f zero [] w h = f w h
  hold_map Q R f zero (r ∷ rs) w h = (visited_map Q R f r w h.0, hold_map Q R f zero rs (run m r w) h.1)
  hold_map Q R f (suc k) [] w h = tt
  hold_map Q R f (suc k) (r ∷ rs) w h = hold_map Q R f k rs (run m r w) h

  pub hold_both : (Q R : W → Type 0) (k : ℕ) (rs : List (List S)) (w : W) → Hold m k rs w Q → Hold m k rs w R → Hold m k rs w (λ u. Q u × R u)
  hold_both Q R zero [] w q r = (q, r)
  hold_both Q R zero (s ∷ rs) w q r = (visited_both Q R s w q.0 r.0, hold_both Q R zero rs (run m s w) q.1 r.1)
  hold_both Q R (suc k) [] w q r = tt
  hold_both Q R (suc k) (s ∷ rs) w q r = hold_both Q R k rs (run m s w) q r

  -- a claim for each value of a type
  pub visited_all : {A : Type 0} (Q : A → W → Type 0) (ss : List S) (w : W) → ((a : A) → Visited m (Q a) ss w) → Visited m (λ u. (a : A) → Q a u) ss w
  visited_all Q [] w h = h
  visited_all {A} Q (s ∷ ss) w h = (λ a. (h a).0, visited_all Q ss (m.step s w) (λ a. (h a).1))

  pub hold_all : {A : Type 0} (Q : A → W → Type 0) (k : ℕ) (rs : List (List S)) (w : W) → ((a : A) → Hold m k rs w (Q a)) → Hold m k rs w (λ u. (a : A) → Q a u)
  hold_all Q zero [] w h = h
  hold_all Q zero (r ∷ rs) w h = (visited_all Q r w (λ a. (h a).0), hold_all Q zero rs (run m r w) (λ a. (h a).1))
  hold_all Q (suc k) [] w h = tt
  hold_all Q (suc k) (r ∷ rs) w h = hold_all Q k rs (run m r w) h

  pub hold_start : (Q : W → Type 0) (rs : List (List S)) (w : W) → Hold m zero rs w Q → Q w
  hold_start Q [] w h = h
  hold_start Q (r ∷ rs) w h = visited_start Q r w h.0

  -- later rounds
  pub hold_later : (Q : W → Type 0) (k n : ℕ) (rs : List (List S)) (w : W) → k ≤ n → Hold m k rs w Q → Hold m n rs w Q
  hold_later Q zero zero rs w le h = h
  hold_later Q zero (suc n) [] w le h = tt
  hold_later Q zero (suc n) (r ∷ rs) w le h = hold_later Q zero n rs (run m r w) (omega arith) h.1
  hold_later Q (suc k) zero rs w le h = absurd (omega arith)
  hold_later Q (suc k) (suc n) [] w le h = tt
  hold_later Q (suc k) (suc n) (r ∷ rs) w le h = hold_later Q k n rs (run m r w) (omega arith) h

  -- one claim after another
  pub hold_stack : (A B : W → Type 0) (n : ℕ) → ((rs : List (List S)) (w : W) → Rounds m rs w → Hold m zero rs w A → Hold m n rs w B)
      → (k : ℕ) (rs : List (List S)) (w : W) → Rounds m rs w → Hold m k rs w A → Hold m (k + n) rs w B
  hold_stack A B n f zero rs w calm h = rw zero-add (f rs w calm h)
  hold_stack A B n f (suc k) [] w calm h = let e : suc k + n ≡ suc (k + n) = omega arith in rw e tt
  hold_stack A B n f (suc k) (r ∷ rs) w calm h = let e : suc k + n ≡ suc (k + n) = omega arith in rw e (hold_stack A B n f k rs (run m r w) calm.1 h)

  -- what steps keep
  pub visited_keep : (A J : W → Type 0) → Keep m A J
      → (ss : List S) (w : W) → AreQuiet m ss → Visited m A ss w → J w → Visited m J ss w
  visited_keep A J f [] w e a j = j
  visited_keep A J f (s ∷ ss) w e a j = (j, visited_keep A J f ss (m.step s w) e.1 a.1 (f s w e.0 a.0 (visited_start A ss (m.step s w) a.1) j))

  pub hold_keep : (A J : W → Type 0) → Keep m A J
      → (rs : List (List S)) (w : W) → Rounds m rs w → Hold m zero rs w A → J w → Hold m zero rs w J
  hold_keep A J f [] w calm a j = j
  hold_keep A J f (r ∷ rs) w calm a j =
      let v = visited_keep A J f r w calm.0.silent a.0 j in
      (v, hold_keep A J f rs (run m r w) calm.1 a.1 (visited_end J r w v))

  visited_any : (ss : List S) (w : W) → Visited m (λ _. Unit {0}) ss w
  visited_any [] w = tt
  visited_any (s ∷ ss) w = (tt, visited_any ss (m.step s w))

  pub hold_any : (rs : List (List S)) (w : W) → Hold m zero rs w (λ _. Unit {0})
  hold_any [] w = tt
  hold_any (r ∷ rs) w = (visited_any r w, hold_any rs (run m r w))

  pub hold_always : (J : W → Type 0) → ((s : S) (u : W) → m.quiet s ≡ true → J u → J (m.step s u))
      → (rs : List (List S)) (w : W) → Rounds m rs w → J w → Hold m zero rs w J
  hold_always J f rs w calm j = hold_keep (λ _. Unit {0}) J (λ s u q _ _. f s u q) rs w calm (hold_any rs w) j

  -- the last world
  pub hold_end : (Q : W → Type 0) (k : ℕ) (rs : List (List S)) (w : W) → k ≤ length rs → Hold m k rs w Q → Q (run_rounds m rs w)
  hold_end Q zero [] w le h = h
  hold_end Q zero (r ∷ rs) w le h = hold_end Q zero rs (run m r w) (omega arith) h.1
  hold_end Q (suc k) [] w le h = absurd (omega arith)
  hold_end Q (suc k) (r ∷ rs) w le h = hold_end Q k rs (run m r w) (omega arith) h

  -- time
  pub clock_run : IsClocked m → (ss : List S) (w : W) → AreQuiet m ss → m.clock (run m ss w) ≡ m.clock w + waits m ss
  clock_run c [] w e = omega arith
  clock_run c (s ∷ ss) w e = omega (arith, clock_run c ss (m.step s w) e.1, c.clock s w e.0)

  hold_clock_from : IsClocked m → (b k : ℕ) (rs : List (List S)) (w : W) → Rounds m rs w → b ≤ m.clock w → Hold m k rs w (λ u. b + 6 * m.quarter * k ≤ m.clock u)
  hold_clock_from c b zero rs w calm le =
      hold_always (λ u. b + 6 * m.quarter * zero ≤ m.clock u) (λ s u q h. omega (arith, c.clock s u q)) rs w calm (omega arith)
  hold_clock_from c b (suc k) [] w calm le = tt
  hold_clock_from c b (suc k) (r ∷ rs) w calm le =
      hold_map (λ u. (b + 6 * m.quarter) + 6 * m.quarter * k ≤ m.clock u) (λ u. b + 6 * m.quarter * suc k ≤ m.clock u) (λ u h. omega arith) k rs (run m r w)
      (hold_clock_from c (b + 6 * m.quarter) k rs (run m r w) calm.1 (omega (arith, clock_run c r w calm.0.silent, calm.0.long)))

  pub hold_clock : IsClocked m → (k : ℕ) (rs : List (List S)) (w : W) → Rounds m rs w → Hold m k rs w (λ u. m.clock w + 6 * m.quarter * k ≤ m.clock u)
  hold_clock c k rs w calm = hold_clock_from c (m.clock w) k rs w calm (omega arith)

  -- nothing old in flight
  pub made_run : IsStamped m → (ss : List S) (w : W) → m.made w ≤ m.made (run m ss w)
  made_run c [] w = omega arith
  made_run c (s ∷ ss) w = omega (arith, made_run c ss (m.step s w), c.made s w)

  pub fresh_step : IsStamped m → (n : ℕ) (s : S) (u : W) → m.quiet s ≡ true → (n ≤ m.made u) × Fresh m n u → (n ≤ m.made (m.step s u)) × Fresh m n (m.step s u)
  fresh_step c n s u q h = (
    omega (arith, c.made s u),
    λ x i. ⊎_elim (λ (old : In x (m.flight u)). h.1 x old) (λ (le : m.made u ≤ m.born x). omega (arith, h.0)) (c.appended s u x q i),
  )

  pub hold_flush : IsStamped m → (rs : List (List S)) (w : W) → Rounds m rs w → Hold m 1 rs w (Fresh m (m.made w))
  hold_flush c [] w calm = tt
  hold_flush c (r ∷ rs) w calm =
      hold_map (λ u. (m.made w ≤ m.made u) × Fresh m (m.made w) u) (Fresh m (m.made w)) (λ u h. h.1) zero rs (run m r w)
      (hold_always (λ u. (m.made w ≤ m.made u) × Fresh m (m.made w) u) (λ s u q h. fresh_step c (m.made w) s u q h) rs (run m r w) calm.1
      (made_run c r w, calm.0.flushed))
