-- One hop settles in windows.
use Rattle.std.proofs.Common.{◌≡◌, ℕ, zero, suc, ◌+◌, ◌*◌, ◌≤◌, List, [], ◌∷◌, ◌++◌, true, Option, Some, ◌⊎◌, inr, ⊎_elim, arith, zero-add}
use Rattle.calm_rounds.specs.Machine.{Machine, run, Fresh, IsClocked, IsStamped}
use Rattle.calm_rounds.specs.Rounds.{AreQuiet}
use Rattle.calm_rounds.specs.Hold.{Visited, Hold, Keep}
use Rattle.calm_rounds.specs.SoftStates.{SoftState, KeepLaws, DueLaws, IsClosed, SaysOnly, KeepsOnly, Stands, Good, Moves}
use Rattle.calm_rounds.proofs.Holding.{visited_keep, hold_map, hold_both, hold_later, hold_start, clock_run, made_run, fresh_step}
use Rattle.calm_rounds.proofs.Settling.{old_step}
use Rattle.calm_rounds.specs.Loss.{OneOfAny, IsRefreshed}
use Rattle.calm_rounds.specs.Pace.{PaceLaws}
use Rattle.calm_rounds.specs.Windows.{Windows, joined}
use Rattle.calm_rounds.proofs.Renewed.{visited_any, visited_front, is_kept}

module _ {W S I K : Type 0} (m : Machine W S I K) where
  -- ---- windows, and their steps one after another
  visited_back : (Q : W → Type 0) (fs bs : List S) (w : W) → Visited m Q (fs ++ bs) w → Visited m Q bs (run m fs w)
  visited_back Q [] bs w v = v
  visited_back Q (f ∷ fs) bs w v = visited_back Q fs bs (m.step f w) v.1

  visited_append : (Q : W → Type 0) (fs bs : List S) (w : W) → Visited m Q fs w → Visited m Q bs (run m fs w) → Visited m Q (fs ++ bs) w
  visited_append Q [] bs w v b = b
  visited_append Q (f ∷ fs) bs w v b = (v.0, visited_append Q fs bs (m.step f w) v.1 b)

  pub quiet_append : (fs bs : List S) → AreQuiet m fs → AreQuiet m bs → AreQuiet m (fs ++ bs)
  quiet_append [] bs q b = b
  quiet_append (f ∷ fs) bs q b = (q.0, quiet_append fs bs q.1 b)

  hold_joined : (Q : W → Type 0) (rs : List (List S)) (w : W) → Visited m Q (joined rs) w → Hold m 0 rs w Q
  hold_joined Q [] w v = v
  hold_joined Q (r ∷ rs) w v = (visited_front m Q r (joined rs) w v, hold_joined Q rs (run m r w) (visited_back Q r (joined rs) w v))

  joined_hold : (Q : W → Type 0) (rs : List (List S)) (w : W) → Hold m 0 rs w Q → Visited m Q (joined rs) w
  joined_hold Q [] w h = h
  joined_hold Q (r ∷ rs) w h = visited_append Q r (joined rs) w h.0 (joined_hold Q rs (run m r w) h.1)

  quiet_windows : (rs : List (List S)) (w : W) → Windows m rs w → AreQuiet m (joined rs)
  quiet_windows [] w ws = tt
  quiet_windows (r ∷ rs) w ws = quiet_append r (joined rs) ws.0.silent (quiet_windows rs (run m r w) ws.1)

  pub any_back : (due : W → Option ℕ) (track : Option K) (wait few : ℕ) (fs bs : List S) (w : W) → OneOfAny m due track wait few (fs ++ bs) w → OneOfAny m due track wait few bs (run m fs w)
  any_back due track wait few [] bs w h = h
  any_back due track wait few (f ∷ fs) bs w h = any_back due track wait few fs bs (m.step f w) h.1

  -- ---- what steps keep
  pub windows_keep : (A J : W → Type 0) → Keep m A J → (rs : List (List S)) (w : W) → Windows m rs w → Hold m 0 rs w A → J w → Hold m 0 rs w J
  windows_keep A J f rs w ws a j = hold_joined J rs w (visited_keep m A J f (joined rs) w (quiet_windows rs w ws) (joined_hold A rs w a) j)

  pub windows_always : (J : W → Type 0) → ((s : S) (u : W) → m.quiet s ≡ true → J u → J (m.step s u)) → (rs : List (List S)) (w : W) → Windows m rs w → J w → Hold m 0 rs w J
  windows_always J f rs w ws j = windows_keep (λ _. Unit {0}) J (λ s u q _ _. f s u q) rs w ws (hold_joined (λ _. Unit {0}) rs w (visited_any m (joined rs) w)) j

  -- a moment that is reached lies behind
  windows_clock : IsClocked m → (b : ℕ) (rs : List (List S)) (w : W) → Windows m rs w → b ≤ m.clock w → Hold m 0 rs w (λ u. b ≤ m.clock u)
  windows_clock c b rs w ws le = windows_always (λ u. b ≤ m.clock u) (λ s u q h. omega (arith, h, c.clock s u q)) rs w ws le

  -- each window takes 5.25 periods
  pub windows_pass : IsClocked m → (rs : List (List S)) (w : W) → Windows m rs w → Hold m 1 rs w (λ u. m.clock w + 21 * m.quarter ≤ m.clock u)
  windows_pass c [] w ws = tt
  windows_pass c (r ∷ rs) w ws = windows_clock c (m.clock w + 21 * m.quarter) rs (run m r w) ws.1 (omega (arith, clock_run m c r w ws.0.silent, ws.0.long))

  pub windows_flush : IsStamped m → (rs : List (List S)) (w : W) → Windows m rs w → Hold m 1 rs w (Fresh m (m.made w))
  windows_flush c [] w ws = tt
  windows_flush c (r ∷ rs) w ws =
      hold_map m (λ u. (m.made w ≤ m.made u) × Fresh m (m.made w) u) (Fresh m (m.made w)) (λ u h. h.1) 0 rs (run m r w)
      (windows_always (λ u. (m.made w ≤ m.made u) × Fresh m (m.made w) u) (λ s u q h. fresh_step m c (m.made w) s u q h) rs (run m r w) ws.1
      (made_run m c r w, ws.0.flushed))

  -- one claim after another, under a premise on the windows that holds of the later ones too
  pub windows_stack : (P : List (List S) → W → Type 0) → ((r : List S) (rs : List (List S)) (w : W) → P (r ∷ rs) w → P rs (run m r w)) → (A B : W → Type 0) (n : ℕ)
      → ((rs : List (List S)) (w : W) → Windows m rs w → P rs w → Hold m 0 rs w A → Hold m n rs w B)
      → (k : ℕ) (rs : List (List S)) (w : W) → Windows m rs w → P rs w → Hold m k rs w A → Hold m (k + n) rs w B
  windows_stack P tail A B n f zero rs w ws p h = rw zero-add (f rs w ws p h)
  windows_stack P tail A B n f (suc k) [] w ws p h = let e : suc k + n ≡ suc (k + n) = omega arith in rw e tt
  windows_stack P tail A B n f (suc k) (r ∷ rs) w ws p h = let e : suc k + n ≡ suc (k + n) = omega arith in rw e (windows_stack P tail A B n f k rs (run m r w) ws.1 (tail r rs w p) h)

module _ {W S I K V : Type 0} (m : Machine W S I K) (c : IsClocked m) (stamps : IsStamped m) (l : SoftState W S I K V) where
  -- what is not renewed dies in one window
  pub dies_in_one : KeepLaws m l → (P : V → Type 0) → IsClosed l.below P → (rs : List (List S)) (w : W) → Windows m rs w
      → Hold m 0 rs w l.sane → Hold m 0 rs w (SaysOnly m l P 0) → Hold m 1 rs w (KeepsOnly m l P)
  dies_in_one laws P closed [] w ws sane says = tt
  dies_in_one laws P closed (r ∷ rs) w ws sane says =
      let b : ℕ = m.clock w + 21 * m.quarter in
      let Old : W → Type 0 = λ u. (v : V) (d : ℕ) → l.kept u ≡ Some (v, d) → P v ⊎ (d ≤ b) in
      let old : Hold m 0 (r ∷ rs) w Old = windows_keep m (λ u. l.sane u × SaysOnly m l P 0 u) Old (λ s u q a a' j. old_step m c stamps l laws P closed b s u q a a' j) (r ∷ rs) w ws
      (hold_both m l.sane (SaysOnly m l P 0) 0 (r ∷ rs) w sane says)
      (λ v d e. inr (laws.room w v d (hold_start m l.sane (r ∷ rs) w sane) e).1) in
      hold_map m (λ u. (Old u × l.sane u) × (b ≤ m.clock u)) (KeepsOnly m l P)
      (λ u h v d e. ⊎_elim (λ (p : P v). p) (λ (le : d ≤ b). absurd (omega (arith, le, h.1, laws.room u v d h.0.1 e))) (h.0.0 v d e))
      0 rs (run m r w)
      (hold_both m (λ u. Old u × l.sane u) (λ u. b ≤ m.clock u) 0 rs (run m r w) (hold_both m Old l.sane 0 rs (run m r w) old.1 sane.1) (windows_pass m c (r ∷ rs) w ws))

  -- what was in flight is gone after one window, and what it set after another
  pub settles_in_two : KeepLaws m l → (P : V → Type 0) → IsClosed l.below P → (rs : List (List S)) (w : W) → Windows m rs w
      → Hold m 0 rs w l.sane → Hold m 0 rs w (SaysOnly m l P (m.made w)) → Hold m 2 rs w (λ u. KeepsOnly m l P u × SaysOnly m l P 0 u)
  settles_in_two laws P closed [] w ws sane says = tt
  settles_in_two laws P closed (r ∷ rs) w ws sane says =
      let all : Hold m 0 rs (run m r w) (SaysOnly m l P 0) =
      hold_map m (λ u. SaysOnly m l P (m.made w) u × Fresh m (m.made w) u) (SaysOnly m l P 0) (λ u h x v i le. h.0 x v i (h.1 x i)) 0 rs (run m r w)
      (hold_both m (SaysOnly m l P (m.made w)) (Fresh m (m.made w)) 0 rs (run m r w) says.1 (windows_flush m stamps (r ∷ rs) w ws)) in
      hold_both m (KeepsOnly m l P) (SaysOnly m l P 0) 1 rs (run m r w) (dies_in_one laws P closed rs (run m r w) ws.1 sane.1 all)
      (hold_later m (SaysOnly m l P 0) 0 1 rs (run m r w) (omega arith) all)

  -- what is refreshed is kept after two
  pub kept_in_two : DueLaws m l → PaceLaws m l → (v : V) (rs : List (List S)) (w : W) → Windows m rs w → IsRefreshed m l.due l.track (joined rs) w
      → Moves m l v (m.made w) → Hold m 0 rs w (Good m l v (m.made w)) → Hold m 2 rs w (Stands m l v)
  kept_in_two laws paced v [] w ws any moves good = tt
  kept_in_two laws paced v (r ∷ []) w ws any moves good = tt
  kept_in_two laws paced v (r ∷ r2 ∷ rs) w ws any moves good =
      let w1 : W = run m r w in
      let all : List (List S) = r2 ∷ rs in
      let later : Hold m 0 all w1 (λ u. m.clock w1 + 21 * m.quarter ≤ m.clock u → Stands m l v u) =
      hold_joined m (λ u. m.clock w1 + 21 * m.quarter ≤ m.clock u → Stands m l v u) all w1
      (is_kept m c stamps l laws paced v (m.made w) moves (3 * m.quarter) 2 (omega arith) (joined all) w1 (quiet_windows m all w1 ws.1)
      (any_back m l.due l.track (3 * m.quarter) 3 r (joined all) w any)
      (made_run m stamps r w) ws.0.flushed (joined_hold m (Good m l v (m.made w)) all w1 good.1)) in
      hold_map m (λ u. (m.clock w1 + 21 * m.quarter ≤ m.clock u → Stands m l v u) × (m.clock w1 + 21 * m.quarter ≤ m.clock u)) (Stands m l v) (λ u h. h.0 h.1) 0 rs (run m r2 w1)
      (hold_both m (λ u. m.clock w1 + 21 * m.quarter ≤ m.clock u → Stands m l v u) (λ u. m.clock w1 + 21 * m.quarter ≤ m.clock u) 0 rs (run m r2 w1) later.1
      (windows_pass m c (r2 ∷ rs) w1 ws.1))
