-- A value that is not renewed dies out, and what a hop keeps is what it is told.
use Rattle.std.proofs.Common.{◌≡◌, ℕ, ◌+◌, ◌*◌, ◌≤◌, List, true, Some, ◌⊎◌, inl, inr, ⊎_elim, arith}
use Rattle.calm_rounds.specs.Machine.{Machine, Fresh, IsClocked, IsStamped}
use Rattle.calm_rounds.specs.Rounds.{Rounds}
use Rattle.calm_rounds.specs.Hold.{Hold}
use Rattle.calm_rounds.specs.SoftStates.{SoftState, KeepLaws, IsClosed, SaysOnly, KeepsOnly}
use Rattle.calm_rounds.proofs.Holding.{hold_map, hold_both, hold_later, hold_stack, hold_keep, hold_clock, hold_flush, hold_start}

module _ {W S I K V : Type 0} (m : Machine W S I K) (c : IsClocked m) (stamps : IsStamped m) (l : SoftState W S I K V) (laws : KeepLaws m l) where
  -- an old value keeps its moment of death, and a new one is allowed
  abbrev Old : (V → Type 0) → ℕ → W → Type 0
  Old P b u = (v : V) (d : ℕ) → l.kept u ≡ Some (v, d) → P v ⊎ (d ≤ b)

  pub old_step : (P : V → Type 0) → IsClosed l.below P → (b : ℕ) (s : S) (u : W) → m.quiet s ≡ true
      → l.sane u × SaysOnly m l P 0 u → l.sane (m.step s u) × SaysOnly m l P 0 (m.step s u) → Old P b u → Old P b (m.step s u)
  old_step P closed b s u q a a' j v d e =
      ⊎_elim
      (λ (old : (v0 : V) × (l.kept u ≡ Some (v0, d)) × l.below v v0).
      ⊎_elim (λ (p : P old.0). inl (closed v old.0 old.2 p)) (λ (le : d ≤ b). inr le) (j old.0 d old.1))
      (λ (new : (x : I) × (v0 : V) × (m.arrived s u ≡ Some x) × l.says x v0 × l.below v v0).
      inl (closed v new.1 new.4 (a.1 new.0 new.1 (stamps.arrived s u new.0 new.2) (omega arith) new.3)))
      (laws.set s u v d q a.0 a'.0 e)

  pub dies_out : (P : V → Type 0) → IsClosed l.below P → (rs : List (List S)) (w : W) → Rounds m rs w
      → Hold m 0 rs w l.sane → Hold m 0 rs w (SaysOnly m l P 0) → Hold m 4 rs w (KeepsOnly m l P)
  dies_out P closed rs w calm sane says =
      let b : ℕ = m.clock w + 21 * m.quarter in
      let j = hold_keep m (λ u. l.sane u × SaysOnly m l P 0 u) (Old P b) (λ s u q a a' j. old_step P closed b s u q a a' j) rs w calm
      (hold_both m l.sane (SaysOnly m l P 0) 0 rs w sane says)
      (λ v d e. inr (laws.room w v d (hold_start m l.sane rs w sane) e).1) in
      hold_map m (λ u. (Old P b u × l.sane u) × (m.clock w + 6 * m.quarter * 4 ≤ m.clock u)) (KeepsOnly m l P)
      (λ u h v d e. ⊎_elim (λ (p : P v). p) (λ (le : d ≤ b). absurd (omega (arith, h.1, laws.room u v d h.0.1 e))) (h.0.0 v d e))
      4 rs w
      (hold_both m (λ u. Old P b u × l.sane u) (λ u. m.clock w + 6 * m.quarter * 4 ≤ m.clock u) 4 rs w
      (hold_later m (λ u. Old P b u × l.sane u) 0 4 rs w (omega arith) (hold_both m (Old P b) l.sane 0 rs w j sane))
      (hold_clock m c 4 rs w calm))

  pub only_what_is_said_is_kept : (P : V → Type 0) → IsClosed l.below P → (rs : List (List S)) (w : W) → Rounds m rs w
      → Hold m 0 rs w l.sane → Hold m 0 rs w (SaysOnly m l P (m.made w)) → Hold m 5 rs w (λ u. KeepsOnly m l P u × SaysOnly m l P 0 u)
  only_what_is_said_is_kept P closed rs w calm sane says =
      let all : Hold m 1 rs w (λ u. l.sane u × SaysOnly m l P 0 u) =
      hold_map m (λ u. (l.sane u × SaysOnly m l P (m.made w) u) × Fresh m (m.made w) u) (λ u. l.sane u × SaysOnly m l P 0 u)
      (λ u h. (h.0.0, λ x v i le. h.0.1 x v i (h.1 x i))) 1 rs w
      (hold_both m (λ u. l.sane u × SaysOnly m l P (m.made w) u) (Fresh m (m.made w)) 1 rs w
      (hold_later m (λ u. l.sane u × SaysOnly m l P (m.made w) u) 0 1 rs w (omega arith) (hold_both m l.sane (SaysOnly m l P (m.made w)) 0 rs w sane says))
      (hold_flush m stamps rs w calm)) in
      hold_both m (KeepsOnly m l P) (SaysOnly m l P 0) 5 rs w
      (hold_stack m (λ u. l.sane u × SaysOnly m l P 0 u) (KeepsOnly m l P) 4
      (λ rs' w' calm' h. dies_out P closed rs' w' calm' (hold_map m (λ u. l.sane u × SaysOnly m l P 0 u) l.sane (λ u h. h.0) 0 rs' w' h)
      (hold_map m (λ u. l.sane u × SaysOnly m l P 0 u) (SaysOnly m l P 0) (λ u h. h.1) 0 rs' w' h))
      1 rs w calm all)
      (hold_later m (SaysOnly m l P 0) 1 5 rs w (omega arith) (hold_map m (λ u. l.sane u × SaysOnly m l P 0 u) (SaysOnly m l P 0) (λ u h. h.1) 1 rs w all))
