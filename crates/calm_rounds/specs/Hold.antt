-- What holds of each world that is visited from some round on.
use Rattle.std.specs.Prelude.{◌≡◌, ℕ, zero, suc, List, [], ◌∷◌, true}
use Rattle.calm_rounds.specs.Machine.{Machine, run}

module _ {W S I K : Type 0} (m : Machine W S I K) where
  -- Q holds of the world, and of the world after each step
  abbrev pub Visited : (W → Type 0) → List S → W → Type 0
  Visited Q [] w = Q w
  Visited Q (s ∷ ss) w = Q w × Visited Q ss (m.step s w)

  -- Q holds of the world after the k-th round and of each that is visited later, to the end of the rounds
  abbrev pub Hold : ℕ → List (List S) → W → (W → Type 0) → Type 0
  Hold zero [] w Q = Q w
  Hold zero (r ∷ rs) w Q = Visited Q r w × Hold zero rs (run m r w) Q
  Hold (suc k) [] w Q = Unit {0}
  Hold (suc k) (r ∷ rs) w Q = Hold k rs (run m r w) Q

  -- each quiet step from a world of A to a world of A keeps J
  abbrev pub Keep : (W → Type 0) → (W → Type 0) → Type 0
  Keep A J = (s : S) (u : W) → m.quiet s ≡ true → A u → A (m.step s u) → J u → J (m.step s u)
