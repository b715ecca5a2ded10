-- A machine: worlds, steps from world to world, items that are in flight in a world, and tracks on which items go.
use Rattle.std.specs.Prelude.{◌≡◌, ℕ, ◌+◌, ◌≤◌, List, [], ◌∷◌, ◌++◌, Bool, true, Option, None, Some, ◌⊎◌}
use Rattle.rsvp_base.specs.Members.{In}

-- what is read of a machine with worlds W, steps S, items I and tracks K
pub record Machine (W S I K : Type 0) : Type 0 where
  -- a quarter of the refresh period, in milliseconds
  pub quarter : ℕ
  pub step : S → W → W
  -- only time passes, or an item in flight arrives, is lost or is doubled
  pub quiet : S → Bool
  -- how long the step waits, in milliseconds
  pub ms : S → ℕ
  -- the moment, in milliseconds
  pub clock : W → ℕ
  -- how many steps were made
  pub made : W → ℕ
  pub flight : W → List I
  -- the number of the step that sent the item
  pub born : I → ℕ
  pub track : I → Option K
  -- in this world something is refreshed over the track
  pub serves : W → K → Bool
  -- what the step sends in this world; true marks a refresh
  pub sent : S → W → List (I × Bool)
  -- what arrives by the step in this world
  pub arrived : S → W → Option I

-- the item of an option, as a list
abbrev pub items_of : {A : Type 0} → Option A → List A
items_of None = []
items_of (Some x) = x ∷ []

module _ {W S I K : Type 0} (m : Machine W S I K) where
  -- the world after the steps
  abbrev pub run : List S → W → W
  run [] w = w
  run (s ∷ ss) w = run ss (m.step s w)

  -- how long the steps wait together
  abbrev pub waits : List S → ℕ
  waits [] = 0
  waits (s ∷ ss) = m.ms s + waits ss

  -- what the steps send, in order
  abbrev pub all_sent : List S → W → List (I × Bool)
  all_sent [] w = []
  all_sent (s ∷ ss) w = m.sent s w ++ all_sent ss (m.step s w)

  -- what arrives by the steps, in order
  abbrev pub all_arrived : List S → W → List I
  all_arrived [] w = []
  all_arrived (s ∷ ss) w = items_of (m.arrived s w) ++ all_arrived ss (m.step s w)

  -- nothing is in flight that was sent before step n
  abbrev pub Fresh : ℕ → W → Type 0
  Fresh n w = (x : I) → In x (m.flight w) → n ≤ m.born x

  -- F holds of some step of the list, in the world in which it is made
  abbrev pub Happens : (S → W → Type 0) → List S → W → Type 0
  Happens F [] w = ⊥
  Happens F (s ∷ ss) w = F s w ⊎ Happens F ss (m.step s w)

  -- time goes on by what quiet steps wait
  pub record IsClocked : Type 0 where
    pub clock : (s : S) (u : W) → m.quiet s ≡ true → m.clock (m.step s u) ≡ m.clock u + m.ms s

  -- items carry the number of the step that sent them
  pub record IsStamped : Type 0 where
    pub made : (s : S) (u : W) → m.made u ≤ m.made (m.step s u)
    -- what is in flight was in flight before, or is not older than the step
    pub appended : (s : S) (u : W) (x : I) → m.quiet s ≡ true → In x (m.flight (m.step s u)) → In x (m.flight u) ⊎ (m.made u ≤ m.born x)
    -- what arrives was in flight
    pub arrived : (s : S) (u : W) (x : I) → m.arrived s u ≡ Some x → In x (m.flight u)
