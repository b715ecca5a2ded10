-- Marks of vertices, carried along edges until none moves.
use Rattle.std.specs.Prelude.{◌≡◌, ℕ, ◌<◌, zero, suc, Bool, true, false, not, ◌&&◌, ◌||◌, List, [], ◌∷◌, Option, None, Some, slice_get, slice_set, if◌then◌else◌}
use Rattle.rsvp_base.specs.Members.{In}
use Rattle.tree_routing.specs.declared.known.Known.{Known}
use Rattle.tree_routing.specs.Walks.{Edge, Leads}

abbrev pub is_on : Option Bool → Bool
is_on None = false
is_on (Some b) = b

abbrev pub is_off : Option Bool → Bool
is_off None = false
is_off (Some b) = not b

-- a vertex is marked; one that is there is not
abbrev pub marked : List Bool → ℕ → Bool
marked ms v = is_on (slice_get ms v)

abbrev pub unmarked : List Bool → ℕ → Bool
unmarked ms v = is_off (slice_get ms v)

-- the mark of the first is carried to the second
abbrev pub moves_along : Option ℕ → ℕ → List Bool → Bool
moves_along None v ms = false
moves_along (Some a) v ms = marked ms a && unmarked ms v

abbrev pub along : Option ℕ → ℕ → List Bool → List Bool
along o v ms = if moves_along o v ms then slice_set ms v true else ms

-- along each edge once
abbrev pub pass : List Known → List Bool → List Bool
pass [] ms = ms
pass (k ∷ ks) ms = pass ks (along k.before k.vertex ms)

-- a mark is carried
abbrev pub moves : List Known → List Bool → Bool
moves [] ms = false
moves (k ∷ ks) ms = moves_along k.before k.vertex ms || moves ks (along k.before k.vertex ms)

abbrev pub passes : ℕ → List Known → List Bool → List Bool
passes zero ks ms = ms
passes (suc n) ks ms = pass ks (passes n ks ms)

-- how many are not marked
abbrev pub off : List Bool → ℕ
off [] = 0
off (b ∷ bs) = if b then off bs else suc (off bs)

abbrev pub bit : Bool → ℕ
bit b = if b then 1 else 0

-- the marks are exactly those of the vertices to which edges lead from one
pub record IsReach (ks : List Known) (from : ℕ) (ms : List Bool) : Type 0 where
  pub here : marked ms from ≡ true
  pub leads : (v : ℕ) → marked ms v ≡ true → Leads ks from v
  pub closed : (a b : ℕ) → Edge ks a b → marked ms a ≡ true → marked ms b ≡ true

-- each vertex is below this number
abbrev pub AreBelow : ℕ → List Known → Type 0
AreBelow n ks = (k : Known) → In k ks → k.vertex < n
