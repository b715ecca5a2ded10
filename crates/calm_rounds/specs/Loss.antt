-- Loss in the words of RFC 2205, 3.7: of so many successive refreshes on a track one arrives in time.
use Rattle.std.specs.Prelude.{◌≡◌, ℕ, zero, suc, ◌+◌, ◌*◌, ◌<◌, List, [], ◌∷◌, true, Option, Some, ◌⊎◌}
use Rattle.rsvp_base.specs.Members.{In}
use Rattle.calm_rounds.specs.Machine.{Machine}

module _ {W S I K : Type 0} (m : Machine W S I K) where
  -- the item arrives by one of the steps, before the moment; or the steps end before it
  abbrev pub ArrivesBefore : ℕ → I → List S → W → Type 0
  ArrivesBefore b x [] w = m.clock w < b
  ArrivesBefore b x (s ∷ ss) w = ((m.arrived s w ≡ Some x) × (m.clock w < b)) ⊎ ArrivesBefore b x ss (m.step s w)

  module _ (due : W → Option ℕ) (track : Option K) where
    -- the step sends the item on the track, as a refresh
    pub record IsRefresh (s : S) (w : W) (x : I) : Type 0 where
      pub sent : In (x, true) (m.sent s w)
      pub goes : m.track x ≡ track

    -- a refresh that the step sends arrives less than so many milliseconds after it was due
    pub record IsInTime (wait : ℕ) (s : S) (ss : List S) (w : W) : Type 0 where
      pub item : I
      pub refresh : IsRefresh s w item
      pub moment : ℕ
      pub reached : due w ≡ Some moment
      pub arrives : ArrivesBefore (moment + wait) item ss (m.step s w)

    -- of the next so many refreshes one arrives in time; or the steps end before there are so many
    abbrev pub OneOfNext : ℕ → ℕ → List S → W → Type 0
    OneOfNext wait zero ss w = ⊥
    OneOfNext wait (suc few) [] w = Unit {0}
    OneOfNext wait (suc few) (s ∷ ss) w =
        (((x : I) → IsRefresh s w x → ⊥) × OneOfNext wait (suc few) ss (m.step s w))
        ⊎ (IsInTime wait s ss w ⊎ OneOfNext wait few ss (m.step s w))

    -- of any so many successive refreshes one arrives in time
    abbrev pub OneOfAny : ℕ → ℕ → List S → W → Type 0
    OneOfAny wait few [] w = OneOfNext wait few [] w
    OneOfAny wait few (s ∷ ss) w = OneOfNext wait few (s ∷ ss) w × OneOfAny wait few ss (m.step s w)

    -- RFC 2205, 3.7, with K = 3: of any three successive refreshes one arrives less than 0.75 periods after it was due
    abbrev pub IsRefreshed : List S → W → Type 0
    IsRefreshed ss w = OneOfAny (3 * m.quarter) 3 ss w
