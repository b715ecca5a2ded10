-- Windows of small machines: the lamp, whose signals are lost, and the mute beacon. They meet the premises of the laws on windows, and
-- fewer windows are not enough.
use Rattle.std.specs.Prelude.{List, [], ◌∷◌, Some}
use Rattle.calm_rounds.specs.Beacon.{told, BeaconStep, Flash, mute, kept_world, told_world, IsSane as IsSaneBeacon, place as beacon_place}
use Rattle.calm_rounds.specs.Beacon.{Arrive as Reach}
use Rattle.calm_rounds.specs.Hold.{Hold}
use Rattle.calm_rounds.specs.Machine.{IsClocked, IsStamped}
use Rattle.calm_rounds.specs.SoftStates.{KeepLaws, IsClosed, SaysOnly, KeepsOnly, Stands, Good, Moves}
use Rattle.calm_rounds.specs.Lamp.{LampWorld, LampStep, Pass, Arrive, Lose, lamp, place}
use Rattle.calm_rounds.specs.Loss.{IsRefreshed}
use Rattle.calm_rounds.specs.Windows.{Windows, joined}

-- ---- the lamp
-- another number is kept, and is in flight too
abbrev pub other_world : LampWorld
other_world = record { clock = 0; made = 1; due = 6; flight = record { number = 7; born = 0 } ∷ []; kept = Some (7, 21) }

-- 36 milliseconds, in which four of six signals are lost; at the end of the first window the old signal arrives
abbrev pub first_window : List LampStep
first_window = Pass 6 ∷ Lose ∷ Pass 6 ∷ Lose ∷ Pass 6 ∷ Arrive ∷ Pass 6 ∷ Lose ∷ Pass 6 ∷ Lose ∷ Pass 6 ∷ Arrive ∷ Arrive ∷ []

abbrev pub second_window : List LampStep
second_window = Pass 6 ∷ Lose ∷ Pass 6 ∷ Lose ∷ Pass 6 ∷ Arrive ∷ Pass 6 ∷ Lose ∷ Pass 6 ∷ Lose ∷ Pass 6 ∷ Arrive ∷ []

abbrev pub two_windows : List (List LampStep)
two_windows = first_window ∷ second_window ∷ []

pub record SettlesInWindows : Type 0 where
  pub windows : Windows lamp two_windows other_world
  pub refreshed : IsRefreshed lamp place.due place.track (joined two_windows) other_world
  pub moves : Moves lamp place told (other_world.made)
  pub good : Hold lamp 0 two_windows other_world (Good lamp place told (other_world.made))
  pub not_in_one : Hold lamp 1 two_windows other_world (Stands lamp place told) → ⊥

-- ---- the mute beacon
abbrev pub mute_window : List BeaconStep
mute_window = Flash ∷ Flash ∷ Flash ∷ Flash ∷ Reach ∷ []

abbrev pub mute_windows : List (List BeaconStep)
mute_windows = mute_window ∷ mute_window ∷ []

-- with no value allowed: what is kept at the start is there until the first window has passed, and what is in flight at the start is
-- kept after one
pub record TakesTheWindows : Type 0 where
  pub clocked : IsClocked mute
  pub stamped : IsStamped mute
  pub keeps : KeepLaws mute beacon_place
  pub closed : IsClosed beacon_place.below (λ _. ⊥)
  pub windows : Windows mute mute_windows kept_world × Windows mute mute_windows told_world
  pub sane : Hold mute 0 mute_windows kept_world IsSaneBeacon × Hold mute 0 mute_windows told_world IsSaneBeacon
  pub says_nothing : Hold mute 0 mute_windows kept_world (SaysOnly mute beacon_place (λ _. ⊥) 0)
  pub not_at_once : Hold mute 0 mute_windows kept_world (KeepsOnly mute beacon_place (λ _. ⊥)) → ⊥
  pub says_nothing_new : Hold mute 0 mute_windows told_world (SaysOnly mute beacon_place (λ _. ⊥) (told_world.made))
  pub not_in_one : Hold mute 1 mute_windows told_world (KeepsOnly mute beacon_place (λ _. ⊥)) → ⊥
