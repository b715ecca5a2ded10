-- A beacon: a small machine that meets the premises of the laws. It sends one number again and again to one place, which
-- keeps the number that arrived last until that dies. In the world in which it starts, another number is kept, and is in
-- flight too. A mute beacon sends nothing.
use Rattle.std.specs.Prelude.{◌≡◌, ℕ, zero, suc, ◌+◌, ◌<◌, ◌≤◌, List, [], ◌∷◌, Bool, true, Option, None, Some, cond, nat_lt}
use Rattle.calm_rounds.specs.Machine.{Machine, IsClocked, IsStamped, run}
use Rattle.calm_rounds.specs.Rounds.{Rounds}
use Rattle.calm_rounds.specs.Hold.{Hold}
use Rattle.calm_rounds.specs.SoftStates.{SoftState, KeepLaws, DueLaws, IsClosed, SaysOnly, KeepsOnly, Stands, Good, Moves}

-- a number on its way, and the step that sent it
pub record Signal : Type 0 where
  pub number : ℕ
  pub born : ℕ

pub record BeaconWorld : Type 0 where
  pub clock : ℕ
  pub made : ℕ
  pub flight : List Signal
  -- what is kept, and the moment at which it dies
  pub kept : Option (ℕ × ℕ)

-- six milliseconds pass and a signal is sent, or the first signal in flight arrives, which is the one sent last
pub data BeaconStep : Type 0 where
  Flash : BeaconStep
  Arrive : BeaconStep

-- the number that the beacon sends
abbrev pub told : ℕ
told = 5

abbrev pub flash : BeaconWorld → Signal
flash w = record { number = told; born = w.made }

abbrev pub first_of : List Signal → Option Signal
first_of [] = None
first_of (x ∷ xs) = Some x

abbrev pub rest_of : List Signal → List Signal
rest_of [] = []
rest_of (x ∷ xs) = xs

-- what lives at the moment c
abbrev pub living : ℕ → Option (ℕ × ℕ) → Option (ℕ × ℕ)
living c None = None
living c (Some k) = cond (nat_lt c k.1) (Some k) None

-- what is kept once a signal, if any, has arrived at the moment c
abbrev pub taken : ℕ → Option Signal → Option (ℕ × ℕ) → Option (ℕ × ℕ)
taken c None kept = kept
taken c (Some x) kept = Some (x.number, c + 21)

abbrev pub after : BeaconStep → BeaconWorld → BeaconWorld
after Flash w = record { clock = w.clock + 6; made = suc w.made; flight = flash w ∷ w.flight; kept = living (w.clock + 6) w.kept }
after Arrive w = record { clock = w.clock; made = suc w.made; flight = rest_of w.flight; kept = taken w.clock (first_of w.flight) w.kept }

abbrev pub length_of : BeaconStep → ℕ
length_of Flash = 6
length_of Arrive = 0

abbrev pub sent_by : BeaconStep → BeaconWorld → List (Signal × Bool)
sent_by Flash w = (flash w, true) ∷ []
sent_by Arrive w = []

abbrev pub arrives_by : BeaconStep → BeaconWorld → Option Signal
arrives_by Flash w = None
arrives_by Arrive w = first_of w.flight

abbrev pub beacon : Machine BeaconWorld BeaconStep Signal (Unit {0})
beacon = record {
  quarter = 1;
  step = after;
  quiet = λ _. true;
  ms = length_of;
  clock = λ w. w.clock;
  made = λ w. w.made;
  flight = λ w. w.flight;
  born = λ x. x.born;
  track = λ _. Some tt;
  serves = λ _ _. true;
  sent = sent_by;
  arrived = arrives_by;
}

-- what is kept dies after the clock, and at most 21 milliseconds after it
abbrev pub IsSane : BeaconWorld → Type 0
IsSane w = (v d : ℕ) → w.kept ≡ Some (v, d) → (w.clock < d) × (d ≤ w.clock + 21)

abbrev pub place : SoftState BeaconWorld BeaconStep Signal (Unit {0}) ℕ
place = record {
  sane = IsSane;
  kept = λ w. w.kept;
  says = λ x v. v ≡ x.number;
  letter = λ _. true;
  life = λ _. 21;
  below = λ v v0. v ≡ v0;
  due = λ w. Some (w.clock + 6);
  fires = λ s _. s ≡ Flash;
  track = Some tt;
}

abbrev pub first_world : BeaconWorld
first_world = record { clock = 0; made = 1; flight = record { number = 7; born = 0 } ∷ []; kept = Some (7, 21) }

abbrev pub a_round : List BeaconStep
a_round = Flash ∷ Arrive ∷ Arrive ∷ []

abbrev pub some_rounds : ℕ → List (List BeaconStep)
some_rounds zero = []
some_rounds (suc n) = a_round ∷ some_rounds n

pub record MeetsThePremises : Type 0 where
  pub clocked : IsClocked beacon
  pub stamped : IsStamped beacon
  pub keeps : KeepLaws beacon place
  pub falls_due : DueLaws beacon place
  pub moves : (n : ℕ) → Moves beacon place told n
  pub closed : IsClosed place.below (λ v. v ≡ told)
  pub quarter : 1 ≤ beacon.quarter
  -- however many rounds, they are calm
  pub rounds : (k : ℕ) → Rounds beacon (some_rounds k) first_world
  pub sane : (k : ℕ) → Hold beacon 0 (some_rounds k) first_world IsSane
  -- from the start on nothing else is sent, and after a round nothing else is in flight
  pub says : (k : ℕ) → Hold beacon 0 (some_rounds k) first_world (SaysOnly beacon place (λ v. v ≡ told) (first_world.made))
  pub says_later : (k : ℕ) → Hold beacon 0 (some_rounds k) (run beacon a_round first_world) (SaysOnly beacon place (λ v. v ≡ told) 0)
  pub good : (k : ℕ) → Hold beacon 0 (some_rounds k) first_world (Good beacon place told (first_world.made))
  -- at the start another number is kept, and after one round one still is, which was on its way
  pub not_yet : KeepsOnly beacon place (λ v. v ≡ told) first_world → ⊥
  pub not_in_one : Hold beacon 1 (some_rounds 1) first_world (Stands beacon place told) → ⊥

-- six milliseconds pass and nothing is sent, or the first signal in flight arrives
abbrev pub after_mute : BeaconStep → BeaconWorld → BeaconWorld
after_mute Flash w = record { clock = w.clock + 6; made = suc w.made; flight = w.flight; kept = living (w.clock + 6) w.kept }
after_mute Arrive w = after Arrive w

abbrev pub mute : Machine BeaconWorld BeaconStep Signal (Unit {0})
mute = record {
  quarter = 1;
  step = after_mute;
  quiet = λ _. true;
  ms = length_of;
  clock = λ w. w.clock;
  made = λ w. w.made;
  flight = λ w. w.flight;
  born = λ x. x.born;
  track = λ _. Some tt;
  serves = λ _ _. true;
  sent = λ _ _. [];
  arrived = arrives_by;
}

-- a number is kept and nothing in flight
abbrev pub kept_world : BeaconWorld
kept_world = record { clock = 0; made = 1; flight = []; kept = Some (7, 21) }

-- a number is in flight and nothing kept
abbrev pub told_world : BeaconWorld
told_world = record { clock = 0; made = 1; flight = record { number = 7; born = 0 } ∷ []; kept = None }

abbrev pub a_mute_round : List BeaconStep
a_mute_round = Flash ∷ Arrive ∷ []

abbrev pub mute_rounds : ℕ → List (List BeaconStep)
mute_rounds zero = []
mute_rounds (suc n) = a_mute_round ∷ mute_rounds n

-- all premises are met, with no value allowed: what is kept at the start is so after three rounds, and what is in flight
-- at the start is kept after four
pub record TakesTheRounds : Type 0 where
  pub clocked : IsClocked mute
  pub stamped : IsStamped mute
  pub keeps : KeepLaws mute place
  pub closed : IsClosed place.below (λ _. ⊥)
  pub rounds : (k : ℕ) → Rounds mute (mute_rounds k) kept_world × Rounds mute (mute_rounds k) told_world
  pub sane : (k : ℕ) → Hold mute 0 (mute_rounds k) kept_world IsSane × Hold mute 0 (mute_rounds k) told_world IsSane
  pub says_nothing : (k : ℕ) → Hold mute 0 (mute_rounds k) kept_world (SaysOnly mute place (λ _. ⊥) 0)
  pub not_in_three : Hold mute 3 (mute_rounds 3) kept_world (KeepsOnly mute place (λ _. ⊥)) → ⊥
  pub says_nothing_new : (k : ℕ) → Hold mute 0 (mute_rounds k) told_world (SaysOnly mute place (λ _. ⊥) (told_world.made))
  pub not_in_four : Hold mute 4 (mute_rounds 4) told_world (KeepsOnly mute place (λ _. ⊥)) → ⊥
