-- A lamp: a small machine that meets the premises of the laws. Each six milliseconds, which are 1.5 of its refresh periods, it sends
-- one number to one place, which keeps the number that arrived last for 21 milliseconds. A signal may be lost, or arrive late. Two
-- runs show what happens where one premise is a little weaker.
use Rattle.std.specs.Prelude.{◌≡◌, ℕ, suc, ◌+◌, ◌*◌, ◌<◌, ◌≤◌, List, [], ◌∷◌, Bool, true, Option, None, Some, cond, nat_le}
use Rattle.calm_rounds.specs.Beacon.{Signal, told, first_of, rest_of, living, taken}
use Rattle.calm_rounds.specs.Hold.{Visited}
use Rattle.calm_rounds.specs.Machine.{Machine, IsClocked, IsStamped, Fresh, run}
use Rattle.calm_rounds.specs.Rounds.{AreQuiet}
use Rattle.calm_rounds.specs.SoftStates.{SoftState, DueLaws, Good, Moves}
use Rattle.calm_rounds.specs.Loss.{OneOfAny, IsRefreshed}
use Rattle.calm_rounds.specs.Pace.{PaceLaws, Lasts}

pub record LampWorld : Type 0 where
  pub clock : ℕ
  pub made : ℕ
  -- when the next signal is due
  pub due : ℕ
  pub flight : List Signal
  -- what is kept, and the moment at which it dies
  pub kept : Option (ℕ × ℕ)

-- so many milliseconds pass, and a signal is sent if one is due; or the first signal in flight arrives, which is the one sent last;
-- or it is lost
pub data LampStep : Type 0 where
  Pass : ℕ → LampStep
  Arrive : LampStep
  Lose : LampStep

abbrev pub flash : LampWorld → Signal
flash w = record { number = told; born = w.made }

-- by a wait of so long a signal comes due
abbrev pub comes_due : ℕ → LampWorld → Bool
comes_due ms w = nat_le w.due (w.clock + ms)

abbrev pub after : LampStep → LampWorld → LampWorld
after (Pass ms) w = record {
  clock = w.clock + ms;
  made = suc w.made;
  due = cond (comes_due ms w) (w.due + 6) w.due;
  flight = cond (comes_due ms w) (flash w ∷ w.flight) w.flight;
  kept = living (w.clock + ms) w.kept;
}
after Arrive w = record { clock = w.clock; made = suc w.made; due = w.due; flight = rest_of w.flight; kept = taken w.clock (first_of w.flight) w.kept }
after Lose w = record { clock = w.clock; made = suc w.made; due = w.due; flight = rest_of w.flight; kept = w.kept }

abbrev pub length_of : LampStep → ℕ
length_of (Pass ms) = ms
length_of Arrive = 0
length_of Lose = 0

-- no step waits longer than from one signal to the next
abbrev pub is_short : LampStep → Bool
is_short (Pass ms) = nat_le ms 6
is_short Arrive = true
is_short Lose = true

abbrev pub sent_by : LampStep → LampWorld → List (Signal × Bool)
sent_by (Pass ms) w = cond (comes_due ms w) ((flash w, true) ∷ []) []
sent_by Arrive w = []
sent_by Lose w = []

abbrev pub arrives_by : LampStep → LampWorld → Option Signal
arrives_by (Pass ms) w = None
arrives_by Arrive w = first_of w.flight
arrives_by Lose w = None

abbrev pub lamp : Machine LampWorld LampStep Signal (Unit {0})
lamp = record {
  quarter = 1;
  step = after;
  quiet = is_short;
  ms = length_of;
  clock = λ w. w.clock;
  made = λ w. w.made;
  flight = λ w. w.flight;
  born = λ x. x.born;
  track = λ _. Some tt;
  serves = λ _ _. true;
  sent = sent_by;
  arrived = arrives_by;
}

-- the next signal is due after the clock, within six milliseconds
pub record IsSane (w : LampWorld) : Type 0 where
  pub later : w.clock < w.due
  pub soon : w.due ≤ w.clock + 6

-- the step is a wait in which a signal comes due
abbrev pub Flashes : LampStep → LampWorld → Type 0
Flashes (Pass ms) w = comes_due ms w ≡ true
Flashes Arrive w = ⊥
Flashes Lose w = ⊥

abbrev pub place : SoftState LampWorld LampStep Signal (Unit {0}) ℕ
place = record {
  sane = IsSane;
  kept = λ w. w.kept;
  says = λ x v. v ≡ x.number;
  letter = λ _. true;
  life = λ _. 21;
  below = λ v v0. v ≡ v0;
  due = λ w. Some w.due;
  fires = Flashes;
  track = Some tt;
}

-- a signal arrived just now
abbrev pub lit_world : LampWorld
lit_world = record { clock = 0; made = 1; due = 6; flight = []; kept = Some (told, 21) }

-- two signals are lost, and the third arrives two milliseconds after it was due: a millisecond before what is kept dies
abbrev pub two_lost : List LampStep
two_lost = Pass 6 ∷ Lose ∷ Pass 6 ∷ Lose ∷ Pass 6 ∷ Pass 2 ∷ Arrive ∷ Pass 4 ∷ []

-- three signals are lost, and the fourth arrives at once: three milliseconds after what is kept died
abbrev pub three_lost : List LampStep
three_lost = Pass 6 ∷ Lose ∷ Pass 6 ∷ Lose ∷ Pass 6 ∷ Lose ∷ Pass 3 ∷ Pass 3 ∷ Arrive ∷ []

-- two signals are lost, and the third arrives three milliseconds after it was due, which are 0.75 refresh periods: when what is kept
-- has died
abbrev pub one_late : List LampStep
one_late = Pass 6 ∷ Lose ∷ Pass 6 ∷ Lose ∷ Pass 6 ∷ Pass 3 ∷ Arrive ∷ []

-- all that the law asks for of a run, but for how much is lost
pub record IsRun (ss : List LampStep) : Type 0 where
  pub quiet : AreQuiet lamp ss
  pub fresh : Fresh lamp 0 lit_world
  pub good : Visited lamp (Good lamp place told 0) ss lit_world
  pub lasts : Lasts lamp place told lit_world

-- ---- the premises are met, with signals lost
pub record MeetsThePremises : Type 0 where
  pub clocked : IsClocked lamp
  pub stamped : IsStamped lamp
  pub falls_due : DueLaws lamp place
  pub paced : PaceLaws lamp place
  pub moves : Moves lamp place told 0
  pub begun : IsRun two_lost
  pub refreshed : IsRefreshed lamp place.due place.track two_lost lit_world
  -- when the third signal arrives, what is kept has one millisecond to live
  pub nearly : run lamp (Pass 6 ∷ Lose ∷ Pass 6 ∷ Lose ∷ Pass 6 ∷ Pass 2 ∷ []) lit_world
      ≡ record { clock = 20; made = 7; due = 24; flight = (record { number = told; born = 5 }) ∷ []; kept = Some (told, 21) }

-- ---- one of any four is too few, and 0.75 refresh periods are too long
pub record LossCanKill : Type 0 where
  pub run_of_four : IsRun three_lost
  pub one_of_four : OneOfAny lamp place.due place.track (3 * lamp.quarter) 4 three_lost lit_world
  pub gone_of_four : (run lamp (Pass 6 ∷ Lose ∷ Pass 6 ∷ Lose ∷ Pass 6 ∷ Lose ∷ Pass 3 ∷ []) lit_world).kept ≡ None
  pub run_of_late : IsRun one_late
  pub one_of_late : OneOfAny lamp place.due place.track (3 * lamp.quarter + 1) 3 one_late lit_world
  pub gone_of_late : (run lamp (Pass 6 ∷ Lose ∷ Pass 6 ∷ Lose ∷ Pass 6 ∷ Pass 3 ∷ []) lit_world).kept ≡ None
  -- so neither run is refreshed as the law asks
  pub too_few : IsRefreshed lamp place.due place.track three_lost lit_world → ⊥
  pub too_late : IsRefreshed lamp place.due place.track one_late lit_world → ⊥
