-- What there is to be seen of a run, and what was shown of it to what watches.
use Rattle.std.specs.Prelude.{◌≡◌, ℕ, ◌-◌, List, [], ◌∷◌, ◌++◌, Option, None, Some, Result, Ok, Err, slice_get}
use Rattle.std.proofs.Common.{zero, suc}
use Rattle.calm_rounds.specs.Machine.{run}
use Rattle.network_flight.specs.Events.{Event, Rounds, a_round, steps_of}
use Rattle.network_flight.specs.Runs.{Plan, first_world}
use Rattle.network_flight.specs.Steps.{Step, Deliver, Piece, machine, step}
use Rattle.network_flight.specs.Worlds.{Item, World}
use Rattle.router_rules.specs.declared.answers.Heard.{Heard}
use Rattle.network_replay.specs.Agreeing.{NetworkState, Agrees}
use Rattle.network_replay.specs.Due.{heard_of}
use Rattle.network_replay.specs.Following.{Seen}
use Rattle.network_replay.specs.declared.world_err.WorldErr.{WorldErr}

-- each with the world in which it is seen
pub data Sight : Type 0 where
  -- an event is next
  Next : World → Sight
  -- the datagram at a place, from 0, was delivered, and this is what its node made of it
  Delivered : World → ℕ → Heard → Sight
  -- so many milliseconds passed
  Waited : World → ℕ → Sight
  -- so many of all rounds of an event are over
  RoundOver : World → ℕ → ℕ → Sight
  -- this event happened
  Happened : World → Event → Sight

-- a delivery, where a node made something of it
abbrev pub delivery : World → ℕ → Option Heard → List Sight
delivery w k None = []
delivery w k (Some h) = Delivered w k h ∷ []

module _ (q : ℕ) where
  -- what is made of the datagram at a place, if one is there
  abbrev pub heard_there : World → ℕ → Option Item → Option Heard
  heard_there w k None = None
  heard_there w k (Some x) = heard_of q w k x

  abbrev pub sights_of : Step → World → List Sight
  sights_of (Deliver k) w = delivery (step q (Deliver k) w) k (heard_there w k (slice_get w.flight k))
  sights_of (Piece ms) w = Waited (step q (Piece ms) w) ms ∷ []
  sights_of _ w = []

  -- of steps, one after another
  abbrev pub sights : List Step → World → List Sight
  sights [] w = []
  sights (s ∷ ss) w = sights_of s w ++ sights ss (step q s w)

  -- of one of so many rounds, behind which so many are left, from the world in which it begins to that in which it ends
  abbrev pub round_sights : ℕ → ℕ → World → World → List Sight
  round_sights all left w v = sights (a_round q w) w ++ RoundOver v (all - left) all ∷ []

  -- of the rounds that are left
  abbrev pub rounds_sights : ℕ → ℕ → World → List Sight
  rounds_sights all zero w = []
  rounds_sights all (suc n) w = round_sights all n w (run (machine q) (a_round q w) w) ++ rounds_sights all n (run (machine q) (a_round q w) w)

  abbrev pub event_sights : Event → World → List Sight
  event_sights (Rounds n) w = rounds_sights n n w
  event_sights e w = sights (steps_of q e w) w

  -- of events, one after another, where this is what there is to be seen of one
  abbrev pub all_sights : (Event → World → List Sight) → List Event → World → List Sight
  all_sights one [] w = []
  all_sights one (e ∷ es) w = one e w ++ all_sights one es (run (machine q) (steps_of q e w) w)

-- of the events of a plan
abbrev pub plan_sights : Plan → List Sight
plan_sights p = all_sights p.quarter (event_sights p.quarter) p.events (first_world p)

-- ---- what was shown
module _ {W : Type 0} (saw : W → List Sight → Type 0) where
  -- all of this, in order, behind what was shown before
  abbrev pub Shows : W → W → List Sight → Type 0
  Shows old new more = (ss : List Sight) → saw old ss → saw new (ss ++ more)

  -- where all went well the whole, and else the first of it
  abbrev pub ShowsRun : Result (Unit {0}) WorldErr → W → W → List Sight → Type 0
  ShowsRun (Ok _) old new all = Shows old new all
  ShowsRun (Err _) old new all = (first : List Sight) × (rest : List Sight) × (all ≡ first ++ rest) × Shows old new first

  -- of what a network does, from each world that agrees with it
  abbrev pub Tells : {R : Type 0} → Seen R → NetworkState R → Result (Unit {0}) WorldErr → W → W → (ℕ → World → List Sight) → Type 0
  Tells see v r old new what = (q : ℕ) (w : World) → Agrees see q v w → ShowsRun r old new (what q w)
