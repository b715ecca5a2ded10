-- Steps that were made, and the text that they wrote.
use Rattle.std.specs.Prelude.{◌≡◌, ℕ, true, false, List, ◌++◌, Option, None, Some, Result, Ok, Err}
use Rattle.calm_rounds.specs.Machine.{run}
use Rattle.network_flight.specs.Runs.{crowds, uncrowded, text_of}
use Rattle.network_flight.specs.Steps.{Step, machine}
use Rattle.network_flight.specs.Worlds.{World}
use Rattle.network_replay.specs.Agreeing.{NetworkState, Agrees}
use Rattle.network_replay.specs.Following.{Seen}
use Rattle.network_replay.specs.declared.world_err.WorldErr.{WorldErr}
use Rattle.network_replay.specs.declared.world_err.WorldErr.TheVariants.{Crowded, NoMemory}

-- all were made, and the whole text was written; or one would lead to a crowded world, and exactly the text of those before it
-- was written; or memory ran out, and a prefix of the text was written
abbrev pub Ran : {R : Type 0} → Seen R → ℕ → List (List ℕ) → Result (Unit {0}) WorldErr → List ℕ → List ℕ → NetworkState R → List Step → World → Type 0
Ran see q names (Ok _) before after v ss w = (crowds q ss w ≡ false) × Agrees see q v (run (machine q) ss w) × (after ≡ before ++ text_of q names ss w)
Ran see q names (Err Crowded) before after v ss w = (crowds q ss w ≡ true) × (after ≡ before ++ text_of q names (uncrowded q ss w) w)
Ran see q names (Err NoMemory) before after v ss w = (rest : List ℕ) × (before ++ text_of q names ss w ≡ after ++ rest)

-- a network made these steps, from each world that agrees with it
abbrev pub Makes : {R : Type 0} → Seen R → NetworkState R → Result (Unit {0}) WorldErr → List ℕ → List ℕ → NetworkState R → (ℕ → World → List Step) → Type 0
Makes see old r before after new steps = (q : ℕ) (w : World) → Agrees see q old w → Ran see q old.names r before after new (steps q w) w

-- what changes no longer from then on
abbrev pub refusal_of : {T : Type 0} → Result T WorldErr → Option WorldErr
refusal_of (Ok _) = None
refusal_of (Err e) = Some e

-- what a step changes nothing of, unless it switches the trace
pub record IsSame {R : Type 0} (old new : NetworkState R) : Type 0 where
  pub names : new.names ≡ old.names
  pub quarter : new.quarter ≡ old.quarter
  pub trace : new.trace ≡ old.trace
