-- What is claimed of each world and each step of the run of a script.
use Rattle.std.specs.Prelude.{◌≡◌, ℕ, List, ◌∷◌, ◌++◌}
use Rattle.calm_rounds.specs.Hold.{Visited}
use Rattle.calm_rounds.specs.Machine.{run}
use Rattle.network_model.specs.Runs.{Plan, first_world, steps_of_run}
use Rattle.network_model.specs.Steps.{Step, machine}
use Rattle.network_model.specs.Worlds.{World}
use Rattle.laws_network.specs.Runs.{IsFitRun}

-- P holds of the first world and of the world after each step
abbrev pub InEveryWorld : (World → Type 0) → Type 0
InEveryWorld P = (p : Plan) → IsFitRun p → Visited (machine p.quarter) P (steps_of_run p) (first_world p)

-- C holds of each step, in the world in which it is made, with the quarter of the period
abbrev pub AtEveryStep : (ℕ → Step → World → Type 0) → Type 0
AtEveryStep C =
    (p : Plan) → IsFitRun p → (ss : List Step) (s : Step) (ts : List Step) → steps_of_run p ≡ ss ++ s ∷ ts → C p.quarter s (run (machine p.quarter) ss (first_world p))
