-- What each world within bounds has, each world of a run has.
use Rattle.std.proofs.Common.{ℕ, List, [], ◌∷◌, subst}
use Rattle.std.specs.Prelude.{◌++◌}
use Rattle.calm_rounds.specs.Hold.{Visited}
use Rattle.calm_rounds.specs.Machine.{run}
use Rattle.calm_rounds.proofs.Holding.{visited_map}
use Rattle.network_model.specs.Bounds.{AreBounds}
use Rattle.network_model.specs.Runs.{first_world, steps_of_run}
use Rattle.network_model.specs.Steps.{Step, machine, step}
use Rattle.network_model.specs.Worlds.{World}
use Rattle.laws_network.proofs.Runs.{each_world_of_a_run_is_within_bounds}
use Rattle.laws_safety.specs.InRuns.{InEveryWorld, AtEveryStep}

at_step : (q : ℕ) (P : World → Type 0) (ss : List Step) (s : Step) (ts : List Step) (w : World) → Visited (machine q) P (ss ++ s ∷ ts) w → P (run (machine q) ss w)
at_step q P [] s ts w v = v.0
at_step q P (x ∷ ss) s ts w v = at_step q P ss s ts (step q x w) v.1

pub at_every_step : (C : ℕ → Step → World → Type 0) → ((q : ℕ) (s : Step) (w : World) → AreBounds q w → C q s w) → AtEveryStep C
at_every_step C every p fit ss s ts parts =
    every p.quarter s (run (machine p.quarter) ss (first_world p))
    (at_step p.quarter (AreBounds p.quarter) ss s ts (first_world p) (subst (λ (z : List Step). Visited (machine p.quarter) (AreBounds p.quarter) z (first_world p)) parts
    (each_world_of_a_run_is_within_bounds p fit)))

pub in_every_world : (P : World → Type 0) → ((q : ℕ) (w : World) → AreBounds q w → P w) → InEveryWorld P
in_every_world P every p fit = visited_map (machine p.quarter) (AreBounds p.quarter) P (every p.quarter) (steps_of_run p) (first_world p) (each_world_of_a_run_is_within_bounds p fit)
