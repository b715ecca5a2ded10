-- A test of worlds, computed in each world that rounds visit.
use Rattle.std.proofs.Common.{◌≡◌, List, [], ◌∷◌, Bool, true}
use Rattle.std.specs.Prelude.{ℕ, ◌&&◌}
use Rattle.rsvp_base.proofs.SetLaws.{and_both}
use Rattle.calm_rounds.specs.Hold.{Visited, Hold}
use Rattle.calm_rounds.specs.Machine.{run}
use Rattle.network_model.specs.Steps.{Step, machine, step}
use Rattle.network_model.specs.Worlds.{World}

module _ (q : ℕ) (test : World → Bool) where
  abbrev pub in_steps : List Step → World → Bool
  in_steps [] w = test w
  in_steps (s ∷ ss) w = test w && in_steps ss (step q s w)

  abbrev pub in_rounds : List (List Step) → World → Bool
  in_rounds [] w = test w
  in_rounds (r ∷ rs) w = in_steps r w && in_rounds rs (run (machine q) r w)

  abbrev pub Passes : World → Type 0
  Passes u = test u ≡ true

  visited : (ss : List Step) (w : World) → in_steps ss w ≡ true → Visited (machine q) Passes ss w
  visited [] w t = t
  visited (s ∷ ss) w t = let r = and_both (test w) (in_steps ss (step q s w)) t in (r.0, visited ss (step q s w) r.1)

  pub through : (rs : List (List Step)) (w : World) → in_rounds rs w ≡ true → Hold (machine q) 0 rs w Passes
  through [] w t = t
  through (r ∷ rs) w t = let x = and_both (in_steps r w) (in_rounds rs (run (machine q) r w)) t in (visited r w x.0, through rs (run (machine q) r w) x.1)
