-- Whether steps crowd a world, one after the other.
use Rattle.std.proofs.Common.{◌≡◌, ℕ, List, [], ◌∷◌, ◌++◌, Bool, true, false, refl}
use Rattle.calm_rounds.specs.Machine.{run}
use Rattle.network_flight.specs.Runs.{is_crowded, crowds}
use Rattle.network_flight.specs.Steps.{Step, step, machine}
use Rattle.network_flight.specs.Worlds.{World}

module _ (q : ℕ) where
  pub run_append : (ss ts : List Step) (w : World) → run (machine q) (ss ++ ts) w ≡ run (machine q) ts (run (machine q) ss w)
  run_append [] ts w = refl
  run_append (s ∷ ss) ts w = run_append ss ts (step q s w)

  pub crowds_first : (ss ts : List Step) (w : World) → crowds q ss w ≡ true → crowds q (ss ++ ts) w ≡ true
  crowds_first [] ts w e = absurd (cc)
  crowds_first (s ∷ ss) ts w e = by (is_crowded (step q s w)) refl (λ h. crowds_first ss ts (step q s w) h) e
    where
      by : (b : Bool) → is_crowded (step q s w) ≡ b → (crowds q ss (step q s w) ≡ true → crowds q (ss ++ ts) (step q s w) ≡ true) → crowds q (s ∷ ss) w ≡ true → crowds q (s ∷ (ss ++ ts)) w ≡ true
      by true t more e = rw t refl
      by false t more e = rw t (more (rw t at e))

  pub crowds_later : (ss ts : List Step) (w : World) → crowds q ss w ≡ false → crowds q (ss ++ ts) w ≡ crowds q ts (run (machine q) ss w)
  crowds_later [] ts w e = refl
  crowds_later (s ∷ ss) ts w e = by (is_crowded (step q s w)) refl (λ h. crowds_later ss ts (step q s w) h) e
    where
      by : (b : Bool) → is_crowded (step q s w) ≡ b → (crowds q ss (step q s w) ≡ false → crowds q (ss ++ ts) (step q s w) ≡ crowds q ts (run (machine q) ss (step q s w)))
          → crowds q (s ∷ ss) w ≡ false
          → crowds q (s ∷ (ss ++ ts)) w ≡ crowds q ts (run (machine q) ss (step q s w))
      by true t more e = absurd (let z : true ≡ false = rw t at e in cc)
      by false t more e = rw t (more (rw t at e))
