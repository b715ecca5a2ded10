-- The rounds of a script's command, as a list of rounds.
use Rattle.std.specs.Prelude.{◌≡◌, ℕ, List, [], ◌∷◌, length}
use Rattle.std.proofs.Common.{zero, suc}
use Rattle.calm_rounds.specs.Machine.{run}
use Rattle.calm_rounds.specs.Rounds.{Rounds}
use Rattle.network_model.specs.Bounds.{all_of}
use Rattle.network_model.specs.Events.{a_round, rounds}
use Rattle.network_model.specs.Steps.{Step, machine}
use Rattle.network_model.specs.Worlds.{World}

abbrev pub rounds_of : ℕ → ℕ → World → List (List Step)
rounds_of q zero w = []
rounds_of q (suc n) w = a_round q w ∷ rounds_of q n (run (machine q) (a_round q w) w)

-- the steps of the command are so many calm rounds, one after the other
pub record RoundsIsCalm (q n : ℕ) (w : World) : Type 0 where
  pub steps : rounds q n w ≡ all_of (rounds_of q n w)
  pub number : length (rounds_of q n w) ≡ n
  pub calm : Rounds (machine q) (rounds_of q n w) w
