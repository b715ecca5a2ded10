-- Rounds that are too few, in rounds as short as calm rounds can be.
use Rattle.std.specs.Prelude.{List, [], ◌∷◌}
use Rattle.calm_rounds.specs.Hold.{Hold}
use Rattle.calm_rounds.specs.Rounds.{Rounds, run_rounds}
use Rattle.network_model.specs.Bounds.{AreBounds}
use Rattle.network_model.specs.Sound.{HasNoFlowError, IsFreeOfBlockade}
use Rattle.network_model.specs.Steps.{Piece, Step, machine}
use Rattle.settle_resvs.specs.BlockadeExample.{wall_world}

-- ---- half a period, and a round of one and a half in which nothing arrives
abbrev pub half : Step
half = Piece 15000

abbrev pub still_round : List Step
still_round = half ∷ half ∷ half ∷ []

-- ---- blockades are gone after three rounds without errors, and not always after two
abbrev pub two_rounds : List (List Step)
two_rounds = still_round ∷ still_round ∷ []

pub record TwoRoundsAreTooFew : Type 0 where
  pub bounds : AreBounds 7500 wall_world
  pub rounds : Rounds (machine 7500) two_rounds wall_world
  pub no_error : Hold (machine 7500) 0 two_rounds wall_world HasNoFlowError
  pub still : IsFreeOfBlockade (run_rounds (machine 7500) two_rounds wall_world) → ⊥
