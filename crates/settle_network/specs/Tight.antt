-- Three rounds are too few: a node alone with a left-over path, and rounds that are as short as calm rounds can be.
use Rattle.std.specs.Prelude.{◌≡◌, List, [], ◌∷◌, codes}
use Rattle.calm_rounds.specs.Rounds.{Rounds, run_rounds}
use Rattle.router_rules.specs.Inputs.{StalePath}
use Rattle.router_examples.specs.ThreeRouters.{first, s1, session}
use Rattle.tree_model.specs.Networks.{Net}
use Rattle.tree_model.specs.Ranks.{longest}
use Rattle.network_model.specs.Bounds.{AreBounds}
use Rattle.network_model.specs.Rows.{end_of}
use Rattle.network_model.specs.Runs.{Plan, first_world}
use Rattle.network_model.specs.Sound.{ArePathsSound}
use Rattle.network_model.specs.Steps.{Piece, Step, machine}
use Rattle.network_model.specs.Worlds.{World}
use Rattle.settle_resvs.specs.Example.{stale_path}

abbrev pub lone_net : Net
lone_net = record { nodes = 1; ends = end_of 0 s1 ∷ []; links = []; hops = [] }

abbrev pub lone_plan : Plan
lone_plan = record { quarter = 7500; seed = 1; net = lone_net; names = codes "s1" ∷ []; stale = (0, StalePath (session, first) stale_path) ∷ []; events = [] }

abbrev pub lone_world : World
lone_world = first_world lone_plan

-- a round of one and a half refresh periods
abbrev pub short_round : List Step
short_round = Piece 15000 ∷ Piece 15000 ∷ Piece 15000 ∷ []

abbrev pub three_rounds : List (List Step)
three_rounds = short_round ∷ short_round ∷ short_round ∷ []

-- where no hop is, paths are sound after 4 rounds, and not always after 3
pub record ThreeRoundsAreTooFew : Type 0 where
  pub bounds : AreBounds 7500 lone_world
  pub no_hop : longest lone_world.net ≡ 0
  pub rounds : Rounds (machine 7500) three_rounds lone_world
  pub still : ArePathsSound (run_rounds (machine 7500) three_rounds lone_world) → ⊥
