-- Eight rounds are too few where the longest chain is one hop: a path that is left over where the tree begins is told over the hop
-- as long as it lives, and the last Path of it may come late.
use Rattle.std.specs.Prelude.{◌≡◌, false, List, [], ◌∷◌, codes, length, None}
use Rattle.calm_rounds.specs.Rounds.{Rounds, run_rounds}
use Rattle.router_rules.specs.Facts.{PathState}
use Rattle.router_rules.specs.Inputs.{StalePath}
use Rattle.router_examples.specs.ThreeRouters.{first, r1, session, usual}
use Rattle.tree_model.specs.Ranks.{longest}
use Rattle.network_model.specs.Bounds.{AreBounds}
use Rattle.network_model.specs.Runs.{Plan, first_world}
use Rattle.network_model.specs.Sound.{ArePathsSound}
use Rattle.network_model.specs.Steps.{Copy, Deliver, Lose, Step, machine}
use Rattle.network_model.specs.Worlds.{World}
use Rattle.laws_network.specs.Example.{pair_net}
use Rattle.network_examples.specs.Tight.{half, still_round}

-- the first node of the pair, at which the tree begins, has a path of a sender that nobody is
abbrev pub root_path : PathState
root_path = record { iface = 0; hop = record { addr = r1; handle = 0 }; tspec = usual; police = false; adspec = None; dies = 157500 }

abbrev pub root_plan : Plan
root_plan = record { quarter = 7500; seed = 25; net = pair_net; names = codes "s1" ∷ codes "r1" ∷ []; stale = (0, StalePath (session, first) root_path) ∷ []; events = [] }

abbrev pub root_world : World
root_world = first_world root_plan

-- a Path is sent once a round while the path lives; of that of the fourth round a copy arrives at once, and another one at the end
-- of the fifth; the PathTear that follows is lost
abbrev pub eight_rounds : List (List Step)
eight_rounds =
    (half ∷ half ∷ Deliver 0 ∷ half ∷ [])
    ∷ (half ∷ half ∷ Deliver 0 ∷ half ∷ [])
    ∷ (half ∷ Deliver 0 ∷ half ∷ half ∷ [])
    ∷ (half ∷ Copy 0 ∷ Deliver 0 ∷ half ∷ Lose 1 ∷ half ∷ [])
    ∷ (half ∷ half ∷ half ∷ Deliver 0 ∷ [])
    ∷ still_round
    ∷ still_round
    ∷ still_round
    ∷ []

-- where the longest chain is one hop, paths are sound after 5 + 4 rounds, and not always after 8
pub record EightRoundsAreTooFew : Type 0 where
  pub bounds : AreBounds 7500 root_world
  pub one_hop : longest root_world.net ≡ 1
  pub rounds : Rounds (machine 7500) eight_rounds root_world
  pub number : length eight_rounds ≡ 8
  pub still : ArePathsSound (run_rounds (machine 7500) eight_rounds root_world) → ⊥
