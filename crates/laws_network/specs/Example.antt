-- A small network within bounds: two nodes on one link, a tree of one hop, and a sender whose first Path is on its way.
use Rattle.std.specs.Prelude.{ℕ, [], ◌∷◌, false}
use Rattle.calm_rounds.specs.Rounds.{Rounds}
use Rattle.calm_rounds.specs.Hold.{Hold}
use Rattle.network_model.specs.RouterRules.Facts.{no_facts}
use Rattle.network_model.specs.RouterRules.Inputs.{SendAs}
use Rattle.network_model.specs.ThreeRouters.{s1, r1, group, session, first, usual}
use Rattle.tree_model.specs.Networks.{Net}
use Rattle.network_model.specs.Bounds.{AreBounds}
use Rattle.network_model.specs.Rows.{end_of, hop_of}
use Rattle.network_model.specs.Steps.{At, step, machine}
use Rattle.network_model.specs.Worlds.{World}
use Rattle.laws_network.specs.Rounds.{rounds_of}

abbrev pub pair_net : Net
pair_net = record { nodes = 2; ends = end_of 0 s1 ∷ end_of 1 r1 ∷ []; links = (0 ∷ 1 ∷ []) ∷ []; hops = hop_of 0 1 ∷ [] }

abbrev pub quiet_world : World
quiet_world = record { net = pair_net; trees = (group, s1) ∷ []; clock = 0; nodes = no_facts ∷ no_facts ∷ []; words = 1; trace = false; delivered = 0; made = 0; flight = [] }

-- a host at the first node begins to send
abbrev pub sending_world : World
sending_world = step 7500 (At 0 (SendAs session first usual)) quiet_world

pub record APairStaysWithinBounds : Type 0 where
  pub quiet : AreBounds 7500 quiet_world
  pub bounds : AreBounds 7500 sending_world
  -- however many rounds, they are calm; and through the first of them each world is within bounds
  pub rounds : (k : ℕ) → Rounds (machine 7500) (rounds_of 7500 k sending_world) sending_world
  pub one_round : Hold (machine 7500) 0 (rounds_of 7500 1 sending_world) sending_world (AreBounds 7500)
