-- A network that a seed grew, before its run.
use Rattle.std.specs.Prelude.{◌≡◌, ℕ, true, List, [], ◌++◌}
use Rattle.network_model.specs.DemandTexts.{last_line}
use Rattle.tree_model.specs.Ranks.{longest}
use Rattle.network_model.specs.Runs.{Plan}
use Rattle.grown_network.specs.Grown.{grown_net, grown_plan, rounds_of}
use Rattle.grown_network.specs.Summaries.{demanded}
use Rattle.grown_player.specs.declared.growing.Expected.{Expected}

-- the plan of a seed, before its events
abbrev pub first_plan : ℕ → Plan
first_plan seed = record (grown_plan seed) { events = [] }

-- what is known of the network of a seed
pub record IsExpected (seed : ℕ) (x : Expected) : Type 0 where
  pub wires : x.wires ≡ grown_net seed
  pub longest_is : x.longest ≡ longest (grown_net seed)
  pub rounds : x.rounds ≡ rounds_of seed
  pub demand : x.demand.items ≡ demanded seed ++ last_line (longest (grown_net seed)) true
