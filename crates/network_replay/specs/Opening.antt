-- A network before anything happened.
use Rattle.std.specs.Prelude.{◌≡◌, ℕ, List, map as each}
use Rattle.std.specs.List.{range_with_len}
use Rattle.network_flight.specs.Runs.{Plan, first_facts}
use Rattle.network_flight.specs.Worlds.{config_of}
use Rattle.router_rules.specs.NodeConfig.{NodeConfig}
use Rattle.tree_model.specs.Networks.{Net}
use Rattle.tree_model.specs.Trees.{trees_of}
use Rattle.network_replay.specs.Following.{Seen}

-- each node stands where the network has it, with a route for each tree
abbrev pub ArePlaced : ℕ → Net → List NodeConfig → Type 0
ArePlaced q net places = places ≡ each (config_of q net (trees_of net.hops)) (range_with_len 0 net.nodes)

-- each node has what is left over at it, at the moment 0
abbrev pub AreFirst : {R : Type 0} → Seen R → Plan → List R → Type 0
AreFirst see p rs = each (λ r. see.facts r 0) rs ≡ each (first_facts p) (range_with_len 0 p.net.nodes)

-- a plan of this network, these names of its ends, and words that start so
pub record IsOpenedBy (p : Plan) (quarter seed : ℕ) (net : Net) (names : List (List ℕ)) : Type 0 where
  pub quarter_is : p.quarter ≡ quarter
  pub seed_is : p.seed ≡ seed
  pub net_is : p.net ≡ net
  pub names_is : p.names ≡ names
