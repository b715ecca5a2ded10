-- What may be left over at the nodes of a network before anything happened.
use Rattle.std.specs.Prelude.{ℕ, List}
use Rattle.std.specs.List.{All}
use Rattle.network_model.specs.Worlds.{config_of}
use Rattle.router_rules.specs.NodeConfig.{NodeConfig}
use Rattle.router_rules.specs.Steps.{IsFitStale}
use Rattle.tree_model.specs.Networks.{Net}
use Rattle.tree_model.specs.Trees.{trees_of}
use Rattle.stale_state.specs.Kept.{stale_of}
use Rattle.stale_state.specs.declared.fact.LeftOver.{LeftOver}

-- where a node of the network stands, with a route for each tree
abbrev pub place_of : ℕ → Net → ℕ → NodeConfig
place_of q net n = config_of q net (trees_of net.hops) n

-- each lives no longer than a fact that was just refreshed at its node, and has the shape of one
abbrev pub AreFitAll : ℕ → Net → List LeftOver → Type 0
AreFitAll q net ls = All (λ l. IsFitStale (place_of q net l.node) 0 (stale_of l.fact l.left)) ls
