-- What may be left over at the nodes of a network, and a router that has it.
use Rattle.std.specs.Prelude.{◌≡◌, ℕ, List}
use Rattle.std.specs.List.{All}
use Rattle.stale_state.specs.Fit.{place_of}
use Rattle.stale_state.specs.Kept.{stale_of}
use Rattle.stale_state.specs.declared.fact.LeftOver.{LeftOver}
use Rattle.network_model.specs.Runs.{left_over}
use Rattle.router_state.specs.State.{State, facts_at}
use Rattle.router_rules.specs.Facts.{no_facts}
use Rattle.router_rules.specs.Inputs.{Stale}
use Rattle.router_rules.specs.NodeConfig.{NodeConfig}
use Rattle.router_rules.specs.Steps.{IsFitStale}
use Rattle.tree_model.specs.Networks.{Net}

-- if the fact is of this node, it may be left over where the node stands
abbrev pub IsFitAt : NodeConfig → ℕ → LeftOver → Type 0
IsFitAt p n l = l.node ≡ n → IsFitStale p 0 (stale_of l.fact l.left)

abbrev pub AreFitAt : NodeConfig → ℕ → List LeftOver → Type 0
AreFitAt p n ls = All (IsFitAt p n) ls

-- the router of a node stands where the network has it, and keeps what is left over at it
pub record IsOpened (q : ℕ) (net : Net) (ss : List (ℕ × Stale)) (n : ℕ) (r : State) : Type 0 where
  pub place : r.place ≡ place_of q net n
  pub facts : facts_at 0 r ≡ left_over (place_of q net n) n ss no_facts
