-- What is left over, as a list.
use Rattle.std.specs.Prelude.{ℕ, List, length}
use Rattle.router_rules.specs.Inputs.{Stale}
use Rattle.tree_model.specs.declared.hops.End.{End}
use Rattle.stale_state.specs.AtNodes.{AreBooksOf, list_of}
use Rattle.stale_state.specs.declared.fact.Left.{Left}
use Rattle.stale_state.specs.declared.fact.LeftOver.{LeftOver}
use Rattle.stale_state.specs.declared.leavings.Leavings.{Leavings}

-- the facts, in the order in which they were added
abbrev pub facts_in : Leavings → List LeftOver
facts_in l = l.facts.items

abbrev pub left_at : ℕ → Left → ℕ → LeftOver
left_at node fact left = record { node = node; fact = fact; left = left }

-- each with its node, in the order in which they were added
abbrev pub stale_in : Leavings → List (ℕ × Stale)
stale_in l = list_of l.facts.items

-- how many nodes there are
abbrev pub nodes_in : Leavings → ℕ
nodes_in l = length l.nodes.items

-- its nodes have these ends
abbrev pub IsOfEnds : List End → Leavings → Type 0
IsOfEnds ends l = AreBooksOf ends l.nodes.items
