-- What is left over at all nodes: the list, and beside it the tables of each node.
use Rattle.std.specs.Prelude.{◌≡◌, ℕ, List, [], map as each, slice_get, None, Some}
use Rattle.rsvp_base.specs.declared.iface.Iface.{Iface}
use Rattle.router_rules.specs.Inputs.{Stale}
use Rattle.tree_model.specs.Networks.{ends_of}
use Rattle.tree_model.specs.declared.hops.End.{End}
use Rattle.network_model.specs.Worlds.{ifaces_at}
use Rattle.network_model.specs.LeftFacts.{facts_at}
use Rattle.stale_state.specs.Kept.{facts_of, ifaces_of, stale_of}
use Rattle.stale_state.specs.declared.at_node.AtNode.{AtNode}
use Rattle.stale_state.specs.declared.fact.LeftOver.{LeftOver}

abbrev pub entry_of : LeftOver → ℕ × Stale
entry_of l = (l.node, stale_of l.fact l.left)

abbrev pub list_of : List LeftOver → List (ℕ × Stale)
list_of ls = each entry_of ls

-- the tables of each node have the facts of the list that are its own; where there are none, there are no reservations
pub record AreKept (ls : List LeftOver) (ns : List AtNode) : Type 0 where
  pub at : (n : ℕ) (t : AtNode) → slice_get ns n ≡ Some t → facts_of t ≡ facts_at (list_of ls) n
  pub none : ls ≡ [] → (n : ℕ) (t : AtNode) → slice_get ns n ≡ Some t → ifaces_of t ≡ None

-- the interfaces of a node
abbrev pub ifaces_at_node : List End → ℕ → List Iface
ifaces_at_node ends n = ifaces_at ends (ends_of ends n)

-- the books that are kept are those of the interfaces of their nodes
abbrev pub AreBooksOf : List End → List AtNode → Type 0
AreBooksOf ends ns = (n : ℕ) (t : AtNode) (is : List Iface) → slice_get ns n ≡ Some t → ifaces_of t ≡ Some is → is ≡ ifaces_at_node ends n
