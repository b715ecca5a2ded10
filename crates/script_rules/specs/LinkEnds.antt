-- What is asked of the ends of a link, by their names.
use Rattle.std.specs.Prelude.{ℕ, Bool, true, false, not, ◌&&◌, ◌==◌, List, [], ◌∷◌, Option, None, Some, is_some}
use Rattle.std.specs.List.{list_any}
use Rattle.tree_model.specs.Networks.{node_of}
use Rattle.tree_model.specs.declared.hops.End.{End}
use Rattle.script_grammar.specs.Draft.{Draft, end_named}

-- the node of an end, where it was declared
abbrev pub node_in : List End → Option ℕ → Option ℕ
node_in ends None = None
node_in ends (Some e) = Some (node_of ends e)

abbrev pub node_at : Draft → List ℕ → Option ℕ
node_at d name = node_in d.net.ends (end_named d name)

-- both are there, and the same
abbrev pub meet : Option ℕ → Option ℕ → Bool
meet None n = false
meet (Some m) None = false
meet (Some m) (Some n) = m == n

abbrev pub is_at : Draft → Option ℕ → List ℕ → Bool
is_at d node name = meet node (node_at d name)

-- no two of those that were declared are of one node
abbrev pub are_apart : Draft → List (List ℕ) → Bool
are_apart d [] = true
are_apart d (name ∷ names) = not (list_any (is_at d (node_at d name)) names) && are_apart d names

abbrev pub is_known : Draft → List ℕ → Bool
is_known d name = is_some (end_named d name)
