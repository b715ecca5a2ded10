-- The trees in force: those of the `hop` lines, until one moves.
use Rattle.std.specs.Prelude.{◌≡◌, List, Option, None, Some}
use Rattle.tree_model.specs.declared.hops.TreeHop.{TreeHop}
use Rattle.tree_model.specs.Networks.{Net}
use Rattle.script_grammar.specs.Draft.{with_hops}

-- the hops in force, behind those that are declared
abbrev pub hops_in_force : Option Net → List TreeHop → List TreeHop
hops_in_force None declared = declared
hops_in_force (Some routing) declared = routing.hops

-- the routing is the declared network with these or other hops
abbrev pub IsOfNet : Net → Net → Type 0
IsOfNet declared routing = routing ≡ with_hops declared routing.hops
