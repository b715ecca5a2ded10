use Rattle.std.proofs.Common.{◌≡◌, drop, map as each}
use Rattle.std.specs.List.{list_all}
use Rattle.tree_routing.specs.Found.{is_free}
use Rattle.tree_routing.specs.Known.{link_ends}
use Rattle.tree_routing.proofs.ask.are_free.Given as goal

-- the rest decides
abbrev pub invariant-loop-end : goal.invariant-loop-end
invariant-loop-end l = list_all (is_free l.ends (each link_ends l.links)) (drop l.end-index l.link) ≡ list_all (is_free l.ends (each link_ends l.links)) l.link
