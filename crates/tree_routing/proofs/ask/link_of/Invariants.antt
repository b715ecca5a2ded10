use Rattle.std.proofs.Common.{◌≡◌, drop, map as each}
use Rattle.tree_model.specs.Networks.{link_of}
use Rattle.tree_routing.specs.Known.{link_ends}
use Rattle.tree_routing.proofs.ask.link_of.Given as goal

-- the link is among the rest
abbrev pub invariant-loop-link : goal.invariant-loop-link
invariant-loop-link l = link_of (each link_ends (drop l.link-index l.links)) l.end ≡ link_of (each link_ends l.links) l.end
