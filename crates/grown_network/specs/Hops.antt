-- All hops that lead away from a node: over each link one.
use Rattle.std.specs.Prelude.{ℕ, not, ◌==◌, List, [], ◌∷◌, ◌++◌, map as each, if◌then◌else◌}
use Rattle.std.proofs.Common.{zero, suc}
use Rattle.std.specs.List.{filter, range_with_len}
use Rattle.tree_model.specs.declared.hops.LinkHop.{LinkHop}
use Rattle.tree_model.specs.Networks.{among}
use Rattle.grown_network.specs.Nodes.{above, down_end, up_end}

abbrev pub hop_up : ℕ → LinkHop
hop_up k = record { from = up_end k; to = down_end k }

abbrev pub hop_down : ℕ → LinkHop
hop_down k = record { from = down_end k; to = up_end k }

-- the node itself, the one above it and so on, so many, as long as node 0 is not reached
abbrev pub climb : ℕ → ℕ → List ℕ
climb zero k = []
climb (suc n) k = if k == 0 then [] else k ∷ climb n (above k)

-- the nodes on the way from node r up to node 0; none of the 64 nodes is more than six links below it
unfoldable pub way_up : ℕ → List ℕ
way_up r = climb 6 r

-- down to those of the nodes from 1 to n that are not on the way, in order
unfoldable pub hops_down : List ℕ → ℕ → List LinkHop
hops_down way n = each hop_down (filter (λ k. not (among k way)) (range_with_len 1 n))

-- up to node 0, and down over every other link
unfoldable pub hops_away : ℕ → List LinkHop
hops_away r = each hop_up (way_up r) ++ hops_down (way_up r) 63
