use Rattle.std.proofs.Common.{◌≡◌, take}
use Rattle.std.specs.List.{flat_map}
use Rattle.grown_network.specs.Grown.{net_with, tree_of}
use Rattle.grown_network.proofs.growing.add_trees.Given as goal

-- with the trees of the first senders
abbrev pub invariant-loop-sender : goal.invariant-loop-sender
invariant-loop-sender l = l.topology ≡ net_with (flat_map tree_of (take l.sender-index l.senders))
