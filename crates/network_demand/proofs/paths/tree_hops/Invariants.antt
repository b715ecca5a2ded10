use Rattle.std.proofs.Common.{◌≡◌, ◌++◌, drop}
use Rattle.network_demand.specs.Counts.{tree_hops}
use Rattle.network_demand.proofs.paths.tree_hops.Given as goal

-- those so far and of the rest are all
abbrev pub invariant-loop-one : goal.invariant-loop-one
invariant-loop-one l = l.hops.items ++ tree_hops l.routing (drop l.one-index l.order) l.group l.source ≡ tree_hops l.routing l.order l.group l.source
