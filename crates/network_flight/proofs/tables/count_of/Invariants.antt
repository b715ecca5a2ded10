use Rattle.std.proofs.Common.{◌≡◌, ◌+◌, length, drop}
use Rattle.tree_model.specs.Networks.{ends_from, ends_of}
use Rattle.network_flight.proofs.tables.count_of.Given as goal

-- those so far and those of the rest are all
abbrev pub invariant-loop-end : goal.invariant-loop-end
invariant-loop-end l = l.count + length (ends_from l.end-index (drop l.end-index l.ends) l.node) ≡ length (ends_of l.ends l.node)
