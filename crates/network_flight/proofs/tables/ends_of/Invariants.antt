use Rattle.std.proofs.Common.{◌≡◌, ◌++◌, drop}
use Rattle.tree_model.specs.Networks.{ends_from, ends_of}
use Rattle.network_flight.proofs.tables.ends_of.Given as goal

-- those so far and those of the rest are all
abbrev pub invariant-loop-number : goal.invariant-loop-number
invariant-loop-number l = l.found.items ++ ends_from l.number (drop l.number l.ends) l.node ≡ ends_of l.ends l.node
