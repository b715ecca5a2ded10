use Rattle.std.proofs.Common.{◌≡◌, drop, max}
use Rattle.network_demand.specs.Misfits.{largest_of}
use Rattle.network_demand.proofs.sums.largest.Given as goal

-- the largest so far and of the rest
abbrev pub invariant-loop-entry : goal.invariant-loop-entry
invariant-loop-entry l = max l.most (largest_of (drop l.entry-index l.entries)) ≡ largest_of l.entries
