use Rattle.std.proofs.Common.{◌≡◌, ◌++◌, drop}
use Rattle.std.specs.List.{flat_map}
use Rattle.network_demand.specs.Late.{starved_of}
use Rattle.network_demand.proofs.late.add_starved_by.Given as goal

-- what is found and what the rest finds is all
abbrev pub invariant-loop-asker : goal.invariant-loop-asker
invariant-loop-asker l = l.found.items ++ flat_map (starved_of l.ends l.begun l.late) (drop l.asker-index l.askers) ≡ l.fn.found.items ++ flat_map (starved_of l.ends l.begun l.late) l.askers
