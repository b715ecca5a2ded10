use Rattle.std.proofs.Common.{◌≡◌, ◌++◌, drop}
use Rattle.std.specs.List.{flat_map}
use Rattle.network_demand.specs.Late.{starved_at}
use Rattle.network_demand.proofs.late.add_starved_of.Given as goal

-- what is found and what the rest finds is all
abbrev pub invariant-loop-end : goal.invariant-loop-end
invariant-loop-end l = l.found.items ++ flat_map (starved_at l.ends l.begun l.late l.asker.want) (drop l.end-index l.asker.ends.items)
    ≡ l.fn.found.items ++ flat_map (starved_at l.ends l.begun l.late l.asker.want) l.asker.ends.items
