use Rattle.std.proofs.Common.{◌≡◌, ◌++◌, drop}
use Rattle.std.specs.List.{flat_map}
use Rattle.network_demand.specs.Late.{starved, starved_by}
use Rattle.network_demand.proofs.late.starved_among.Given as goal

-- what is found and what the rest finds is all
abbrev pub invariant-loop-late : goal.invariant-loop-late
invariant-loop-late l = l.found.items ++ flat_map (starved_by l.ends l.begun l.askers) (drop l.late-index l.begun) ≡ starved l.ends l.begun l.askers
