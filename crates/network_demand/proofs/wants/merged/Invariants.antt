use Rattle.std.proofs.Common.{◌≡◌, take, map as each}
use Rattle.style_rules.specs.Tally.{tally_of}
use Rattle.network_demand.specs.Steps.{cuts}
use Rattle.network_demand.proofs.Merged.{unwalled}
use Rattle.network_demand.proofs.wants.merged.Given as goal

-- what was added is what the parts so far leave
abbrev pub invariant-loop-part : goal.invariant-loop-part
invariant-loop-part g l = l.merger ≡ tally_of g.S.Style.kind_is (each unwalled (cuts l.names (take l.part-index l.parts)))
