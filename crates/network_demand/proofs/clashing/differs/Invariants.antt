use Rattle.std.proofs.Common.{take}
use Rattle.std.specs.List.{All}
use Rattle.network_demand.specs.Misfits.{IsOtherStyle}
use Rattle.network_demand.proofs.clashing.differs.Given as goal

-- none of those so far is of another style
abbrev pub invariant-loop-other : goal.invariant-loop-other
invariant-loop-other l = All (λ v. ¬ IsOtherStyle v l.want) (take l.other-index l.wants)
