use Rattle.std.proofs.Common.{◌<◌, take}
use Rattle.std.specs.List.{All}
use Rattle.network_demand.proofs.allowed.are_inside.Given as goal

-- those so far are
abbrev pub invariant-loop-want : goal.invariant-loop-want
invariant-loop-want l = All (λ w. w.node < l.nodes) (take l.want-index l.wants)
