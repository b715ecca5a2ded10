use Rattle.std.proofs.Common.{◌≡◌, drop}
use Rattle.network_demand.specs.Late.{comes_after}
use Rattle.network_demand.proofs.late.comes_after.Given as goal

-- it comes after among the rest, if among all
abbrev pub invariant-loop-one : goal.invariant-loop-one
invariant-loop-one l = comes_after (drop l.one-index l.begun) l.late l.node ≡ comes_after l.begun l.late l.node
