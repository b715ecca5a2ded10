use Rattle.std.proofs.Common.{take}
use Rattle.std.specs.List.{All}
use Rattle.script_rules.specs.Said.{draft_of}
use Rattle.script_rules.specs.Asking.{IsDeclared}
use Rattle.script_rules.proofs.reroute.are_declared.Given as goal

-- those so far are between declared ends
abbrev pub invariant-loop-ends : goal.invariant-loop-ends
invariant-loop-ends l = All (IsDeclared (draft_of l.state)) (take l.ends-index l.pairs)
