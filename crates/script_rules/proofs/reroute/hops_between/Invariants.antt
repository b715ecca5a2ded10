use Rattle.std.proofs.Common.{◌≡◌, map, take}
use Rattle.script_grammar.specs.Values.{hop_value}
use Rattle.script_rules.specs.Said.{draft_of}
use Rattle.script_rules.proofs.reroute.hops_between.Given as goal

-- those so far are kept
abbrev pub invariant-loop-ends : goal.invariant-loop-ends
invariant-loop-ends l = l.hops.items ≡ map (hop_value (draft_of l.state)) (take l.ends-index l.pairs)
