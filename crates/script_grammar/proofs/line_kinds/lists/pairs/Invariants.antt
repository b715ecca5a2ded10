use Rattle.std.proofs.Common.{◌≡◌, ◌++◌, option_map, length, map}
use Rattle.script_grammar.specs.LineKinds.{pairs_of}
use Rattle.script_grammar.proofs.line_kinds.lists.pairs.Given as goal

-- what was read, and then what the rest reads as
abbrev pub invariant-loop-rest : goal.invariant-loop-rest
invariant-loop-rest l = option_map (λ xs. l.hops.items ++ xs) (pairs_of (map (λ w. w.now) l.rest)) ≡ pairs_of (map (λ w. w.now) l.words)

abbrev pub decreases-loop-rest : goal.decreases-loop-rest
decreases-loop-rest l = length l.rest
