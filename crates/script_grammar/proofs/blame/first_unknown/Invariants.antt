use Rattle.std.proofs.Common.{◌≡◌, ◌+◌, length, map}
use Rattle.script_grammar.specs.Known.{unknown_from}
use Rattle.script_grammar.proofs.blame.first_unknown.Given as goal

-- the words before are no names, or known
abbrev pub invariant-loop-rest : goal.invariant-loop-rest
invariant-loop-rest g l = (l.place + length l.rest ≡ length l.words) × (unknown_from (g.B.LinesBefore.lines l.before) l.kind l.place (map (λ w. w.now) l.rest)
    ≡ unknown_from (g.B.LinesBefore.lines l.before) l.kind 0 (map (λ w. w.now) l.words))

abbrev pub decreases-loop-rest : goal.decreases-loop-rest
decreases-loop-rest g l = length l.rest
