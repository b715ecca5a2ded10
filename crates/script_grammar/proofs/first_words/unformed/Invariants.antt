use Rattle.std.proofs.Common.{◌≡◌, ◌+◌, length, map}
use Rattle.script_grammar.specs.FirstWords.{unformed_from}
use Rattle.script_grammar.proofs.first_words.unformed.Given as goal

-- the words before have their forms
abbrev pub invariant-loop-rest : goal.invariant-loop-rest
invariant-loop-rest l = (l.place + length l.rest ≡ length l.words) × (unformed_from l.kind l.place (map (λ w. w.now) l.rest) ≡ unformed_from l.kind 0 (map (λ w. w.now) l.words))

abbrev pub decreases-loop-rest : goal.decreases-loop-rest
decreases-loop-rest l = length l.rest
