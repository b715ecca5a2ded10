use Rattle.std.proofs.Common.{◌≡◌, ◌+◌, length, map}
use Rattle.script_grammar.specs.Blames.{comment_from}
use Rattle.script_grammar.proofs.forms.comment_place.Given as goal

-- the words before begin no comment
abbrev pub invariant-loop-rest : goal.invariant-loop-rest
invariant-loop-rest l = (l.place + length l.rest ≡ length l.words) × (comment_from l.place (map (λ w. w.now) l.rest) ≡ comment_from 0 (map (λ w. w.now) l.words))

abbrev pub decreases-loop-rest : goal.decreases-loop-rest
decreases-loop-rest l = length l.rest
