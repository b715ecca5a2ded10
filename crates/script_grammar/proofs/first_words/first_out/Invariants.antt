use Rattle.std.proofs.Common.{◌≡◌, ℕ, ◌+◌, Option, length, map}
use Rattle.script_grammar.specs.FirstWords.{IsFirstOut, IsOutFrom}
use Rattle.script_grammar.proofs.first_words.first_out.Given as goal

-- the words before are in range
abbrev pub invariant-loop-rest : goal.invariant-loop-rest
invariant-loop-rest l =
    record {
      counted : l.place + length l.rest ≡ length l.words;
      before : (found : Option ℕ) → IsOutFrom l.period l.kind l.place (map (λ w. w.now) l.rest) found → IsFirstOut l.period l.kind (map (λ w. w.now) l.words) found;
    }

abbrev pub decreases-loop-rest : goal.decreases-loop-rest
decreases-loop-rest l = length l.rest
