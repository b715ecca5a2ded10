use Rattle.std.proofs.Common.{◌≡◌, ℕ, ◌+◌, Option, length, map}
use Rattle.script_grammar.specs.Breaks.{IsFirstLinked, IsLinkedFrom}
use Rattle.script_grammar.proofs.breaks.first_linked.Given as goal

-- the ends before are in no link
abbrev pub invariant-loop-rest : goal.invariant-loop-rest
invariant-loop-rest g l =
    record {
      counted : l.place + length l.rest ≡ length l.names;
      before : (found : Option ℕ) → IsLinkedFrom (g.B.LinesBefore.lines l.before) l.place (map (λ w. w.now) l.rest) found
          → IsFirstLinked (g.B.LinesBefore.lines l.before) (map (λ w. w.now) l.names) found;
    }

abbrev pub decreases-loop-rest : goal.decreases-loop-rest
decreases-loop-rest g l = length l.rest
