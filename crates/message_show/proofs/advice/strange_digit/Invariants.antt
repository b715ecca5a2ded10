use Rattle.std.proofs.Common.{◌≡◌, ◌+◌, length}
use Rattle.message_show.specs.ShowAdvice.{strange_digit}
use Rattle.message_show.proofs.advice.strange_digit.Given as goal

-- the bytes before are digits
abbrev pub invariant-loop-rest : goal.invariant-loop-rest
invariant-loop-rest l = (l.column + length l.rest ≡ length l.line + 1) × (strange_digit l.column l.rest ≡ strange_digit 1 l.line)

abbrev pub decreases-loop-rest : goal.decreases-loop-rest
decreases-loop-rest l = length l.rest
