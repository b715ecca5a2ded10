use Rattle.std.proofs.Common.{◌≡◌, ℕ, ◌-◌, ◌^◌, ◌≤◌, ◌++◌, List, [], length, min}
use Rattle.std.specs.Vec.{vec_capacity}
use Rattle.line_advice.specs.Blamed.{most_advice}
use Rattle.script_words.specs.Lines.{text_lines}
use Rattle.message_show.specs.ShowLines.{AreShown}
use Rattle.message_show.proofs.lines.show.Given as goal

-- what is written is what is shown of the lines before
abbrev pub invariant-loop-line : goal.invariant-loop-line
invariant-loop-line l =
    record {
      before : List (List ℕ);
      parts : text_lines l.input ≡ before ++ text_lines l.rest;
      number : l.number ≡ min (length before) (2 ^ 32 - 1);
      shown : AreShown before l.out.items;
      room : length l.room ≡ 4097;
      quiet : l.advice.items ≡ [];
      roomy : most_advice ≤ vec_capacity l.advice;
    }

abbrev pub decreases-loop-line : goal.decreases-loop-line
decreases-loop-line l = length l.rest
