use Rattle.std.proofs.Common.{◌≡◌, ◌≤◌, ◌++◌, map, length}
use Rattle.std.specs.Vec.{vec_capacity}
use Rattle.script_words.specs.Words.{words_of}
use Rattle.script_words.proofs.words.read_words.Given as goal

-- the words so far and those of the rest are the words of the line
abbrev pub invariant-loop-part : goal.invariant-loop-part
invariant-loop-part l =
    record {
      front : map (λ w. w.now) l.words.items ++ words_of l.rest ≡ words_of l.line;
      room : vec_capacity l.fn.words ≤ vec_capacity l.words;
    }

abbrev pub decreases-loop-part : goal.decreases-loop-part
decreases-loop-part l = length l.rest
