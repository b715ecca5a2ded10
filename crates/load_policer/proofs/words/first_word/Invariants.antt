use Rattle.std.proofs.Common.{◌≡◌, length}
use Rattle.script_words.specs.Words.{words_of}
use Rattle.load_policer.proofs.words.first_word.Given as goal

-- the words of the rest are those of the line
abbrev pub invariant-loop-part : goal.invariant-loop-part
invariant-loop-part l =
    record {
      words : words_of l.rest ≡ words_of l.line;
    }

abbrev pub decreases-loop-part : goal.decreases-loop-part
decreases-loop-part l = length l.rest
