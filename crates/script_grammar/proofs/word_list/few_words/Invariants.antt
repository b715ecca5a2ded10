use Rattle.std.proofs.Common.{◌≡◌, ◌++◌, ◌≤◌, map, length}
use Rattle.script_words.specs.Words.{words_of}
use Rattle.script_grammar.proofs.word_list.few_words.Given as goal

-- the words so far and those of the rest are the words of the line
abbrev pub invariant-loop-part : goal.invariant-loop-part
invariant-loop-part g l =
    record {
      front : map (λ w. w.now) l.words.items ++ words_of l.rest ≡ words_of l.line;
      few : length l.words.items ≤ g.row.N;
    }

abbrev pub decreases-loop-part : goal.decreases-loop-part
decreases-loop-part g l = length l.rest
