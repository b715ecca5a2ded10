use Rattle.std.proofs.Common.{◌≡◌, ◌+◌, ◌≤◌, length, slice_get}
use Rattle.script_words.specs.Parts.{parts_of}
use Rattle.value_texts.specs.Places.{placed_from, word_at}
use Rattle.value_texts.proofs.place.word_at.Given as goal

-- the word that is sought is the one of this number among those of the rest
abbrev pub invariant-loop-part : goal.invariant-loop-part
invariant-loop-part l =
    record {
      rest : slice_get (placed_from l.column (parts_of 32 l.rest)) l.left ≡ word_at l.line l.number;
      column : l.column + length l.rest ≤ length l.line + 1;
    }

abbrev pub decreases-loop-part : goal.decreases-loop-part
decreases-loop-part l = length l.rest
