use Rattle.std.proofs.Common.{◌≡◌, ◌+◌, ◌*◌, ◌++◌, take, length}
use Rattle.std.specs.List.{flat_map}
use Rattle.rsvp_objects.specs.Fields.{word}
use Rattle.rsvp_objects.proofs.adspec_writing.put_words.Given as goal

abbrev pub invariant-loop-word : goal.invariant-loop-word
invariant-loop-word l = record {
  text : l.packet ≡ l.fn.packet ++ flat_map word (take l.word-index l.words);
  room : length l.packet ≡ length l.fn.packet + 4 * l.word-index;
}
