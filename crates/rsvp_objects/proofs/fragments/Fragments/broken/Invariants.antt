use Rattle.std.proofs.Common.{◌≡◌, ◌++◌, drop, length}
use Rattle.rsvp_objects.specs.Fragment.{marked}
use Rattle.rsvp_objects.proofs.fragments.Fragments.broken.Given as goal

abbrev pub invariant-loop-word : goal.invariant-loop-word
invariant-loop-word l = record {
  text : l.words.items ++ marked l.due (drop l.word-index l.all) ≡ marked 0 l.all;
  room : length l.words.items ≡ l.word-index;
}
