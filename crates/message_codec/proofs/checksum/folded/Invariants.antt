use Rattle.std.proofs.Common.{◌≡◌, ◌≤◌, ◌+◌, ◌*◌, ◌^◌, length}
use Rattle.message_codec.specs.Sum.{sum_from, words_in, ones_sum}
use Rattle.message_codec.proofs.Closed.{closed, AreSmall}
use Rattle.message_codec.proofs.checksum.folded.Given as goal

abbrev pub invariant-pairs : goal.invariant-pairs
invariant-pairs l = record {
  sum : sum_from (closed l.sum) (words_in l.rest) ≡ ones_sum l.bytes;
  bytes : AreSmall l.rest;
  small : l.sum + 2 ^ 32 * length l.rest ≤ 2 ^ 32 * 4096;
}

abbrev pub decreases-pairs : goal.decreases-pairs
decreases-pairs l = length l.rest

abbrev pub invariant-words : goal.invariant-words
invariant-words l = record {
  sum : sum_from (closed l.sum) (words_in l.rest) ≡ ones_sum l.bytes;
  bytes : AreSmall l.rest;
  small : l.sum + 2 ^ 32 * length l.rest ≤ 2 ^ 32 * 4096;
}

abbrev pub decreases-words : goal.decreases-words
decreases-words l = length l.rest
