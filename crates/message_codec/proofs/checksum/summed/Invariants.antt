use Rattle.std.proofs.Common.{◌≡◌, ◌≤◌, length}
use Rattle.message_codec.specs.Sum.{sum_from, words_in, ones_sum}
use Rattle.message_codec.proofs.checksum.summed.Given as goal

abbrev pub invariant-loop-rest : goal.invariant-loop-rest
invariant-loop-rest l = record {
  sum : sum_from l.sum (words_in l.rest) ≡ ones_sum l.bytes;
  word : l.sum ≤ 65535;
}

abbrev pub decreases-loop-rest : goal.decreases-loop-rest
decreases-loop-rest l = length l.rest
