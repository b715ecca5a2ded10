use Rattle.std.proofs.Common.{length}
use Rattle.message_codec.proofs.fields.+know_pairs.Given as goal

abbrev pub decreases-know_pairs : goal.decreases-know_pairs
decreases-know_pairs l = length l.pairs.now
