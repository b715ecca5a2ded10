use Rattle.std.proofs.Common.{length}
use Rattle.message_codec.proofs.fields.+know_words.Given as goal

abbrev pub decreases-know_words : goal.decreases-know_words
decreases-know_words l = length l.words.now
