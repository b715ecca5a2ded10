use Rattle.std.proofs.Common.{length}
use Rattle.message_codec.proofs.fields.+know_senders.Given as goal

abbrev pub decreases-know_senders : goal.decreases-know_senders
decreases-know_senders l = length l.senders.now
