use Rattle.std.proofs.Common.{length}
use Rattle.message_codec.proofs.lists.+put_filters.Given as goal

abbrev pub decreases-put_filters : goal.decreases-put_filters
decreases-put_filters l = length l.senders.now
