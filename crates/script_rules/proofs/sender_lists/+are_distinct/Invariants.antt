use Rattle.std.proofs.Common.{length}
use Rattle.script_rules.proofs.sender_lists.+are_distinct.Given as goal

abbrev pub decreases-are_distinct : goal.decreases-are_distinct
decreases-are_distinct l = length l.senders.now
