use Rattle.std.proofs.Common.{length}
use Rattle.script_rules.proofs.link.+are_in_no_link.Given as goal

abbrev pub decreases-are_in_no_link : goal.decreases-are_in_no_link
decreases-are_in_no_link l = length l.ends.now
