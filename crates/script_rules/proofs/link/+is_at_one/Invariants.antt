use Rattle.std.proofs.Common.{length}
use Rattle.script_rules.proofs.link.+is_at_one.Given as goal

abbrev pub decreases-is_at_one : goal.decreases-is_at_one
decreases-is_at_one l = length l.names.now
