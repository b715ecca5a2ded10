use Rattle.std.proofs.Common.{length}
use Rattle.script_rules.proofs.entries.+clear.Given as goal

abbrev pub decreases-clear : goal.decreases-clear
decreases-clear l = length l.entries.now
