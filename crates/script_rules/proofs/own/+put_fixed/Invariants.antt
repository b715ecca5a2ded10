use Rattle.std.proofs.Common.{length}
use Rattle.script_rules.proofs.own.+put_fixed.Given as goal

abbrev pub decreases-put_fixed : goal.decreases-put_fixed
decreases-put_fixed l = length l.senders.now
