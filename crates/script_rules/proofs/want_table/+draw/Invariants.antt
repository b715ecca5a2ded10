use Rattle.std.proofs.Common.{length}
use Rattle.script_rules.proofs.want_table.+draw.Given as goal

abbrev pub decreases-draw : goal.decreases-draw
decreases-draw l = length l.entries.now
