use Rattle.std.proofs.Common.{length}
use Rattle.script_grammar.proofs.breaks.+has_few.Given as goal

abbrev pub decreases-has_few : goal.decreases-has_few
decreases-has_few l = length l.list.now
