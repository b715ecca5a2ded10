use Rattle.std.proofs.Common.{length}
use Rattle.script_grammar.proofs.field.+each_is_address.Given as goal

abbrev pub decreases-each_is_address : goal.decreases-each_is_address
decreases-each_is_address l = length l.word.now
