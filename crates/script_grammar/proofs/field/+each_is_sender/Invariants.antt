use Rattle.std.proofs.Common.{length}
use Rattle.script_grammar.proofs.field.+each_is_sender.Given as goal

abbrev pub decreases-each_is_sender : goal.decreases-each_is_sender
decreases-each_is_sender l = length l.word.now
