use Rattle.std.proofs.Common.{length}
use Rattle.script_grammar.proofs.field.+are_senders.Given as goal

abbrev pub decreases-are_senders : goal.decreases-are_senders
decreases-are_senders l = length l.word.now
