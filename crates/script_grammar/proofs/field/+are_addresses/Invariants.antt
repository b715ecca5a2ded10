use Rattle.std.proofs.Common.{length}
use Rattle.script_grammar.proofs.field.+are_addresses.Given as goal

abbrev pub decreases-are_addresses : goal.decreases-are_addresses
decreases-are_addresses l = length l.word.now
