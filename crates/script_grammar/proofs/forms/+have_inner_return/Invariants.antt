use Rattle.std.proofs.Common.{length}
use Rattle.script_grammar.proofs.forms.+have_inner_return.Given as goal

abbrev pub decreases-have_inner_return : goal.decreases-have_inner_return
decreases-have_inner_return l = length l.words.now
