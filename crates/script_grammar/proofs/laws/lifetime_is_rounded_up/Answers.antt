use Rattle.script_grammar.proofs.Lifetimes.{lifetime_rounded_up}
use Rattle.script_grammar.proofs.laws.lifetime_is_rounded_up.Goals as goal

pub returns : goal.returns
returns c = lifetime_rounded_up
