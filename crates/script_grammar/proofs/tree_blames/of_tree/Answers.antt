use Rattle.script_grammar.proofs.Asked.{tree_asks}
use Rattle.script_grammar.proofs.tree_blames.of_tree.Goals as goal

pub returns-in-Ok-clause-asked : goal.returns-in-Ok-clause-asked
returns-in-Ok-clause-asked g c = λ none bad. tree_asks (g.B.LinesBefore.lines c.args.before.now) c.args.line.now c.in-Ok.said c.in-Ok.ensures.said (c.of_said.ensures.asked none) bad
