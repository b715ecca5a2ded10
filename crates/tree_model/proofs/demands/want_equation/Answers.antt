use Rattle.tree_model.proofs.WantLaws.{want_equation}
use Rattle.tree_model.proofs.demands.want_equation.Goals as goal

pub returns : goal.returns
returns c = λ st net l s. want_equation st net l s
