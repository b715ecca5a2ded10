use Rattle.tree_model.proofs.WantLaws.{want_names}
use Rattle.tree_model.proofs.demands.want_names.Goals as goal

pub returns : goal.returns
returns c = λ st net l s. want_names st net l s
