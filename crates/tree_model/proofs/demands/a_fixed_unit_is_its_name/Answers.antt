use Rattle.tree_model.proofs.WantLaws.{a_fixed_unit_is_its_name}
use Rattle.tree_model.proofs.demands.a_fixed_unit_is_its_name.Goals as goal

pub returns : goal.returns
returns c = λ net l s. a_fixed_unit_is_its_name net l s
