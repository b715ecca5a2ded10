use Rattle.tree_model.proofs.WantLaws.{a_common_name}
use Rattle.tree_model.proofs.demands.a_common_name_makes_a_follower.Goals as goal

pub returns : goal.returns
returns c = λ st net l s. a_common_name st net l s
