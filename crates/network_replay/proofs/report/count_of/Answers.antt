use Rattle.std.proofs.Common.{◌∙◌, List, ap, arith, length}
use Rattle.tree_model.specs.declared.hops.End.{End}
use Rattle.tree_model.specs.Networks.{Net}
use Rattle.tree_routing.proofs.ValidMore.{few_ends_in_all}
use Rattle.network_replay.proofs.report.count_of.Goals as goal

pub overflow_cast-result : goal.overflow_cast-result
overflow_cast-result c = omega (arith, few_ends_in_all c.routing.result.now c.ends.ensures.valid, ap (λ (es : List End). length es) c.ends.ensures.ends)

pub returns : goal.returns
returns c = ap (λ (es : List End). length es) (c.ends.ensures.ends ∙ ap (λ (n : Net). n.ends) c.routing.ensures.net)
