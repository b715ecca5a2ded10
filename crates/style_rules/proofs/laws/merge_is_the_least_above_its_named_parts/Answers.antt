use Rattle.style_rules.proofs.Claims.{merge_is_the_least_above_its_named_parts}
use Rattle.style_rules.proofs.laws.merge_is_the_least_above_its_named_parts.Goals as goal

pub returns : goal.returns
returns g c = merge_is_the_least_above_its_named_parts g.S.Style.at_most g.met.S.Style.at_most_by_names_and_flow g.S.Style.kind_is
