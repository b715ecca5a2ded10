use Rattle.style_rules.proofs.Claims.{cut_is_below_and_monotone}
use Rattle.style_rules.proofs.laws.cut_is_below_and_monotone.Goals as goal

pub returns : goal.returns
returns g c = cut_is_below_and_monotone g.S.Style.at_most g.met.S.Style.at_most_by_names_and_flow
