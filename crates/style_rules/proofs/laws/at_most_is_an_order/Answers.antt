use Rattle.style_rules.proofs.Claims.{at_most_is_an_order}
use Rattle.style_rules.proofs.laws.at_most_is_an_order.Goals as goal

pub returns : goal.returns
returns g c = at_most_is_an_order g.S.Style.at_most g.met.S.Style.at_most_by_names_and_flow
