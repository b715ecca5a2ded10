use Rattle.style_rules.proofs.Claims.{charge_and_most_are_monotone}
use Rattle.style_rules.proofs.laws.charge_and_most_are_monotone.Goals as goal

pub returns : goal.returns
returns g c = charge_and_most_are_monotone g.S.Style.at_most g.met.S.Style.at_most_by_names_and_flow
