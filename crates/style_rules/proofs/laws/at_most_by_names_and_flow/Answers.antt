use Rattle.style_rules.proofs.laws.at_most_by_names_and_flow.Goals as goal

pub returns : goal.returns
returns g c = g.met.S.Style.at_most_by_names_and_flow
