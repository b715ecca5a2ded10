use Rattle.style_rules.specs.PartLaws.{same_part}
use Rattle.style_rules.proofs.Claims.{join_is_the_least_above}
use Rattle.style_rules.proofs.laws.join_is_the_least_above.Goals as goal

pub returns : goal.returns
returns g c =
    let style = g.met.S.Style in
    join_is_the_least_above g.S.Style.at_most g.S.Style.joined style.at_most_by_names_and_flow (λ a b. same_part _ _ (style.senders_of_join a b) (style.flow_of_join a b))
