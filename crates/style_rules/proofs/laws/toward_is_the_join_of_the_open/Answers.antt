use Rattle.style_rules.proofs.Claims.{toward_is_the_join_of_the_open}
use Rattle.style_rules.proofs.laws.toward_is_the_join_of_the_open.Goals as goal

pub returns : goal.returns
returns g c = toward_is_the_join_of_the_open g.S.Style.at_most g.met.S.Style.at_most_by_names_and_flow g.S.Style.kind_is
