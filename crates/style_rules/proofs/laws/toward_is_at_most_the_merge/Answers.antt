use Rattle.style_rules.proofs.Claims.{toward_is_at_most_the_merge}
use Rattle.style_rules.proofs.laws.toward_is_at_most_the_merge.Goals as goal

pub returns : goal.returns
returns g c = toward_is_at_most_the_merge g.S.Style.at_most g.met.S.Style.at_most_by_names_and_flow g.S.Style.kind_is
