use Rattle.style_rules.proofs.Claims.{toward_is_at_least_the_meet}
use Rattle.style_rules.proofs.laws.toward_is_at_least_the_meet.Goals as goal

pub returns : goal.returns
returns g c = toward_is_at_least_the_meet g.S.Style.kind_is
