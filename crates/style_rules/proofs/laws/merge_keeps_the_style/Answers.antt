use Rattle.style_rules.proofs.Claims.{merge_keeps_the_style}
use Rattle.style_rules.proofs.laws.merge_keeps_the_style.Goals as goal

pub returns : goal.returns
returns g c = merge_keeps_the_style g.S.Style.kind_is
