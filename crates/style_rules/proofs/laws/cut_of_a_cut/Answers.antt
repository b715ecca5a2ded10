use Rattle.style_rules.proofs.Claims.{cut_of_a_cut}
use Rattle.style_rules.proofs.laws.cut_of_a_cut.Goals as goal

pub returns : goal.returns
returns g c = cut_of_a_cut g.S.Style.kind_is
