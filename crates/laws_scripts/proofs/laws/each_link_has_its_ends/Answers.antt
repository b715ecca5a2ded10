use Rattle.laws_scripts.proofs.FitLinks.{each_link_has_its_ends}
use Rattle.laws_scripts.proofs.laws.each_link_has_its_ends.Goals as goal

pub returns : goal.returns
returns c = each_link_has_its_ends
