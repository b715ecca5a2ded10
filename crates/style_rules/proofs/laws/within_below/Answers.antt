use Rattle.style_rules.proofs.Room.{within_below}
use Rattle.style_rules.proofs.laws.within_below.Goals as goal

pub returns : goal.returns
returns c = within_below
