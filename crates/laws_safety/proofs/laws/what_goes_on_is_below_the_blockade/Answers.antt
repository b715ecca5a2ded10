use Rattle.laws_safety.proofs.Walls.{what_goes_on_is_below}
use Rattle.laws_safety.proofs.laws.what_goes_on_is_below_the_blockade.Goals as goal

pub returns : goal.returns
returns c = what_goes_on_is_below
