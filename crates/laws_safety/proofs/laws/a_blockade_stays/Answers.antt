use Rattle.laws_safety.specs.Blockades.{ABlockadeStays}
use Rattle.laws_safety.proofs.Errors.{a_blockade_stays}
use Rattle.laws_safety.proofs.Runs.{at_every_step}
use Rattle.laws_safety.proofs.laws.a_blockade_stays.Goals as goal

pub returns : goal.returns
returns c = at_every_step ABlockadeStays (λ q s w bounds. a_blockade_stays q s w)
