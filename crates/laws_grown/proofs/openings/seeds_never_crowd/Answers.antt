use Rattle.laws_grown.proofs.Crowding.{seeds_never_crowd}
use Rattle.laws_grown.proofs.openings.seeds_never_crowd.Goals as goal

pub returns : goal.returns
returns c = seeds_never_crowd
