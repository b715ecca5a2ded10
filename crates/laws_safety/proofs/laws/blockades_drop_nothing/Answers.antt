use Rattle.laws_safety.proofs.Errors.{blockades_drop_nothing}
use Rattle.laws_safety.proofs.laws.blockades_drop_nothing.Goals as goal

pub returns : goal.returns
returns c = blockades_drop_nothing
