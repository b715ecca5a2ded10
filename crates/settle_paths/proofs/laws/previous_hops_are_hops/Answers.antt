use Rattle.settle_paths.proofs.PreviousHops.{previous_hops_are_hops}
use Rattle.settle_paths.proofs.laws.previous_hops_are_hops.Goals as goal

pub returns : goal.returns
returns c w valid sound = previous_hops_are_hops w valid sound
