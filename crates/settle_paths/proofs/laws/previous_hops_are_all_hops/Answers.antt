use Rattle.settle_paths.proofs.PreviousHops.{previous_hops_are_all_hops}
use Rattle.settle_paths.proofs.laws.previous_hops_are_all_hops.Goals as goal

pub returns : goal.returns
returns c w valid locals sound complete = previous_hops_are_all_hops w valid locals sound complete
