use Rattle.laws_bounds.proofs.LeftOver.{left_over_facts_are_within_bounds}
use Rattle.laws_bounds.proofs.bounds.left_over_facts_are_within_bounds.Goals as goal

pub returns : goal.returns
returns c = left_over_facts_are_within_bounds
