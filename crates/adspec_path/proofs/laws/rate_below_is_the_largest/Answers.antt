-- By the lemma.
use Rattle.adspec_path.proofs.Largest.{rate_below_is_the_largest}
use Rattle.adspec_path.proofs.laws.rate_below_is_the_largest.Goals as goal

pub returns : goal.returns
returns c = rate_below_is_the_largest
