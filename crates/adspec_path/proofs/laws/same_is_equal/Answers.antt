-- By the lemma.
use Rattle.adspec_path.proofs.Same.{same_is_equal}
use Rattle.adspec_path.proofs.laws.same_is_equal.Goals as goal

pub returns : goal.returns
returns c = same_is_equal
