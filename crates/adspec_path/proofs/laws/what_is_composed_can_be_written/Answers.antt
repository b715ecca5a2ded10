-- By the lemma.
use Rattle.adspec_path.proofs.Proper.{what_is_composed_can_be_written}
use Rattle.adspec_path.proofs.laws.what_is_composed_can_be_written.Goals as goal

pub returns : goal.returns
returns c = what_is_composed_can_be_written
