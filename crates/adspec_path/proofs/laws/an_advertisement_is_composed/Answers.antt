-- By the lemma.
use Rattle.adspec_path.proofs.Composed.{an_advertisement_is_composed}
use Rattle.adspec_path.proofs.laws.an_advertisement_is_composed.Goals as goal

pub returns : goal.returns
returns c = an_advertisement_is_composed
