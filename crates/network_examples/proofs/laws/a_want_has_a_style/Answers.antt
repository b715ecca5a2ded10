use Rattle.network_examples.proofs.Goals.{a_want_has_a_style}
use Rattle.network_examples.proofs.laws.a_want_has_a_style.Goals as goal

pub returns : goal.returns
returns c = a_want_has_a_style
