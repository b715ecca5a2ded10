use Rattle.network_examples.proofs.Goals.{a_session_has_one_style}
use Rattle.network_examples.proofs.laws.a_session_has_one_style.Goals as goal

pub returns : goal.returns
returns c = a_session_has_one_style
