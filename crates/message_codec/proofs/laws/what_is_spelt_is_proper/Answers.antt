use Rattle.message_codec.proofs.ProperRead.{what_is_spelt_is_proper}
use Rattle.message_codec.proofs.laws.what_is_spelt_is_proper.Goals as goal

pub returns : goal.returns
returns c = what_is_spelt_is_proper
