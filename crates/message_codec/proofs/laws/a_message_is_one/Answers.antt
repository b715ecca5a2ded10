use Rattle.message_codec.proofs.OneAnswer.{a_message_is_one}
use Rattle.message_codec.proofs.laws.a_message_is_one.Goals as goal

pub returns : goal.returns
returns c = a_message_is_one
