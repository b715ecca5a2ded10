use Rattle.message_codec.proofs.Whole.{what_stands_once_is_said_once}
use Rattle.message_codec.proofs.laws.what_stands_once_is_said_once.Goals as goal

pub returns : goal.returns
returns c = what_stands_once_is_said_once
