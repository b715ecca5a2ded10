use Rattle.message_codec.proofs.OneAnswer.{the_first_fault_is_one}
use Rattle.message_codec.proofs.laws.the_first_fault_is_one.Goals as goal

pub returns : goal.returns
returns c = the_first_fault_is_one
