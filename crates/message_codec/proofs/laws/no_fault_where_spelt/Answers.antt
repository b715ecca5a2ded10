use Rattle.message_codec.proofs.OneAnswer.{no_fault_where_spelt}
use Rattle.message_codec.proofs.laws.no_fault_where_spelt.Goals as goal

pub returns : goal.returns
returns c = no_fault_where_spelt
