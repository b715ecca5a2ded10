use Rattle.settle_senders.proofs.FlowCalls.{a_call_is_told}
use Rattle.settle_senders.proofs.laws.a_call_is_told.Goals as goal

pub returns : goal.returns
returns c q n l w start fit spares = a_call_is_told q n l w start fit spares
