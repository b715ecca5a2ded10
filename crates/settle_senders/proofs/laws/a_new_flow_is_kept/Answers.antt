use Rattle.settle_senders.proofs.FlowTaken.{a_new_flow_is_kept}
use Rattle.settle_senders.proofs.laws.a_new_flow_is_kept.Goals as goal

pub returns : goal.returns
returns c q n k t w start fit sends h there = a_new_flow_is_kept q n k t w start fit sends h there
