use Rattle.settle_senders.proofs.FlowTaken.{other_flows_are_kept}
use Rattle.settle_senders.proofs.laws.other_flows_are_kept.Goals as goal

pub returns : goal.returns
returns c q n k t w start fit sends j v h other live there = other_flows_are_kept q n k t w start fit sends j v h other live there
