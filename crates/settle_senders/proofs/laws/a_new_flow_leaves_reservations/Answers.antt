use Rattle.settle_senders.proofs.FlowResvs.{a_new_flow_leaves_reservations}
use Rattle.settle_senders.proofs.laws.a_new_flow_leaves_reservations.Goals as goal

pub returns : goal.returns
returns c q n k t w bounds hosts settled quiet fit sends = a_new_flow_leaves_reservations q n k t w bounds hosts settled quiet fit sends
