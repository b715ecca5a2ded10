use Rattle.settle_senders.proofs.Letting.{a_settled_network_lets_a_sender_go}
use Rattle.settle_senders.proofs.laws.a_settled_network_lets_a_sender_go.Goals as goal

pub returns : goal.returns
returns c q n i d w begins settled quiet sends = a_settled_network_lets_a_sender_go q n d w begins settled quiet sends i
