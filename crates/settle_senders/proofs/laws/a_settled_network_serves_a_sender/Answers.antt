use Rattle.settle_senders.proofs.Serving.{a_settled_network_serves_a_sender}
use Rattle.settle_senders.proofs.laws.a_settled_network_serves_a_sender.Goals as goal

pub returns : goal.returns
returns c q n k t w bounds locals settled quiet fit new hosts fits = a_settled_network_serves_a_sender q n k t w bounds locals settled quiet fit new hosts fits
