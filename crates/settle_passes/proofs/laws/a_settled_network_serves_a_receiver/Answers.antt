use Rattle.settle_passes.proofs.Serving.{a_settled_network_serves_a_receiver}
use Rattle.settle_passes.proofs.laws.a_settled_network_serves_a_receiver.Goals as goal

pub returns : goal.returns
returns c q n s st names flow confirm w bounds hosts settled quiet list sound no_less fit =
    a_settled_network_serves_a_receiver q n s st names flow confirm w bounds hosts settled quiet list sound no_less fit
