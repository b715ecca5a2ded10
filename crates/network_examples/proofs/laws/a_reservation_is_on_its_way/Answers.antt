use Rattle.network_examples.proofs.Ready.{a_reservation_is_on_its_way}
use Rattle.network_examples.proofs.laws.a_reservation_is_on_its_way.Goals as goal

pub returns : goal.returns
returns c = a_reservation_is_on_its_way
