use Rattle.laws_grown.proofs.Equal.{a_grown_network_is_as_demanded}
use Rattle.laws_grown.proofs.summaries.a_grown_network_is_as_demanded.Goals as goal

pub returns : goal.returns
returns c = a_grown_network_is_as_demanded
