use Rattle.std.proofs.lemmas.Slice.Eq.{bytes_eq-Decides}
use Rattle.network_model.specs.Runs.{run_text}
use Rattle.grown_network.specs.Grown.{grown_plan}
use Rattle.laws_grown.proofs.Ending.{a_grown_run_is_its_demand}
use Rattle.grown_network.specs.Summaries.{demanded}
use Rattle.laws_grown.specs.Equal.{AGrownNetworkIsAsDemanded}

pub a_grown_network_is_as_demanded : AGrownNetworkIsAsDemanded
a_grown_network_is_as_demanded seed = (bytes_eq-Decides (run_text (grown_plan seed)) (demanded seed)).1 (a_grown_run_is_its_demand seed)
