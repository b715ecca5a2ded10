-- What is asked of a grown network fits.
use Rattle.std.specs.Prelude.{ℕ}
use Rattle.tree_model.specs.Goals.{DemandsFit}
use Rattle.grown_network.specs.Grown.{asked, grown_net}

abbrev pub GrownDemandsFit : Type 0
GrownDemandsFit = (seed : ℕ) → DemandsFit (grown_net seed) (asked seed)
