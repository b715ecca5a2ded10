-- What the last line of a summary says.
use Rattle.std.specs.Prelude.{◌≡◌, ℕ, true}
use Rattle.grown_network.specs.Grown.{grown_plan}
use Rattle.grown_network.specs.Summaries.{is_as_demanded}

abbrev pub AGrownNetworkIsAsDemanded : Type 0
AGrownNetworkIsAsDemanded = (seed : ℕ) → is_as_demanded seed ≡ true
