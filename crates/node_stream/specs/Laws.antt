-- The claims of the public laws.
use Rattle.std.specs.Prelude.{◌≡◌, List, ℕ}
use Rattle.node_stream.specs.Endings.{ComesTo}
use Rattle.node_stream.specs.declared.ending.Ending.{Ending}

-- over the same bytes, service that ends neither by a fault of a device nor out of memory comes to one ending and one text
abbrev pub OneEnding : Type 0
OneEnding = (bytes x y : List ℕ) (a b : Ending) → ComesTo a bytes x → ComesTo b bytes y → (a ≡ b) × (x ≡ y)
