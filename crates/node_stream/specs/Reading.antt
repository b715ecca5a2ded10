-- What was read of a frame.
use Rattle.std.specs.Prelude.{ℕ, ◌+◌, ◌<◌, ◌≤◌, List, length, Option}
use Rattle.std.specs.Io.KnownBytes.{IsAtEnd}
use Rattle.node_stream.specs.Frames.{IsFrame, IsFront, IsPart}
use Rattle.node_stream.specs.declared.reading.Read.{Read}
use Rattle.node_stream.specs.declared.reading.Read.TheVariants.{Whole, Ended, Failed, Long}

-- these bytes came, and this is left; so many bytes may come, and are asked for at a time
abbrev pub IsRead : ℕ → ℕ → Read → List ℕ → Option (List ℕ) → Type 0
IsRead most piece Whole frame left = IsFrame frame × (length frame ≤ most)
IsRead most piece Ended frame left = IsPart frame × (length frame ≤ most) × IsAtEnd left
IsRead most piece Failed frame left = IsPart frame × (length frame ≤ most)
IsRead most piece Long frame left = IsFront frame × (most < length frame) × (length frame ≤ most + piece)
