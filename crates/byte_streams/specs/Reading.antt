-- How many bytes a reading took, by how it ended.
use Rattle.std.specs.Prelude.{◌≡◌, ℕ, ◌+◌, ◌≤◌}
use Rattle.byte_streams.specs.declared.reading.ReadErr.{ReadErr}
use Rattle.byte_streams.specs.declared.reading.ReadErr.TheVariants.{Fault, TooLong, NoMemory}

-- the most bytes of an input
abbrev pub most_bytes : ℕ
most_bytes = 4194304

-- a reading that took n bytes may end so: too long is one byte more than the most, and nothing past it is taken
abbrev pub CanEndAfter : ℕ → ReadErr → Type 0
CanEndAfter n Fault = n ≤ most_bytes
CanEndAfter n TooLong = n ≡ most_bytes + 1
CanEndAfter n NoMemory = n ≤ most_bytes + 1
