use Rattle.std.proofs.Common.{◌≡◌, ◌++◌, option_map, length}
use Rattle.std.specs.Str.{byte}
use Rattle.script_words.specs.Steps.{each_of}
use Rattle.script_words.specs.Parts.{parts_of}
use Rattle.script_words.specs.Addresses.{quad_of}
use Rattle.script_words.proofs.address.addresses.Given as goal

-- what was read, and then what the rest reads as
abbrev pub invariant-loop-first : goal.invariant-loop-first
invariant-loop-first l = option_map (λ xs. l.quads.items ++ xs) (each_of quad_of (parts_of (byte ",") l.rest)) ≡ each_of quad_of (parts_of 44 l.word)

abbrev pub decreases-loop-first : goal.decreases-loop-first
decreases-loop-first l = length l.rest
