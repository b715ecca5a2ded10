use Rattle.std.proofs.Common.{◌≡◌, ◌≤◌, ◌++◌, drop, vec_capacity}
use Rattle.std.specs.Io.{StartsWith}
use Rattle.std.specs.List.{flat_map}
use Rattle.value_texts.specs.Quotes.{byte_text}
use Rattle.value_texts.proofs.quote.put_bytes.Given as goal

-- what is written and what the rest writes is the whole text; what was there stands in front, and the room did not shrink
abbrev pub invariant-loop-c : goal.invariant-loop-c
invariant-loop-c l = (l.out.items ++ flat_map byte_text (drop l.c-index l.bytes) ≡ l.fn.out.items ++ flat_map byte_text l.bytes)
    × StartsWith l.out.items l.fn.out.items × (vec_capacity l.fn.out ≤ vec_capacity l.out)
