use Rattle.std.proofs.Common.{◌≡◌, ◌++◌, drop}
use Rattle.std.specs.List.{flat_map}
use Rattle.script_events.specs.Json.{hex_text}
use Rattle.script_events.proofs.json.put_digits.Given as goal

-- what is written and what the rest writes is the whole text
abbrev pub invariant-loop-byte : goal.invariant-loop-byte
invariant-loop-byte l = l.out.items ++ flat_map hex_text (drop l.byte-index l.bytes) ≡ l.fn.out.items ++ flat_map hex_text l.bytes
