use Rattle.std.proofs.Common.{◌≡◌, ◌++◌, drop}
use Rattle.std.specs.List.{flat_map}
use Rattle.script_events.specs.Json.{escaped}
use Rattle.script_events.proofs.json.put_escaped.Given as goal

-- what is written and what the rest writes is the whole text
abbrev pub invariant-loop-byte : goal.invariant-loop-byte
invariant-loop-byte l = l.out.items ++ flat_map escaped (drop l.byte-index l.text) ≡ l.fn.out.items ++ flat_map escaped l.text
