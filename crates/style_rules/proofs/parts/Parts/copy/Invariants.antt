use Rattle.std.proofs.Common.{◌≡◌, take}
use Rattle.style_rules.proofs.parts.Parts.copy.Given as goal

abbrev pub invariant-loop-unit : goal.invariant-loop-unit
invariant-loop-unit l = l.rows.items ≡ take l.unit-index l.unit-items
