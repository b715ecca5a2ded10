use Rattle.std.proofs.Common.{◌≡◌, take}
use Rattle.script_rules.specs.Entries.{standing}
use Rattle.script_rules.proofs.want_table.copies.Given as goal

-- those so far are there
abbrev pub invariant-loop-slot : goal.invariant-loop-slot
invariant-loop-slot l = l.to.items ≡ standing (take l.slot-index l.slots)
