use Rattle.std.proofs.Common.{◌≡◌, ◌++◌, map as each, take, drop, vec_capacity}
use Rattle.soft_table.specs.Wheel.{set_back}
use Rattle.soft_table.proofs.wheel.set_all_back.Given as goal

abbrev pub invariant-loop-i : goal.invariant-loop-i
invariant-loop-i g l = (l.entries.items ≡ each (set_back l.by) (take l.i l.fn.entries.items) ++ drop l.i l.fn.entries.items) × (vec_capacity l.entries ≡ vec_capacity l.fn.entries)
