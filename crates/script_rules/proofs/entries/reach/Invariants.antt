use Rattle.std.proofs.Common.{◌≡◌, ℕ, ◌+◌, ◌-◌, length, map as each}
use Rattle.script_rules.specs.Entries.{entries_in}
use Rattle.script_rules.proofs.entries.reach.Given as goal

-- no list of a node has changed
abbrev pub invariant-loop-alloc : goal.invariant-loop-alloc
invariant-loop-alloc l = (n : ℕ) → entries_in (each (λ v. v.items) l.entries.items) n ≡ entries_in (each (λ v. v.items) l.initial.entries.items) n

abbrev pub decreases-loop-alloc : goal.decreases-loop-alloc
decreases-loop-alloc l = l.node + 1 - length l.entries.items
