use Rattle.std.proofs.Common.{◌≡◌, ℕ, ◌+◌, ◌++◌, length}
use Rattle.std.specs.List.{flat_map, range_with_len}
use Rattle.script_demand.specs.Owing.{end_owes}
use Rattle.script_demand.proofs.writing.put_ends.Given as goal

-- what is written and what the other ends write is the whole text
abbrev pub invariant-loop-end : goal.invariant-loop-end
invariant-loop-end l =
    (left : ℕ) → l.end + left ≡ length l.ends
    → l.out.items ++ flat_map (end_owes l.names l.ends l.owed) (range_with_len l.end left) ≡ l.fn.out.items ++ flat_map (end_owes l.names l.ends l.owed) (range_with_len 0 (length l.ends))
