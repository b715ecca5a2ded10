use Rattle.std.proofs.Common.{◌≡◌, ◌++◌, drop}
use Rattle.std.specs.List.{flat_map}
use Rattle.value_texts.specs.Reports.{entry_text}
use Rattle.script_demand.proofs.demand_lines.put_entries.Given as goal

-- what is written and what the rest writes is the whole text
abbrev pub invariant-loop-entry : goal.invariant-loop-entry
invariant-loop-entry l = l.out.items ++ flat_map (λ e. entry_text e.0 e.1) (drop l.entry-index l.entries) ≡ l.fn.out.items ++ flat_map (λ e. entry_text e.0 e.1) l.entries
