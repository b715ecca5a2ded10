use Rattle.std.proofs.Common.{◌≡◌, ◌*◌, ◌≤◌, ◌^◌, take}
use Rattle.value_texts.specs.Reports.{held_of}
use Rattle.script_demand.proofs.demand_lines.sum_of_rates.Given as goal

-- those so far, of which each is below 2^64
abbrev pub invariant-loop-entry : goal.invariant-loop-entry
invariant-loop-entry l =
    record {
      sum : l.sum ≡ held_of (take l.entry-index l.entries);
      few : l.sum ≤ l.entry-index * 2 ^ 64;
    }
