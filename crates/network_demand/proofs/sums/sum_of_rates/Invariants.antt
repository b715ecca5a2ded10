use Rattle.std.proofs.Common.{◌≡◌, ◌*◌, ◌≤◌, ◌^◌, sum_by, take}
use Rattle.style_rules.specs.Parts.{part_charge}
use Rattle.network_demand.proofs.sums.sum_of_rates.Given as goal

-- those so far, of which each is below 2^64
abbrev pub invariant-loop-entry : goal.invariant-loop-entry
invariant-loop-entry l =
    record {
      sum : l.sum ≡ sum_by (λ r. part_charge r.1) (take l.entry-index l.entries);
      few : l.sum ≤ l.entry-index * 2 ^ 64;
    }
