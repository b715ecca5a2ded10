use Rattle.std.proofs.Common.{◌≡◌, ◌+◌, ◌≤◌, length, drop}
use Rattle.std.specs.List.{filter}
use Rattle.network_demand.specs.Counts.{is_something}
use Rattle.network_demand.proofs.resvs.count_of_wanted.Given as goal

-- those so far and of the rest are all
abbrev pub invariant-loop-want : goal.invariant-loop-want
invariant-loop-want l =
    record {
      count : l.count + length (filter is_something (drop l.want-index l.wants)) ≡ length (filter is_something l.wants);
      few : l.count ≤ l.want-index;
    }
