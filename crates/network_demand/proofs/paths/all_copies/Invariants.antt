use Rattle.std.proofs.Common.{◌≡◌, ◌*◌, ◌≤◌, sum_by}
use Rattle.std.specs.List.{range_with_len}
use Rattle.network_demand.specs.Counts.{copies}
use Rattle.network_demand.proofs.paths.all_copies.Given as goal

-- those of the ends so far, at most eight each
abbrev pub invariant-loop-end : goal.invariant-loop-end
invariant-loop-end l =
    record {
      sum : l.sum ≡ sum_by (copies l.routing l.hops) (range_with_len 0 l.end);
      few : l.sum ≤ 8 * l.end;
    }
