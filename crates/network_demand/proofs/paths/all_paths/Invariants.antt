use Rattle.std.proofs.Common.{◌≡◌, ◌*◌, ◌≤◌, sum_by, take}
use Rattle.network_demand.specs.Counts.{paths_of}
use Rattle.network_demand.proofs.paths.all_paths.Given as goal

-- those of the senders so far
abbrev pub invariant-loop-sender : goal.invariant-loop-sender
invariant-loop-sender l =
    record {
      sum : l.sum ≡ sum_by (paths_of l.routing) (take l.sender-index l.senders);
      few : l.sum ≤ l.sender-index * 32768;
    }
