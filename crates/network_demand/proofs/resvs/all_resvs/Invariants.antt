use Rattle.std.proofs.Common.{◌≡◌, ◌*◌, ◌≤◌, sum_by, take}
use Rattle.network_demand.specs.Asked.{locals_of}
use Rattle.network_demand.specs.Counts.{resvs_of}
use Rattle.network_demand.proofs.resvs.all_resvs.Given as goal

-- those of the sessions so far
abbrev pub invariant-loop-session : goal.invariant-loop-session
invariant-loop-session l =
    record {
      sum : l.sum ≡ sum_by (resvs_of l.routing (locals_of l.locals) l.order) (take l.session-index l.sessions);
      few : l.sum ≤ l.session-index * 24576;
    }
