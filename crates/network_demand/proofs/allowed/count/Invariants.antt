use Rattle.std.proofs.Common.{◌≡◌, ◌+◌, ◌≤◌, length, drop}
use Rattle.std.specs.List.{filter}
use Rattle.tree_model.specs.Wants.{of_session}
use Rattle.network_demand.proofs.allowed.count.Given as goal

-- those so far and of the rest are all
abbrev pub invariant-loop-sender : goal.invariant-loop-sender
invariant-loop-sender l =
    record {
      count : l.count + length (filter (of_session l.session) (drop l.sender-index l.senders)) ≡ length (filter (of_session l.session) l.senders);
      few : l.count ≤ l.sender-index;
    }
