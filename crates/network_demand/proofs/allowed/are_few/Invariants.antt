use Rattle.std.proofs.Common.{take}
use Rattle.std.specs.List.{All}
use Rattle.network_demand.specs.Demands.{few_of}
use Rattle.network_demand.proofs.allowed.are_few.Given as goal

-- those so far are
abbrev pub invariant-loop-sender : goal.invariant-loop-sender
invariant-loop-sender l = All (few_of l.senders) (take l.sender-index l.senders)
