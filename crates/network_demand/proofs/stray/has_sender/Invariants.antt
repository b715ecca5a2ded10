use Rattle.std.proofs.Common.{◌≡◌, drop}
use Rattle.std.specs.List.{list_any}
use Rattle.network_demand.specs.Strays.{sends_in}
use Rattle.network_demand.proofs.stray.has_sender.Given as goal

-- one of the rest, if one of all
abbrev pub invariant-loop-sender : goal.invariant-loop-sender
invariant-loop-sender l = list_any (sends_in l.want) (drop l.sender-index l.senders) ≡ list_any (sends_in l.want) l.senders
