use Rattle.std.proofs.Common.{◌≡◌, ◌≤◌, take}
use Rattle.rsvp_base.specs.Orders.{senders, sessions}
use Rattle.rsvp_base.specs.Under.{under}
use Rattle.traffic_control.specs.Policing.{count_of}
use Rattle.traffic_control.proofs.matching.count.Given as goal

abbrev pub invariant-loop-k : goal.invariant-loop-k
invariant-loop-k l = record { counted : l.count ≡ count_of l.config l.session l.style l.iface l.part l.marked (take l.k (under sessions senders l.paths.facts l.session).rows); few : l.count ≤ l.k }
