use Rattle.std.proofs.Common.{◌≡◌, ◌++◌, drop}
use Rattle.network_demand.specs.Strays.{idle, idle_from}
use Rattle.network_demand.proofs.idle.idle_among.Given as goal

-- those so far and of the rest are all
abbrev pub invariant-loop-place : goal.invariant-loop-place
invariant-loop-place l = l.found.items ++ idle_from l.routing l.place (drop l.place l.senders) ≡ idle l.routing l.senders
