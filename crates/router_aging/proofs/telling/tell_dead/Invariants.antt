use Rattle.std.proofs.Common.{◌≡◌, take}
use Rattle.std.specs.Prelude.{fold}
use Rattle.std.specs.List.{flat_map}
use Rattle.router_aging.specs.Passing.{dead_key}
use Rattle.router_aging.specs.Telling.{gone_by}
use Rattle.router_aging.proofs.telling.tell_dead.Given as goal

abbrev pub invariant-loop-i : goal.invariant-loop-i
invariant-loop-i g l = l.out ≡ fold g.O.Outbox.posted l.initial.out (flat_map (λ d. gone_by l.config l.senders.tspecs (dead_key d)) (take l.i l.list))
