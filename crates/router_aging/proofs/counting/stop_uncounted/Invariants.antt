use Rattle.std.proofs.Common.{◌≡◌, take, map as each}
use Rattle.std.specs.Prelude.{◌||◌, not}
use Rattle.rsvp_base.specs.Table.{kept}
use Rattle.router_aging.specs.Passing.{counts}
use Rattle.router_aging.specs.declared.dead.DeadPath.{DeadPath}
use Rattle.router_aging.proofs.Counts.{any}
use Rattle.router_aging.proofs.counting.stop_uncounted.Given as goal

abbrev pub invariant-loop-i : goal.invariant-loop-i
invariant-loop-i l = l.due ≡ kept (λ s. counts l.senders.tspecs l.paths.facts s || not (any (take l.i (each (λ (d : DeadPath). d.session) l.list)) s)) l.initial.due
