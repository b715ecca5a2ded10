use Rattle.std.proofs.Common.{◌≡◌, take, map as each}
use Rattle.rsvp_base.specs.Orders.{sessions}
use Rattle.rsvp_base.specs.Sets.{set_of}
use Rattle.rsvp_base.specs.Table.{changed}
use Rattle.local_state.specs.declared.senders.LocalSender.{LocalSender}
use Rattle.router_aging.specs.Passing.{begun}
use Rattle.router_aging.proofs.counting.begin_all.Given as goal

abbrev pub invariant-loop-i : goal.invariant-loop-i
invariant-loop-i l = l.due ≡ changed (begun l.period) (set_of {o = sessions} (each (λ (r : LocalSender). r.session) (take l.i l.list)))
