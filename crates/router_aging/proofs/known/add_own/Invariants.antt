use Rattle.std.proofs.Common.{◌≡◌, ◌≤◌, take, map as each}
use Rattle.rsvp_base.specs.Sets.{with_keys}
use Rattle.rsvp_base.specs.Table.{size}
use Rattle.local_state.specs.declared.senders.LocalSender.{LocalSender}
use Rattle.router_aging.proofs.known.add_own.Given as goal

abbrev pub invariant-loop-i : goal.invariant-loop-i
invariant-loop-i l =
    record {
      found : l.found ≡ with_keys l.initial.found (each (λ (r : LocalSender). r.sender) (take l.i l.own));
      size : size l.found ≤ l.i;
    }
