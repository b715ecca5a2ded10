use Rattle.std.proofs.Common.{◌≡◌, ◌≤◌, ◌+◌, length, map as each}
use Rattle.rsvp_base.specs.Orders.{sessions, senders}
use Rattle.rsvp_base.specs.Sets.{with_keys}
use Rattle.rsvp_base.specs.Table.{keys, size}
use Rattle.rsvp_base.specs.Under.{under}
use Rattle.path_state.specs.declared.fact.PathFact.{PathFact}
use Rattle.router_aging.proofs.known.add_paths.Given as goal

abbrev pub invariant-loop-fact : goal.invariant-loop-fact
invariant-loop-fact l =
    record {
      found : with_keys l.found (each (λ (f : PathFact). f.sender) l.fact-iterator) ≡ with_keys l.initial.found (keys (under sessions senders l.paths.facts l.fn.session));
      size : size l.found + length l.fact-iterator ≤ 32;
    }
