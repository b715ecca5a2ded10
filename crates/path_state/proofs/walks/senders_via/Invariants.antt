use Rattle.std.proofs.Common.{◌≡◌, ℕ, drop, map as each, take}
use Rattle.rsvp_base.specs.Orders.{names_from}
use Rattle.path_state.specs.Paths.{paths_under, senders_by}
use Rattle.path_state.proofs.walks.senders_via.Given as goal

abbrev pub invariant-loop-fact : goal.invariant-loop-fact
invariant-loop-fact l =
    record {
      k : ℕ;
      at : each (λ e. e.1.0) (drop k (paths_under l.fn.session l.table.facts)) ≡ l.fact-iterator;
      found : l.found ≡ names_from (senders_by l.iface l.addr (take k (paths_under l.fn.session l.table.facts)));
    }
