use Rattle.std.proofs.Common.{◌≡◌, ℕ, take, map as each}
use Rattle.resv_admission.specs.Forgotten.{forgotten_all}
use Rattle.resv_admission.specs.State.{State, facts_of}
use Rattle.router_aging.specs.Losing.{lost_names}
use Rattle.router_aging.specs.Passing.{dead_key}
use Rattle.resv_admission.specs.Kept.{IsBookWith, MovesWith}
use Rattle.router_aging.proofs.forgetting.forget_dead.Given as goal

abbrev pub invariant-loop-i : goal.invariant-loop-i
invariant-loop-i g l =
    record {
      table : (c : ℕ) (n : State) → n.senders ≡ l.senders.tspecs → n.paths ≡ l.paths.facts
          → l.table ≡ record l.initial.table { facts = forgotten_all (lost_names g.S.Style.kind_is (facts_of c n) (each dead_key (take l.i l.list))) l.initial.table.facts };
      kept : IsBookWith g.S.Style.kind_is l.table.facts l.book.entries;
      book : MovesWith g.S.Style.kind_is l.initial.table.facts l.table.facts l.initial.book.entries l.book.entries;
      ifaces : l.book.ifaces ≡ l.initial.book.ifaces;
    }
