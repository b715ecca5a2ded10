use Rattle.std.proofs.Common.{◌≡◌, ℕ, drop, map as each}
use Rattle.resv_state.specs.Merging.{held_said, joined_with}
use Rattle.resv_state.specs.Walks.{held_under}
use Rattle.resv_state.proofs.beside.join_beside.Given as goal

abbrev pub invariant-loop-held : goal.invariant-loop-held
invariant-loop-held l =
    record {
      k : ℕ;
      at : each (λ e. e.1.0) (drop k (held_under l.fn.session l.table.facts)) ≡ l.held-iterator;
      joined : joined_with l.key l.joined (each held_said (drop k (held_under l.fn.session l.table.facts))) ≡ joined_with l.key l.fn.flow (each held_said (held_under l.fn.session l.table.facts));
    }
