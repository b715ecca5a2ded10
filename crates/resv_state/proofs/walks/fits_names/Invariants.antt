use Rattle.std.proofs.Common.{◌≡◌, ℕ, drop, map as each}
use Rattle.resv_state.specs.Walks.{held_under, with_names}
use Rattle.resv_state.proofs.walks.fits_names.Given as goal

abbrev pub invariant-loop-held : goal.invariant-loop-held
invariant-loop-held l =
    record {
      k : ℕ;
      at : each (λ e. e.1.0) (drop k (held_under l.fn.session l.table.facts)) ≡ l.held-iterator;
      named : with_names l.key l.names (drop k (held_under l.fn.session l.table.facts)) ≡ with_names l.key l.part.senders (held_under l.fn.session l.table.facts);
    }
