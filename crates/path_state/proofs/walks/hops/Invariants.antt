use Rattle.std.proofs.Common.{◌≡◌, ℕ, drop, map as each, take}
use Rattle.path_state.specs.Paths.{paths_under, hops_by}
use Rattle.path_state.proofs.walks.hops.Given as goal

abbrev pub invariant-loop-fact : goal.invariant-loop-fact
invariant-loop-fact l =
    record {
      k : ℕ;
      at : each (λ e. e.1.0) (drop k (paths_under l.fn.session l.table.facts)) ≡ l.fact-iterator;
      found : l.found ≡ hops_by (take k (paths_under l.fn.session l.table.facts));
    }
