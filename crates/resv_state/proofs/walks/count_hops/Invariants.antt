use Rattle.std.proofs.Common.{◌≡◌, ◌≤◌, ◌+◌, ℕ, None, drop, map as each}
use Rattle.style_rules.specs.Lines.{next_hops}
use Rattle.soft_table.specs.Walks.{changes}
use Rattle.resv_state.specs.Walks.{held_under, hops_in}
use Rattle.resv_state.proofs.walks.count_hops.Given as goal

abbrev pub invariant-loop-held : goal.invariant-loop-held
invariant-loop-held l =
    record {
      k : ℕ;
      at : each (λ e. e.1.0) (drop k (held_under l.fn.session l.table.facts)) ≡ l.held-iterator;
      counted : l.count + changes next_hops l.last (hops_in (drop k (held_under l.fn.session l.table.facts))) ≡ changes next_hops None (hops_in (held_under l.fn.session l.table.facts));
      few : l.count ≤ k;
    }
