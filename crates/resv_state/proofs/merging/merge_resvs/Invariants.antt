use Rattle.std.proofs.Common.{◌≡◌, ℕ, drop, map as each, take}
use Rattle.std.specs.List.{filter_map}
use Rattle.style_rules.specs.Tally.{tally_of}
use Rattle.resv_state.specs.Merging.{held_toward}
use Rattle.resv_state.specs.Walks.{held_under}
use Rattle.resv_state.proofs.merging.merge_resvs.Given as goal

abbrev pub invariant-loop-held : goal.invariant-loop-held
invariant-loop-held g l =
    record {
      k : ℕ;
      at : each (λ e. e.1.0) (drop k (held_under l.fn.session l.table.facts)) ≡ l.held-iterator;
      merged : l.merger ≡ tally_of g.S.Style.kind_is (filter_map (held_toward l.up) (take k (held_under l.fn.session l.table.facts)));
    }
