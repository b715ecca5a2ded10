use Rattle.std.proofs.Common.{◌≡◌, ◌++◌, take}
use Rattle.std.specs.List.{filter_map}
use Rattle.style_rules.specs.Tally.{tally_of}
use Rattle.resv_state.specs.Merging.{held_toward, want_request}
use Rattle.resv_state.specs.Walks.{held_under}
use Rattle.resv_state.proofs.merging.merge_toward.Given as goal

abbrev pub invariant-loop-row : goal.invariant-loop-row
invariant-loop-row g l = l.merger ≡ tally_of g.S.Style.kind_is (filter_map (held_toward l.up) (held_under l.fn.session l.table.facts) ++ filter_map (want_request l.up) (take l.row-index l.row-items))
