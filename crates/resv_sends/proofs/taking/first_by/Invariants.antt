use Rattle.std.proofs.Common.{◌≡◌, drop}
use Rattle.std.specs.List.{filter}
use Rattle.rsvp_base.specs.Table.{get}
use Rattle.resv_state.specs.Merging.{is_by}
use Rattle.resv_sends.proofs.taking.first_by.Given as goal

abbrev pub invariant-loop-i : goal.invariant-loop-i
invariant-loop-i l = filter (λ x. is_by l.iface (get l.up x)) (drop l.i l.names) ≡ filter (λ x. is_by l.iface (get l.up x)) l.names
