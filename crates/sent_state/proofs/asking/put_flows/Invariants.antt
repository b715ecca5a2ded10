use Rattle.std.proofs.Common.{◌≡◌, take}
use Rattle.rsvp_base.specs.Table.{empty}
use Rattle.sent_state.specs.Listed.{flows_in, flows_with}
use Rattle.sent_state.proofs.Listing.{names_listed}
use Rattle.sent_state.proofs.asking.put_flows.Given as goal

abbrev pub invariant-loop-i : goal.invariant-loop-i
invariant-loop-i l = flows_in l.list ≡ flows_with l.parts empty (names_listed (take l.i l.rows))
