use Rattle.std.proofs.Common.{sym, ◌∙◌}
use Rattle.std.specs.List.{list_any}
use Rattle.rsvp_base.specs.Orders.{sessions}
use Rattle.rsvp_base.specs.Under.{under}
use Rattle.resv_state.specs.Walks.{rests}
use Rattle.router_state.specs.State.{table_in}
use Rattle.router_state.specs.Whole.{state_of}
use Rattle.traffic_control.specs.Policing.{passes_by}
use Rattle.traffic_control.proofs.police.passed_by.Goals as goal

pub returns-in-Wild : goal.returns-in-Wild
returns-in-Wild c = λ said.
    let is = c.in-Wild.is in
    let n = state_of c.args.tables.now said in
    let test = passes_by c.args.iface c.args.unit c.args.part.now in
    c.is_passed.ensures ∙ sym (λ i. list_any test (under sessions rests (table_in (is i) n) c.args.session).rows)

pub returns-in-Fixed : goal.returns-in-Fixed
returns-in-Fixed c = λ said.
    let is = c.in-Fixed.is in
    let n = state_of c.args.tables.now said in
    let test = passes_by c.args.iface c.args.unit c.args.part.now in
    c.is_passed-in-Fixed.ensures ∙ sym (λ i. list_any test (under sessions rests (table_in (is i) n) c.args.session).rows)

pub returns-in-Shared : goal.returns-in-Shared
returns-in-Shared c = λ said.
    let is = c.in-Shared.is in
    let n = state_of c.args.tables.now said in
    let test = passes_by c.args.iface c.args.unit c.args.part.now in
    c.is_passed-in-Shared.ensures ∙ sym (λ i. list_any test (under sessions rests (table_in (is i) n) c.args.session).rows)
