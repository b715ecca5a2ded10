use Rattle.std.proofs.Common.{sym, subst, ◌∙◌}
use Rattle.rsvp_base.specs.Orders.{sessions}
use Rattle.rsvp_base.specs.Under.{under}
use Rattle.rsvp_base.specs.declared.style.StyleKind.{StyleKind}
use Rattle.style_rules.specs.Merge.{merge}
use Rattle.resv_state.specs.Merging.{parts_on}
use Rattle.resv_state.specs.Resvs.{AreOfStyle}
use Rattle.resv_state.specs.Walks.{rests}
use Rattle.router_state.specs.State.{table_in}
use Rattle.router_state.specs.Whole.{state_of}
use Rattle.traffic_control.proofs.entries.parts_of.Goals as goal

pub returns-in-Wild-clause-parts : goal.returns-in-Wild-clause-parts
returns-in-Wild-clause-parts c = λ said.
    let is = c.in-Wild.is in
    let n = state_of c.args.tables.now said in
    c.parts_in.ensures.parts ∙ sym (λ i. merge (is i) (parts_on c.args.iface (under sessions rests (table_in (is i) n) c.args.session).rows))

pub returns-in-Wild-clause-styled : goal.returns-in-Wild-clause-styled
returns-in-Wild-clause-styled c = λ said.
    subst (λ (st : StyleKind). AreOfStyle st (table_in st (state_of c.args.tables.now said))) (sym c.in-Wild.is) c.parts_in.ensures.styled

pub returns-in-Fixed-clause-parts : goal.returns-in-Fixed-clause-parts
returns-in-Fixed-clause-parts c = λ said.
    let is = c.in-Fixed.is in
    let n = state_of c.args.tables.now said in
    c.parts_in-in-Fixed.ensures.parts ∙ sym (λ i. merge (is i) (parts_on c.args.iface (under sessions rests (table_in (is i) n) c.args.session).rows))

pub returns-in-Fixed-clause-styled : goal.returns-in-Fixed-clause-styled
returns-in-Fixed-clause-styled c = λ said.
    subst (λ (st : StyleKind). AreOfStyle st (table_in st (state_of c.args.tables.now said))) (sym c.in-Fixed.is) c.parts_in-in-Fixed.ensures.styled

pub returns-in-Shared-clause-parts : goal.returns-in-Shared-clause-parts
returns-in-Shared-clause-parts c = λ said.
    let is = c.in-Shared.is in
    let n = state_of c.args.tables.now said in
    c.parts_in-in-Shared.ensures.parts ∙ sym (λ i. merge (is i) (parts_on c.args.iface (under sessions rests (table_in (is i) n) c.args.session).rows))

pub returns-in-Shared-clause-styled : goal.returns-in-Shared-clause-styled
returns-in-Shared-clause-styled c = λ said.
    subst (λ (st : StyleKind). AreOfStyle st (table_in st (state_of c.args.tables.now said))) (sym c.in-Shared.is) c.parts_in-in-Shared.ensures.styled
