use Rattle.std.proofs.Common.{◌≡◌, ap, sym, subst, ◌∙◌}
use Rattle.sent_state.specs.Lanes.{LaneMap}
use Rattle.router_rules.specs.Inputs.{Clear}
use Rattle.router_rules.specs.Rule.{facts_after}
use Rattle.router_state.specs.State.{IsSaid, IsSettled, State, facts_at}
use Rattle.router_aging.specs.Clearing.{cleared}
use Rattle.router_state.specs.Whole.{state_of}
use Rattle.router_core.proofs.Emptying.{clear_facts, clear_said, clear_settled, clear_silent}
use Rattle.router_core.proofs.node.Node.clear.Goals as goal

pub returns-clause-facts : goal.returns-clause-facts
returns-clause-facts c = λ clock.
    let n = state_of c.self.inside.tables c.self.inside.said in
    let now : state_of c.clear_tables.new.tables c.clear.new.self ≡ cleared n = ap (λ (m : LaneMap). state_of c.clear_tables.new.tables m) c.clear.ensures ∙ c.clear_tables.ensures.state in
    ap (facts_at clock) now ∙ clear_facts n clock ∙ ap (λ (z : State). facts_after z.place z.place clock Clear (facts_at clock z)) c.self.view_is

pub returns-clause-silent : goal.returns-clause-silent
returns-clause-silent c = λ clock. clear_silent c.args.self.now clock

pub returns-clause-place : goal.returns-clause-place
returns-clause-place c = ap (λ (z : State). z.place) c.clear_tables.ensures.state ∙ ap (λ (z : State). z.place) c.self.view_is

pub invariant_of-self-inside : goal.invariant_of-self-inside
invariant_of-self-inside c =
    let n = state_of c.self.inside.tables c.self.inside.said in
    let now : state_of c.clear_tables.new.tables c.clear.new.self ≡ cleared n = ap (λ (m : LaneMap). state_of c.clear_tables.new.tables m) c.clear.ensures ∙ c.clear_tables.ensures.state in (
      c.clear_tables.ensures.sound,
      (
        subst IsSettled (sym now) (clear_settled n),
        (
          subst (λ (z : State). IsSaid z.said z) (sym now) (clear_said n),
          (c.clear_tables.ensures.ifaces ∙ c.self.inside.place ∙ ap (λ (z : State). z.place.ifaces) (sym c.clear_tables.ensures.state), tt),
        ),
      ),
    )
