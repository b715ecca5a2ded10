use Rattle.std.proofs.Common.{◌≤◌, ◌*◌, sym, ap, subst, ◌∙◌}
use Rattle.router_rules.specs.NodeConfig.{NodeConfig}
use Rattle.router_state.specs.State.{State}
use Rattle.router_state.specs.Whole.{state_of}
use Rattle.router_core.proofs.Waited.{waited_facts, waited_sent}
use Rattle.router_core.proofs.node.Node.wait.Goals as goal

pub pass_time-requires : goal.pass_time-requires
pass_time-requires g c = record {
  sound = c.self.inside.sound;
  settled = c.self.inside.settled;
  said = c.self.inside.told;
  short = subst (λ (z : State). c.args.ms ≤ 2 * z.place.quarter) (sym c.self.view_is) c.requires;
}

pub returns-clause-facts : goal.returns-clause-facts
returns-clause-facts g c = λ clock. waited_facts (state_of c.self.inside.tables c.self.inside.said) c.args.self.now c.self.view_is c.args.ms c.args.word clock
    (state_of c.pass_time.new.tables c.pass_time.new.said) (c.pass_time.ensures.facts clock)

pub returns-clause-sent : goal.returns-clause-sent
returns-clause-sent g c = λ clock. waited_sent
    (state_of c.self.inside.tables c.self.inside.said) c.args.self.now c.self.view_is c.args.ms c.args.word clock g.O.Outbox.posted c.args.out.now c.pass_time.new.out (c.pass_time.ensures.sent clock)

pub returns-clause-place : goal.returns-clause-place
returns-clause-place g c = c.pass_time.ensures.place ∙ ap (λ (z : State). z.place) c.self.view_is

pub invariant_of-self-inside : goal.invariant_of-self-inside
invariant_of-self-inside g c = (
  c.pass_time.ensures.sound,
  (
    c.pass_time.ensures.settled,
    (
      c.pass_time.ensures.said,
      (c.pass_time.ensures.ifaces ∙ c.self.inside.place ∙ ap (λ (p : NodeConfig). p.ifaces) (sym c.pass_time.ensures.place), tt),
    ),
  ),
)
