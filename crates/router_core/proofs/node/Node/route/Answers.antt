use Rattle.std.proofs.Common.{sym, ap, ◌∙◌}
use Rattle.router_rules.specs.NodeConfig.{NodeConfig}
use Rattle.router_state.specs.State.{State}
use Rattle.router_state.specs.Whole.{state_of}
use Rattle.router_core.proofs.Waited.{moved_facts, moved_sent}
use Rattle.router_core.proofs.node.Node.route.Goals as goal

pub change_routes-requires : goal.change_routes-requires
change_routes-requires g c = record { sound = c.self.inside.sound; settled = c.self.inside.settled; said = c.self.inside.told; routed = c.requires }

pub returns-clause-facts : goal.returns-clause-facts
returns-clause-facts g c = λ clock. moved_facts (state_of c.self.inside.tables c.self.inside.said) c.args.self.now c.self.view_is c.args.routes.items clock
    (state_of c.change_routes.new.tables c.change_routes.new.said) (c.change_routes.ensures.facts clock)

pub returns-clause-sent : goal.returns-clause-sent
returns-clause-sent g c = λ clock. moved_sent
    (state_of c.self.inside.tables c.self.inside.said) c.args.self.now c.self.view_is c.args.routes.items clock g.O.Outbox.posted c.args.out.now c.change_routes.new.out
    (c.change_routes.ensures.sent clock)

pub returns-clause-place : goal.returns-clause-place
returns-clause-place g c = c.change_routes.ensures.place ∙ ap (λ (z : State). record z.place { routes = c.args.routes.items }) c.self.view_is

pub returns-clause-old : goal.returns-clause-old
returns-clause-old g c = c.change_routes.ensures.old ∙ ap (λ (z : State). z.place.routes) c.self.view_is

pub invariant_of-self-inside : goal.invariant_of-self-inside
invariant_of-self-inside g c = (
  c.change_routes.ensures.sound,
  (
    c.change_routes.ensures.settled,
    (
      c.change_routes.ensures.said,
      (c.change_routes.ensures.ifaces ∙ c.self.inside.place ∙ ap (λ (p : NodeConfig). p.ifaces) (sym c.change_routes.ensures.place), tt),
    ),
  ),
)
