use Rattle.std.proofs.Common.{◌≡◌, fold, ap, subst, ◌∙◌, refl}
use Rattle.rsvp_messages.specs.declared.message.Message.TheVariants as message
use Rattle.router_rules.specs.Inputs.{Spelt}
use Rattle.router_rules.specs.NodeConfig.{own}
use Rattle.router_rules.specs.Rule.{facts_after, heard_after, sent_after}
use Rattle.router_state.specs.State.{State, facts_at}
use Rattle.router_state.specs.Whole.{state_of}
use Rattle.router_arrivals.specs.Arriving.{to_node}
use Rattle.router_core.proofs.Erring.{resv_conf_facts, resv_conf_is_heard, resv_conf_is_sent}
use Rattle.router_core.proofs.node.Node.resv_conf.Goals as goal

pub returns-clause-facts : goal.returns-clause-facts
returns-clause-facts g c = λ clock.
    let n = state_of c.self.inside.tables c.self.inside.said in
    subst (λ (z : State). facts_at clock z ≡ facts_after z.place z.place clock (to_node z.place c.args.iface (message.ResvConf c.args.message.now)) (facts_at clock z)) c.self.view_is
    (resv_conf_facts n c.self.inside.settled clock c.args.iface c.args.message.now)

pub returns-clause-heard : goal.returns-clause-heard
returns-clause-heard g c = λ clock.
    let n = state_of c.self.inside.tables c.self.inside.said in
    c.pass_resv_conf.ensures.heard clock n refl refl refl refl ∙ resv_conf_is_heard n c.self.inside.settled clock c.args.iface c.args.message.now
    ∙ ap (λ (z : State). heard_after z.place clock c.args.iface (own z.place c.args.iface) (Spelt (message.ResvConf c.args.message.now)) (facts_at clock z)) c.self.view_is

pub returns-clause-sent : goal.returns-clause-sent
returns-clause-sent g c = λ clock.
    let n = state_of c.self.inside.tables c.self.inside.said in
    c.pass_resv_conf.ensures.sent clock n refl refl refl refl
    ∙ ap (fold g.O.Outbox.posted c.args.out.now)
    (resv_conf_is_sent n c.self.inside.settled clock c.args.iface c.args.message.now
    ∙ ap (λ (z : State). sent_after z.place z.place clock (to_node z.place c.args.iface (message.ResvConf c.args.message.now)) (facts_at clock z)) c.self.view_is)
