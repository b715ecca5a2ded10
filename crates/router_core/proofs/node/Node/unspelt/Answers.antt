use Rattle.std.proofs.Common.{◌≡◌, fold, ap, subst, ◌∙◌}
use Rattle.router_rules.specs.Inputs.{Came, Unspelt}
use Rattle.router_rules.specs.Rule.{facts_after, heard_after, sent_after}
use Rattle.router_state.specs.State.{State, facts_at, facts_of}
use Rattle.router_state.specs.Whole.{state_of}
use Rattle.router_core.proofs.Erring.{unspelt_facts, unspelt_is_heard, unspelt_is_sent}
use Rattle.router_core.proofs.node.Node.unspelt.Goals as goal

pub returns-clause-facts : goal.returns-clause-facts
returns-clause-facts g c = λ clock.
    let n = state_of c.self.inside.tables c.self.inside.said in
    subst (λ (z : State). facts_at clock z ≡ facts_after z.place z.place clock (Came c.args.iface c.args.dst (Unspelt c.args.err.now)) (facts_at clock z)) c.self.view_is
    (unspelt_facts n c.self.inside.settled clock c.args.iface c.args.dst c.args.err.now)

pub returns-clause-heard : goal.returns-clause-heard
returns-clause-heard g c = λ clock.
    let n = state_of c.self.inside.tables c.self.inside.said in
    c.answer_unspelt.ensures.heard (facts_of clock n) ∙ unspelt_is_heard n c.self.inside.settled clock c.args.iface c.args.dst c.args.err.now
    ∙ ap (λ (z : State). heard_after z.place clock c.args.iface c.args.dst (Unspelt c.args.err.now) (facts_at clock z)) c.self.view_is

pub returns-clause-sent : goal.returns-clause-sent
returns-clause-sent g c = λ clock.
    let n = state_of c.self.inside.tables c.self.inside.said in
    c.answer_unspelt.ensures.sent (facts_of clock n)
    ∙ ap (fold g.O.Outbox.posted c.args.out.now)
    (unspelt_is_sent n c.self.inside.settled clock c.args.iface c.args.dst c.args.err.now
    ∙ ap (λ (z : State). sent_after z.place z.place clock (Came c.args.iface c.args.dst (Unspelt c.args.err.now)) (facts_at clock z)) c.self.view_is)
