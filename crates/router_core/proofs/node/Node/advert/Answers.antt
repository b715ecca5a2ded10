use Rattle.std.proofs.Common.{Some, None, ap, ◌∙◌}
use Rattle.rsvp_base.specs.Table.{get}
use Rattle.router_rules.specs.Facts.{SenderKey}
use Rattle.router_state.specs.State.{State, facts_at}
use Rattle.router_state.specs.Whole.{state_of}
use Rattle.router_core.specs.Adverts.{kept_in}
use Rattle.router_core.proofs.BySession.{kept_seen}
use Rattle.router_core.proofs.node.Node.advert.Goals as goal

pub returns-in-Some : goal.returns-in-Some
returns-in-Some c = λ clock.
    let k : SenderKey = (c.args.session, c.args.sender) in
    c.copy_of.ensures ∙ kept_seen clock (state_of c.self.inside.tables c.self.inside.said) k (Some c.in-Some.fact.now) c.in-Some.ensures.fact ∙ ap (λ (z : State). kept_in (get (facts_at clock z).paths k)) c.self.view_is

pub returns-in-None : goal.returns-in-None
returns-in-None c = λ clock.
    let k : SenderKey = (c.args.session, c.args.sender) in
    kept_seen clock (state_of c.self.inside.tables c.self.inside.said) k None c.in-None.ensures.fact ∙ ap (λ (z : State). kept_in (get (facts_at clock z).paths k)) c.self.view_is
