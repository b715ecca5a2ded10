use Rattle.std.proofs.Common.{List, ap, sym, subst, ◌≤◌, ◌∙◌, length}
use Rattle.std.specs.Prelude.{slice_get}
use Rattle.rsvp_objects.specs.declared.adspec.Adspec.{Adspec}
use Rattle.router_rules.specs.Adverts.{adverts_of}
use Rattle.router_rules.specs.Facts.{SenderKey}
use Rattle.router_state.specs.State.{State, facts_at}
use Rattle.router_state.specs.Whole.{state_of}
use Rattle.router_core.proofs.BySession.{by_session, few_adverts}
use Rattle.router_core.proofs.node.Node.advert_at.Goals as goal

pub returns-clause-advert : goal.returns-clause-advert
returns-clause-advert c = λ clock.
    let n = state_of c.self.inside.tables c.self.inside.said in
    c.advert_among.ensures
    ∙ ap (λ (xs : List (SenderKey × Adspec)). slice_get xs c.args.k) (sym (by_session c.args.iface clock n c.self.inside.settled.counted c.limits.ensures.keyed))
    ∙ ap (λ (z : State). slice_get (adverts_of (facts_at clock z) c.args.iface) c.args.k) c.self.view_is

pub returns-clause-few : goal.returns-clause-few
returns-clause-few c = λ clock.
    let n = state_of c.self.inside.tables c.self.inside.said in
    subst (λ (z : State). length (adverts_of (facts_at clock z) c.args.iface) ≤ 512) c.self.view_is (few_adverts c.args.iface clock n c.limits.ensures.within)
