use Rattle.std.proofs.Common.{◌≡◌, ◌∙◌, ap, sym, subst}
use Rattle.stale_state.specs.AtNodes.{list_of}
use Rattle.network_model.specs.Runs.{left_over}
use Rattle.router_state.specs.State.{State, facts_at}
use Rattle.router_rules.specs.Facts.{Facts, no_facts}
use Rattle.router_rules.specs.NodeConfig.{NodeConfig}
use Rattle.stale_state.specs.Fit.{place_of}
use Rattle.live_router.specs.Leaving.{AreFitAt}
use Rattle.live_router.proofs.Opened.{fit_at, none_kept}
use Rattle.live_router.proofs.network.open_at.Goals as goal

pub left_at-requires : goal.left_at-requires
left_at-requires c =
    let n = c.args.node in
    let p : c.in_ok-router.router.place ≡ place_of c.args.quarter c.args.routing.now n = ap (λ (s : State). s.place) c.in_ok-router.ensures ∙ c.in_ok-config.ensures in
    record { fit = subst (λ (q : NodeConfig). AreFitAt q n c.args.left.now) (sym p) (fit_at c.args.quarter c.args.routing.now n c.args.left.now c.requires.fit) }

pub returns : goal.returns
returns c =
    let n = c.args.node in
    let ss = list_of c.args.left.now in
    let old = c.in_ok-router.router in
    let p : old.place ≡ place_of c.args.quarter c.args.routing.now n = ap (λ (s : State). s.place) c.in_ok-router.ensures ∙ c.in_ok-config.ensures in
    let none : facts_at 0 old ≡ no_facts = none_kept _ old c.in_ok-router.ensures in
    record {
      place = c.left_at.ensures.place ∙ p;
      facts = c.left_at.ensures.facts ∙ ap (λ (f : Facts). left_over old.place n ss f) none ∙ ap (λ (q : NodeConfig). left_over q n ss no_facts) p;
    }
