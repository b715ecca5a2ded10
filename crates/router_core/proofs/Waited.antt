-- What a wait and a move of routes do, at every clock.
use Rattle.std.specs.Prelude.{◌≡◌, ℕ, ◌+◌, fold, List}
use Rattle.std.proofs.Common.{ap, ◌∙◌}
use Rattle.router_rules.specs.declared.route.Route.{Route}
use Rattle.router_rules.specs.Inputs.{Moved, Send, Wait}
use Rattle.router_rules.specs.Rule.{facts_after, sent_after}
use Rattle.router_state.specs.State.{State, facts_at, facts_of}

-- n is what there was, seen as old
module _ (n old : State) (same : n ≡ old) (ms word c : ℕ) where
  pub waited_facts : (m : State) → facts_of (c + ms) m ≡ facts_after n.place n.place (c + ms) (Wait ms word) (facts_of c n)
      → facts_at (c + ms) m ≡ facts_after old.place old.place (c + ms) (Wait ms word) (facts_at c old)
  unfolding facts_at
  waited_facts m done = done ∙ ap (λ (z : State). facts_after z.place z.place (c + ms) (Wait ms word) (facts_of c z)) same

  pub waited_sent : {B : Type 0} (posted : B → Send → B) (before after : B) → after ≡ fold posted before (sent_after n.place n.place (c + ms) (Wait ms word) (facts_of c n))
      → after ≡ fold posted before (sent_after old.place old.place (c + ms) (Wait ms word) (facts_at c old))
  unfolding facts_at
  waited_sent posted before after done = done ∙ ap (λ (z : State). fold posted before (sent_after z.place z.place (c + ms) (Wait ms word) (facts_of c z))) same

-- with other routes than before
module _ (n old : State) (same : n ≡ old) (rs : List Route) (c : ℕ) where
  pub moved_facts : (m : State) → facts_of c m ≡ facts_after n.place (record n.place { routes = rs }) c Moved (facts_of c n)
      → facts_at c m ≡ facts_after old.place (record old.place { routes = rs }) c Moved (facts_at c old)
  unfolding facts_at
  moved_facts m done = done ∙ ap (λ (z : State). facts_after z.place (record z.place { routes = rs }) c Moved (facts_of c z)) same

  pub moved_sent : {B : Type 0} (posted : B → Send → B) (before after : B) → after ≡ fold posted before (sent_after n.place (record n.place { routes = rs }) c Moved (facts_of c n))
      → after ≡ fold posted before (sent_after old.place (record old.place { routes = rs }) c Moved (facts_at c old))
  unfolding facts_at
  moved_sent posted before after done = done ∙ ap (λ (z : State). fold posted before (sent_after z.place (record z.place { routes = rs }) c Moved (facts_of c z))) same
