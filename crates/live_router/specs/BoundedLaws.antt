-- What is said of a node within bounds: the claims of the public laws.
use Rattle.std.specs.Prelude.{◌≡◌, ℕ, ◌≤◌}
use Rattle.std.specs.List.{All}
use Rattle.rsvp_messages.specs.Proper.{IsProper}
use Rattle.router_rules.specs.Inputs.{Input, Stale}
use Rattle.router_rules.specs.NodeConfig.{NodeConfig}
use Rattle.router_rules.specs.Rule.{facts_after, facts_with, sent_after}
use Rattle.router_rules.specs.Steps.{IsFit, IsFitStale, IsSameNode, clock_after}
use Rattle.router_state.specs.State.{State, facts_at, no_state}
use Rattle.live_router.specs.Bounded.{IsBounded}

abbrev pub NoFactsAreBounded : Type 0
NoFactsAreBounded = (p : NodeConfig) → 1 ≤ p.quarter → IsBounded (no_state p)

-- a node that did at some clock what the rule says of a fit input
abbrev pub AnInputKeepsBounds : Type 0
AnInputKeepsBounds =
    (old new : State) (c : ℕ) (i : Input) → IsBounded old → IsSameNode old.place new.place → IsFit new.place i
    → facts_at (clock_after c i) new ≡ facts_after old.place new.place (clock_after c i) i (facts_at c old) → IsBounded new

-- a node that was given at some clock a fit fact
abbrev pub LeftOverFactsKeepBounds : Type 0
LeftOverFactsKeepBounds = (old new : State) (c : ℕ) (i : Stale) → IsBounded old → new.place ≡ old.place → IsFitStale old.place c i
    → facts_at c new ≡ facts_with old.place c i (facts_at c old) → IsBounded new

abbrev pub BoundedNodesSendProperMessages : Type 0
BoundedNodesSendProperMessages =
    (old : State) (p : NodeConfig) (c : ℕ) (i : Input) → IsBounded old → IsSameNode old.place p → IsFit p i
    → All (λ s. IsProper s.message) (sent_after old.place p (clock_after c i) i (facts_at c old))
