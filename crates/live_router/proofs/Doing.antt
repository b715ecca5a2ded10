-- What a node does keeps it within bounds, and what it sends is proper.
use Rattle.std.specs.Prelude.{◌≡◌, ℕ, ◌≤◌, List, [], ◌∷◌, refl}
use Rattle.std.specs.List.{All}
use Rattle.std.proofs.Common.{sym, ap, subst, ◌∙◌, inl, inr}
use Rattle.std.proofs.lemmas.List.Elements.{All-cons, All-nil}
use Rattle.rsvp_base.specs.Members.{In}
use Rattle.rsvp_messages.specs.Proper.{IsProper}
use Rattle.router_rules.specs.Bounds.{IsWithinBounds}
use Rattle.router_rules.specs.Inputs.{Input, Send}
use Rattle.router_rules.specs.NodeConfig.{NodeConfig}
use Rattle.router_rules.specs.declared.route.Route.{Route}
use Rattle.router_rules.specs.Rule.{facts_after, sent_after}
use Rattle.router_rules.specs.Steps.{IsFit, IsSameNode, clock_after}
use Rattle.router_rules.proofs.Bounding.{no_facts_are_within_bounds}
use Rattle.router_rules.proofs.Fronting.{fronts_are_the_rule}
use Rattle.laws_bounds.proofs.Bounded.{a_step_keeps_a_node_within_bounds}
use Rattle.laws_bounds.proofs.LeftOver.{left_over_facts_are_within_bounds}
use Rattle.laws_bounds.proofs.Wording.{what_is_sent_is_proper}
use Rattle.router_state.specs.State.{State, facts_at, facts_of, no_state}
use Rattle.live_router.specs.Bounded.{IsBounded}
use Rattle.live_router.specs.BoundedLaws.{AnInputKeepsBounds, BoundedNodesSendProperMessages, LeftOverFactsKeepBounds, NoFactsAreBounded}
use Rattle.live_router.proofs.Shifting.{bounded_at}

-- ---- the front of the facts
pub front_is : (c : ℕ) (n : State) → facts_at c n ≡ facts_of c n
unfolding facts_at
front_is c n = refl

within_front : (n : State) → IsBounded n → (c : ℕ) → IsWithinBounds n.place c (facts_at c n)
within_front n kept c = subst (IsWithinBounds n.place c) (sym (front_is c n)) (kept.within c)

bounded_front : (n : State) (c : ℕ) → 1 ≤ n.place.quarter → IsWithinBounds n.place c (facts_at c n) → IsBounded n
bounded_front n c some w = bounded_at n c some (subst (IsWithinBounds n.place c) (front_is c n) w)

-- ---- lists of which each member is something
all_in : {X : Type 0} (P : X → Type 0) (xs : List X) → ((x : X) → In x xs → P x) → All P xs
all_in P [] h = All-nil P
all_in P (x ∷ xs) h = All-cons P x xs (h x (inl refl)) (all_in P xs (λ y i. h y (inr i)))

-- ---- a node without facts
pub no_facts_are_bounded : NoFactsAreBounded
no_facts_are_bounded p some = bounded_at (no_state p) 0 some (no_facts_are_within_bounds p 0)

-- ---- an input
pub an_input_keeps_bounds : AnInputKeepsBounds
an_input_keeps_bounds old new c i kept same fit is =
    bounded_front new (clock_after c i) same.some
    (subst (IsWithinBounds new.place (clock_after c i)) (sym (is ∙ fronts_are_the_rule.facts old.place new.place (clock_after c i) i (facts_at c old)))
    (a_step_keeps_a_node_within_bounds old.place new.place c i (facts_at c old) same fit (within_front old kept c)))

-- ---- a fact that is left over
pub left_over_facts_keep_bounds : LeftOverFactsKeepBounds
left_over_facts_keep_bounds old new c i kept same fit is =
    bounded_front new c (subst (λ (p : NodeConfig). 1 ≤ p.quarter) (sym same) kept.some)
    (subst (λ (p : NodeConfig). IsWithinBounds p c (facts_at c new)) (sym same)
    (subst (IsWithinBounds old.place c) (sym is) (left_over_facts_are_within_bounds old.place c i (facts_at c old) kept.some fit (within_front old kept c))))

-- ---- what is sent
pub bounded_nodes_send_proper_messages : BoundedNodesSendProperMessages
bounded_nodes_send_proper_messages old p c i kept same fit =
    all_in (λ (s : Send). IsProper s.message) (sent_after old.place p (clock_after c i) i (facts_at c old))
    (λ s h.
    what_is_sent_is_proper old.place p c i (facts_at c old) same fit (within_front old kept c) s
    (subst (In s) (fronts_are_the_rule.sent old.place p (clock_after c i) i (facts_at c old)) h))

-- ---- a node that stays where it is
pub same_node : (n : State) → IsBounded n → IsSameNode n.place n.place
same_node n kept = record { quarter = refl; ifaces = refl; some = kept.some }

pub stays_bounded : (old new : State) (c : ℕ) (i : Input) → IsBounded old → new.place ≡ old.place → IsFit old.place i
    → facts_at (clock_after c i) new ≡ facts_after old.place old.place (clock_after c i) i (facts_at c old) → IsBounded new
stays_bounded old new c i kept same fit is =
    an_input_keeps_bounds old new c i kept (subst (IsSameNode old.place) (sym same) (same_node old kept)) (subst (λ (p : NodeConfig). IsFit p i) (sym same) fit)
    (is ∙ ap (λ (p : NodeConfig). facts_after old.place p (clock_after c i) i (facts_at c old)) (sym same))

pub sends_proper : (n : State) (c : ℕ) (i : Input) → IsBounded n → IsFit n.place i → All (λ s. IsProper s.message) (sent_after n.place n.place (clock_after c i) i (facts_at c n))
sends_proper n c i kept fit = bounded_nodes_send_proper_messages n n.place c i kept (same_node n kept) fit

-- ---- a node whose routes are others
pub rerouted_node : (n : State) (p : NodeConfig) (routes : List Route) → IsBounded n → p ≡ record n.place { routes = routes } → IsSameNode n.place p
rerouted_node n p routes kept is = subst (IsSameNode n.place) (sym is) (record { quarter = refl; ifaces = refl; some = kept.some })
