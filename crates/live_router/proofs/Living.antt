-- What a call leaves of what holds of a router.
use Rattle.std.specs.Prelude.{◌≡◌, ◌≤◌, ◌&&◌, Bool, true, List, [], ◌∷◌, IsTrue, map as each, length, refl}
use Rattle.std.specs.FinMap.Entries.{below_all, is_sorted}
use Rattle.std.specs.Ordering.{is_lt}
use Rattle.std.specs.declared.cmp.Ordering.{Ordering}
use Rattle.std.proofs.Common.{ap, subst, sym, ◌∙◌}
use Rattle.std.proofs.lemmas.List.{length-map}
use Rattle.rsvp_base.specs.declared.addr.Addr.{Addr}
use Rattle.router_rules.specs.declared.route.Route.{Route}
use Rattle.router_rules.specs.NodeConfig.{NodeConfig}
use Rattle.network_replay.specs.Routed.{tree_of, trees_in}
use Rattle.router_state.specs.Routes.{AreRoutes, route_keys, route_row}
use Rattle.router_state.specs.State.{State, no_state}
use Rattle.live_router.specs.Bounded.{IsBounded}
use Rattle.live_router.proofs.Doing.{no_facts_are_bounded}
use Rattle.live_router.specs.Living.{IsLive}

-- ---- routes of the same trees are in the same order
abbrev Tree : Type 0
Tree = Addr × Addr

abbrev order : Tree → Tree → Ordering
order = route_keys.cmp

abbrev below_trees : Tree → List Tree → Bool
below_trees x [] = true
below_trees x (t ∷ ts) = is_lt (order x t) && below_trees x ts

abbrev sorted_trees : List Tree → Bool
sorted_trees [] = true
sorted_trees (t ∷ ts) = below_trees t ts && sorted_trees ts

below_is : (x : Tree) (rs : List Route) → below_all order x (each route_row rs) ≡ below_trees x (trees_in rs)
below_is x [] = refl
below_is x (r ∷ rs) = ap (λ b. is_lt (order x (tree_of r)) && b) (below_is x rs)

sorted_is : (rs : List Route) → is_sorted order (each route_row rs) ≡ sorted_trees (trees_in rs)
sorted_is [] = refl
sorted_is (r ∷ rs) = λ i. below_is (tree_of r) rs i && sorted_is rs i

pub same_order : (rs qs : List Route) → trees_in rs ≡ trees_in qs → AreRoutes rs → AreRoutes qs
same_order rs qs same up = subst (λ (b : Bool). IsTrue b) (sorted_is rs ∙ ap sorted_trees same ∙ sym (sorted_is qs)) up

pub same_many : (rs qs : List Route) → trees_in rs ≡ trees_in qs → length rs ≡ length qs
same_many rs qs same = sym (length-map rs tree_of) ∙ ap length same ∙ length-map qs tree_of

-- ---- a call that leaves the node where it stands
pub lives_on : (old new : State) (spare : List Route) → IsLive old spare → new.place ≡ old.place → IsBounded new → IsLive new spare
lives_on old new spare live same bounded =
    record {
      bounded = bounded;
      routed = subst (λ (p : NodeConfig). AreRoutes p.routes) (sym same) live.routed;
      room = live.room ∙ ap (λ (p : NodeConfig). length p.routes) (sym same);
    }

-- ---- a call that gives it other routes of the same trees, and hands back those that it had
pub lives_moved : (old new : State) (routes spare : List Route) → AreRoutes old.place.routes → trees_in old.place.routes ≡ trees_in routes → new.place ≡ record old.place { routes = routes }
    → spare ≡ old.place.routes → IsBounded new → IsLive new spare
lives_moved old new routes spare up trees same were bounded =
    record {
      bounded = bounded;
      routed = subst (λ (p : NodeConfig). AreRoutes p.routes) (sym same) (same_order old.place.routes routes trees up);
      room = ap length were ∙ same_many old.place.routes routes trees ∙ ap (λ (p : NodeConfig). length p.routes) (sym same);
    }

-- ---- a router without facts
pub lives_first : (n : State) (p : NodeConfig) (spare : List Route) → n ≡ no_state p → 1 ≤ p.quarter → AreRoutes p.routes → spare ≡ p.routes → IsLive n spare
lives_first n p spare first some up room =
    record {
      bounded = subst IsBounded (sym first) (no_facts_are_bounded p some);
      routed = subst (λ (s : State). AreRoutes s.place.routes) (sym first) up;
      room = ap length room ∙ ap (λ (s : State). length s.place.routes) (sym first);
    }
