-- The first route of a group and source is the one that their order finds.
use Rattle.std.specs.Prelude.{◌≡◌, ◌&&◌, true, false, cond, Bool, List, [], ◌∷◌, map as each, Some, refl}
use Rattle.std.proofs.Common.{sym, ap, ◌∙◌}
use Rattle.std.specs.FinMap.Entries.{find}
use Rattle.std.specs.Ordering.{eq_by_cmp}
use Rattle.rsvp_base.specs.declared.addr.Addr.{Addr}
use Rattle.rsvp_base.proofs.SetLaws.{and_both, and_made}
use Rattle.rsvp_base.proofs.Tables.{tied_same}
use Rattle.laws_bounds.specs.RouterRules.NodeConfig.{is_addr, route_in}
use Rattle.laws_bounds.specs.RouterRules.declared.route.Route.{Route}
use Rattle.router_state.specs.Routes.{route_keys, route_row}
use Rattle.laws_bounds.proofs.Tests.{addr_told, addr_tested, ties}

-- tests that pass together are equal
pub same_test : (x y : Bool) → (x ≡ true → y ≡ true) → (y ≡ true → x ≡ true) → x ≡ y
same_test true y f g = sym (f refl)
same_test false true f g = g refl
same_test false false f g = refl

pub is_route : (r : Route) (g a : Addr) → (is_addr r.group g && is_addr r.source a) ≡ eq_by_cmp route_keys.cmp (g, a) (r.group, r.source)
is_route r g a =
    same_test _ _
    (λ e. let h = and_both _ _ e in let p = addr_told _ _ h.0 in let q = addr_told _ _ h.1 in ties route_keys (g, a) (r.group, r.source) (λ i. (sym p i, sym q i)))
    (λ e. let h = tied_same route_keys (g, a) (r.group, r.source) e in and_made _ _ (addr_tested _ _ (λ i. (sym h i).0)) (addr_tested _ _ (λ i. (sym h i).1)))

pub route_at : (rs : List Route) (g a : Addr) → route_in rs g a ≡ find route_keys.cmp (g, a) (each route_row rs)
route_at [] g a = refl
route_at (r ∷ rs) g a =
    ap (λ b. cond b (Some r) (route_in rs g a)) (is_route r g a) ∙ ap (λ w. cond (eq_by_cmp route_keys.cmp (g, a) (r.group, r.source)) (Some r) w) (route_at rs g a)
