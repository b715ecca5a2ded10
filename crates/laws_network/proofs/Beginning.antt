-- The first world of a script is within bounds.
use Rattle.std.proofs.Common.{◌≡◌, ℕ, zero, suc, ◌+◌, ◌<◌, ◌≤◌, List, [], ◌∷◌, length, Bool, true, false, cond, Some, inl, inr, ⊎_elim, arith, sym, refl, ap, subst, ◌∙◌}
use Rattle.std.specs.Prelude.{slice_get, map as each, ◌==◌}
use Rattle.std.specs.List.{range_with_len}
use Rattle.std.proofs.lemmas.List.FromFn.{length-map-range_with_len}
use Rattle.std.proofs.lemmas.Option.{slice_get_within}
use Rattle.rsvp_base.specs.declared.addr.Addr.{Addr}
use Rattle.rsvp_base.specs.declared.session.Sender.{Sender}
use Rattle.rsvp_base.specs.declared.style.StyleKind.TheVariants.{Wild}
use Rattle.rsvp_base.specs.Members.{In}
use Rattle.rsvp_base.specs.Orders.{senders}
use Rattle.rsvp_base.specs.Sets.{set_of}
use Rattle.rsvp_base.specs.Table.{get, has}
use Rattle.rsvp_base.proofs.Counts.{found_in, in_set_of, set_of_in}
use Rattle.rsvp_base.proofs.Members.{to_each}
use Rattle.rsvp_base.specs.Styles.{name_of}
use Rattle.network_model.specs.RouterRules.Bounds.{IsWithinBounds}
use Rattle.network_model.specs.RouterRules.Facts.{Facts, no_facts}
use Rattle.network_model.specs.RouterRules.Inputs.{Stale, StaleResv}
use Rattle.network_model.specs.ThreeRouters.{s1, scope}
use Rattle.network_model.specs.RouterRules.NodeConfig.{NodeConfig}
use Rattle.network_model.specs.RouterRules.Rule.{facts_with}
use Rattle.network_model.proofs.RouterRules.Bounding.{no_facts_are_within_bounds}
use Rattle.network_model.specs.RouterRules.Steps.{IsFitStale}
use Rattle.laws_steps.proofs.LawsBounds.LeftOver.{left_over_facts_are_within_bounds}
use Rattle.tree_model.specs.declared.hops.TreeHop.{TreeHop}
use Rattle.tree_model.specs.Trees.{tree_keys, key_of, trees_of}
use Rattle.tree_model.proofs.Following.{same_number}
use Rattle.network_model.specs.Bounds.{AreBounds}
use Rattle.network_model.specs.Runs.{Plan, left_over, first_facts, first_world}
use Rattle.network_model.specs.Worlds.{config_of}
use Rattle.laws_network.specs.Example.{pair_net}
use Rattle.laws_network.specs.Beginning.{IsFitPlan, left_key, left_resv, APlanIsFit}
use Rattle.laws_network.proofs.Example.{hosts, valid}
use Rattle.laws_network.proofs.Known.{has_some}

-- ---- nodes have a route for each tree that has a hop
routed_first : (hops : List TreeHop) (r : TreeHop) → In r hops → In (r.group, r.source) (trees_of hops)
routed_first hops r i =
    let v = has_some (get (set_of {o = tree_keys} (each key_of hops)) (key_of r)) (in_set_of tree_keys (each key_of hops) (key_of r) (to_each key_of r hops i)) in
    to_each (λ (e : (Addr × Addr) × Unit {0}). e.0) (key_of r, v.0) (set_of {o = tree_keys} (each key_of hops)).rows (found_in tree_keys (set_of {o = tree_keys} (each key_of hops)) (key_of r) v.0 v.1)

-- ---- what stands at a place of a list that is made place by place
pub each_found : {X : Type 0} (f : ℕ → X) (a n k : ℕ) (x : X) → slice_get (each f (range_with_len a n)) k ≡ Some x → f (a + k) ≡ x
each_found f a zero k x e = absurd (cc)
each_found f a (suc n) zero x e =
    let at : a + 0 ≡ a = omega arith in
    let same : f a ≡ x = cc in
    ap f at ∙ same
each_found f a (suc n) (suc k) x e =
    let at : a + suc k ≡ (a + 1) + k = omega arith in
    ap f at ∙ each_found f (a + 1) n k x e

-- ---- what is left over at a node, one after the other
left_within : (p : NodeConfig) (n : ℕ) → 1 ≤ p.quarter → (ss : List (ℕ × Stale)) (f : Facts) → ((i : Stale) → In (n, i) ss → IsFitStale p 0 i) → IsWithinBounds p 0 f
    → IsWithinBounds p 0 (left_over p n ss f)
left_within p n some [] f fit b = b
left_within p n some (s ∷ ss) f fit b = left_within p n some ss (cond (s.0 == n) (facts_with p 0 s.1 f) f) (λ i j. fit i (inr j)) (by (s.0 == n) refl)
  where
    by : (c : Bool) → (s.0 == n) ≡ c → IsWithinBounds p 0 (cond c (facts_with p 0 s.1 f) f)
    by true e = let same : s.0 ≡ n = same_number s.0 n e in left_over_facts_are_within_bounds p 0 s.1 f some (fit s.1 (inl (λ i. (sym same i, s.1)))) b
    by false e = b

-- ---- all together
pub the_first_world_is_within_bounds : (p : Plan) → IsFitPlan p → AreBounds p.quarter (first_world p)
the_first_world_is_within_bounds p fit =
    let many : length (each (first_facts p) (range_with_len 0 p.net.nodes)) ≡ p.net.nodes = length-map-range_with_len (first_facts p) 0 p.net.nodes in
    record {
      period = fit.period;
      net = fit.net;
      hosts = fit.hosts;
      routed = routed_first p.net.hops;
      nodes = many;
      facts = λ n f there.
          let inside : n < length (each (first_facts p) (range_with_len 0 p.net.nodes)) = slice_get_within (each (first_facts p) (range_with_len 0 p.net.nodes)) n f there in
          let place : NodeConfig = config_of p.quarter p.net (trees_of p.net.hops) n in
          let at : n ≡ 0 + n = omega arith in
          let is : first_facts p n ≡ f = ap (first_facts p) at ∙ each_found (first_facts p) 0 p.net.nodes n f there in
          subst (λ (z : Facts). IsWithinBounds place 0 z) is (left_within place n fit.period p.stale no_facts (λ i j. fit.stale n i (omega (arith, inside, many)) j)
          (no_facts_are_within_bounds place 0));
      flight = λ x i. absurd i;
    }

-- ---- the example
abbrev pair_place : NodeConfig
pair_place = config_of 7500 pair_net (trees_of pair_net.hops) 0

in_scope : (x : Sender) → has scope x ≡ true → x ≡ record { addr = s1; port = 0 }
in_scope x h = ⊎_elim (λ (e : x ≡ record { addr = s1; port = 0 }). e) (λ (no : ⊥). absurd no) (set_of_in senders ((record { addr = s1; port = 0 }) ∷ []) x h)

fit_resv : IsFitStale pair_place 0 (StaleResv Wild left_key left_resv)
fit_resv = (
  record { later = omega arith; soon = omega arith },
  record {
    iface = omega arith;
    style = record { named = refl; listed = λ x h. subst (λ (z : Sender). name_of Wild z ≡ z) (sym (in_scope x h)) refl; one_unit = λ x y h k. refl };
    unit = refl;
    names = omega arith;
    flow = record { rate = omega arith; depth = omega arith; low = omega arith; most = omega arith };
  },
)

pub a_plan_is_fit : APlanIsFit
unfolding facts_with
a_plan_is_fit = record {
  fit = record {
    period = omega arith;
    net = valid;
    hosts = hosts;
    stale = λ n i lt j.
        ⊎_elim
        (λ (same : (n, i) ≡ (0, StaleResv Wild left_key left_resv)). subst (λ (z : ℕ × Stale). IsFitStale (config_of 7500 pair_net (trees_of pair_net.hops) z.0) 0 z.1) (sym same) fit_resv)
        (λ (no : ⊥). absurd no) j;
  };
  there = refl;
}
