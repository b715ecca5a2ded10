-- A left-over blockade: nothing is in flight through three rounds.
use Rattle.std.proofs.Common.{◌≡◌, ℕ, List, [], ◌∷◌, Bool, true, false, ⊎_elim, arith, sym, refl, subst, Some, None, inl}
use Rattle.rsvp_base.specs.declared.style.Unit.TheVariants.{One}
use Rattle.rsvp_base.specs.Members.{In}
use Rattle.rsvp_base.specs.Table.{size}
use Rattle.calm_rounds.proofs.Holding.{hold_map}
use Rattle.rsvp_messages.specs.declared.message.Message.TheVariants as message
use Rattle.router_rules.specs.Facts.{no_facts}
use Rattle.router_rules.specs.Inputs.{Spelt, Stale, StaleWall}
use Rattle.network_model.specs.ThreeRouters.{r1, s1, scope, usual}
use Rattle.router_rules.specs.Rule.{facts_with}
use Rattle.router_rules.specs.Steps.{IsFitStale}
use Rattle.laws_steps.specs.Examples.{blockaded, wall_key}
use Rattle.tree_model.specs.Trees.{trees_of}
use Rattle.network_model.specs.Bounds.{AreBounds}
use Rattle.network_model.specs.Runs.{first_facts}
use Rattle.network_model.specs.Sound.{HasNoFlowError}
use Rattle.network_model.specs.Steps.{machine}
use Rattle.network_model.specs.Worlds.{World, config_of}
use Rattle.laws_network.specs.Example.{pair_net}
use Rattle.laws_network.specs.Rounds.{rounds_of}
use Rattle.laws_network.proofs.Beginning.{the_first_world_is_within_bounds}
use Rattle.laws_network.proofs.Calming.{calm_rounds}
use Rattle.laws_network.proofs.Computed.{Passes, through}
use Rattle.laws_network.proofs.Example.{hosts, valid}
use Rattle.settle_resvs.specs.BlockadeExample.{the_error, the_resv, wall_plan, wall_world, ABlockadeIsLeftOver, SomethingIsRefused}

abbrev is_none : {A : Type 0} → List A → Bool
is_none [] = true
is_none (x ∷ xs) = false

none_in : {A : Type 0} (xs : List A) (x : A) → is_none xs ≡ true → In x xs → ⊥
none_in [] x t i = i
none_in (y ∷ ys) x t i = cc

fit_wall : IsFitStale (config_of 7500 pair_net (trees_of pair_net.hops) 0) 0 (StaleWall wall_key blockaded)
fit_wall = (record { later = omega arith; soon = omega arith }, record { iface = omega arith; flow = record { rate = omega arith; depth = omega arith; low = omega arith; most = omega arith } })

bounds : AreBounds 7500 wall_world
bounds =
    the_first_world_is_within_bounds wall_plan
    (record {
      period = omega arith;
      net = valid;
      hosts = hosts;
      stale = λ n i lt j.
          ⊎_elim
          (λ (same : (n, i) ≡ (0, StaleWall wall_key blockaded)). subst (λ (z : ℕ × Stale). IsFitStale (config_of 7500 pair_net (trees_of pair_net.hops) z.0) 0 z.1) (sym same) fit_wall)
          (λ (no : ⊥). absurd no) j;
    })

abbrev is_still : World → Bool
is_still u = is_none u.flight

pub a_blockade_is_left_over : ABlockadeIsLeftOver
unfolding facts_with
a_blockade_is_left_over = record {
  bounds = bounds;
  rounds = calm_rounds 7500 3 wall_world;
  no_error = hold_map (machine 7500) (Passes 7500 is_still) HasNoFlowError (λ u t y m i spelt. absurd (none_in u.flight y t i)) 0 (rounds_of 7500 3 wall_world) wall_world
      (through 7500 is_still (rounds_of 7500 3 wall_world) wall_world refl);
  there = refl;
  not_yet = λ free. let none : size (first_facts wall_plan 0).walls ≡ 0 = free.walls 0 (first_facts wall_plan 0) refl in absurd (cc);
}

pub something_is_refused : SomethingIsRefused
something_is_refused = record {
  refused = λ takes.
      let r = takes (record { end = 0; dst = s1; arrival = Spelt (message.Resv the_resv); born = 0 }) the_resv no_facts (record { unit = One; names = Some scope; flow = usual }) refl refl refl
      (inl refl) in
      let none : None ≡ Some r.0 = r.1 in
      absurd (cc);
  blamed = λ none. let no : None ≡ Some usual = sym (none (record { end = 1; dst = r1; arrival = Spelt (message.ResvErr the_error); born = 0 }) the_error (inl refl) refl) in absurd (cc);
}
