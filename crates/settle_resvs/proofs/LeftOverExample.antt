-- The examples: a test of worlds, computed in each that ten rounds visit.
use Rattle.std.proofs.Common.{◌≡◌, ℕ, zero, suc, List, [], ◌∷◌, Bool, true, false, None, Some, inl, ⊎_elim, arith, sym, refl, ap, subst, ◌∙◌}
use Rattle.std.specs.Prelude.{slice_get, ◌&&◌}
use Rattle.std.specs.List.{list_all}
use Rattle.rsvp_base.specs.declared.session.Sender.{Sender}
use Rattle.rsvp_base.specs.declared.style.StyleKind.{StyleKind}
use Rattle.rsvp_base.specs.declared.style.StyleKind.TheVariants.{Wild}
use Rattle.rsvp_base.specs.declared.style.Unit.TheVariants.{One}
use Rattle.rsvp_base.specs.Members.{In}
use Rattle.rsvp_base.specs.Orders.{senders}
use Rattle.rsvp_base.specs.Table.{get, has}
use Rattle.rsvp_base.proofs.Counts.{found_in, set_of_in}
use Rattle.rsvp_base.proofs.Fronts.{got_in}
use Rattle.rsvp_base.proofs.Members.{all_in}
use Rattle.rsvp_base.proofs.SetLaws.{and_both}
use Rattle.style_rules.specs.Limits.{IsWithinLimits}
use Rattle.style_rules.specs.Lines.{held}
use Rattle.rsvp_base.specs.Styles.{name_of}
use Rattle.calm_rounds.proofs.Holding.{hold_map}
use Rattle.router_rules.specs.Facts.{Facts, SenderKey, no_facts, resvs_of, sender_keys}
use Rattle.router_rules.specs.Inputs.{Stale, StaleResv}
use Rattle.network_model.specs.ThreeRouters.{s1, r1, session, scope}
use Rattle.router_rules.specs.Rule.{facts_with}
use Rattle.tree_model.specs.Goals.{DemandsFit, demand_of}
use Rattle.tree_model.specs.Trees.{trees_of}
use Rattle.tree_model.specs.Wants.{want}
use Rattle.network_model.specs.Bounds.{AreBounds, AreHosts}
use Rattle.network_model.specs.Locals.{locals_of}
use Rattle.network_model.specs.Runs.{first_facts}
use Rattle.network_model.specs.Sound.{ArePathsSound, AreResvsSound}
use Rattle.network_model.specs.Steps.{machine}
use Rattle.network_model.specs.Worlds.{World, config_of}
use Rattle.laws_network.specs.Beginning.{left_resv}
use Rattle.laws_network.specs.Example.{pair_net}
use Rattle.laws_network.specs.Rounds.{rounds_of}
use Rattle.laws_network.proofs.Beginning.{the_first_world_is_within_bounds}
use Rattle.laws_network.proofs.Calming.{calm_rounds, rounds_is_calm}
use Rattle.laws_network.proofs.Computed.{Passes, through}
use Rattle.laws_network.proofs.Example.{hosts, valid}
use Rattle.laws_network.proofs.Known.{of_some}
use Rattle.settle_resvs.proofs.UnderTheGoal.{want_needs}
use Rattle.settle_paths.specs.Sure.{forth}
use Rattle.settle_resvs.specs.HopExample.{asked, asking_world}
use Rattle.settle_resvs.specs.LeftOverExample.{lost_key, lost_plan, lost_world, AReservationIsLost, NothingIsReservedYet}
use Rattle.router_rules.specs.Steps.{IsFitStale}

-- ---- the start
in_scope : (x : Sender) → has scope x ≡ true → x ≡ record { addr = s1; port = 0 }
in_scope x h = ⊎_elim (λ (e : x ≡ record { addr = s1; port = 0 }). e) (λ (no : ⊥). absurd no) (set_of_in senders ((record { addr = s1; port = 0 }) ∷ []) x h)

fit_resv : IsFitStale (config_of 7500 pair_net (trees_of pair_net.hops) 0) 0 (StaleResv Wild lost_key left_resv)
fit_resv = (
  record { later = omega arith; soon = omega arith },
  record {
    iface = omega arith;
    style = record { named = refl; listed = λ x h. subst (λ (z : Sender). name_of Wild z ≡ z) (sym (in_scope x h)) refl; one_unit = λ x y h k. refl };
    unit = refl;
    names = omega arith;
    flow = record { rate = omega arith; depth = omega arith; low = omega arith; most = omega arith };
  },
)

bounds : AreBounds 7500 lost_world
bounds =
    the_first_world_is_within_bounds lost_plan
    (record {
      period = omega arith;
      net = valid;
      hosts = hosts;
      stale = λ n i lt j.
          ⊎_elim
          (λ (same : (n, i) ≡ (0, StaleResv Wild lost_key left_resv)). subst (λ (z : ℕ × Stale). IsFitStale (config_of 7500 pair_net (trees_of pair_net.hops) z.0) 0 z.1) (sym same) fit_resv)
          (λ (no : ⊥). absurd no) j;
    })

-- no host sends
no_sender : {X : Type 0} (n : ℕ) (f : Facts) (k : SenderKey) (t : _) → slice_get lost_world.nodes n ≡ Some f → get f.senders k ≡ Some t → X
unfolding facts_with
no_sender zero f k t e h =
    let same : first_facts lost_plan 0 ≡ f = of_some _ _ e in
    let none : get (first_facts lost_plan 0).senders k ≡ Some t = ap (λ (z : Facts). get z.senders k) same ∙ h in
    absurd (cc)
no_sender (suc zero) f k t e h =
    let same : no_facts ≡ f = of_some _ _ e in
    let none : get no_facts.senders k ≡ Some t = ap (λ (z : Facts). get z.senders k) same ∙ h in
    absurd (cc)
no_sender (suc (suc n)) f k t e h = absurd (cc)

locals : AreHosts lost_world
unfolding facts_with
locals = record {
  placed = λ n f k t e h. no_sender n f k t e h;
  groups = λ n f k t e h. no_sender n f k t e h;
  few_senders = λ s. omega arith;
  few_sessions = omega arith;
}

-- nobody wants anything, so the demands fit
no_limits : (st : StyleKind) → IsWithinLimits st []
no_limits st = record { lines = omega arith; sessions = omega arith; next_hops = λ s. omega arith; names = λ s. omega arith }

fit : DemandsFit pair_net (locals_of lost_world)
unfolding facts_with
fit = record {
  capacity = λ e x is. let none : held (demand_of pair_net (locals_of lost_world) e) ≡ 0 = refl in omega arith;
  mtu = λ e x k p is got. absurd (cc);
  one_style = λ v w i j same. absurd i;
  limits = λ n st. no_limits st;
}

-- ---- no node has a path, and nothing is in flight
abbrev is_none : {A : Type 0} → List A → Bool
is_none [] = true
is_none (x ∷ xs) = false

none_in : {A : Type 0} (xs : List A) (x : A) → is_none xs ≡ true → In x xs → ⊥
none_in [] x t i = i
none_in (y ∷ ys) x t i = cc

abbrev has_no_path : Facts → Bool
has_no_path f = is_none f.paths.rows

abbrev is_quiet : World → Bool
is_quiet u = list_all has_no_path u.nodes && is_none u.flight

paths_told : (u : World) → is_quiet u ≡ true → ArePathsSound u
paths_told u t =
    let x = and_both (list_all has_no_path u.nodes) (is_none u.flight) t in
    record {
      facts = λ n f k p there h. absurd (none_in f.paths.rows (k, p) (all_in has_no_path u.nodes x.0 f (got_in u.nodes n f there)) (found_in sender_keys f.paths k p h));
      items = λ y m s v i spelt sender way. absurd (none_in u.flight y x.1 i);
      named = λ y m i spelt none. none_in u.flight y x.1 i;
    }

not_yet : AreResvsSound lost_world → ⊥
unfolding facts_with
not_yet sound =
    let s = (sound.facts Wild 0 (first_facts lost_plan 0) lost_key left_resv refl refl).sound in
    (want_needs Wild pair_net (locals_of lost_world) session s.hop One s.wanted s.is).there

pub a_reservation_is_lost : AReservationIsLost
unfolding facts_with
a_reservation_is_lost = record {
  start = record { bounds = bounds; locals = locals; fit = fit };
  hop = refl;
  rounds = λ k. calm_rounds 7500 k lost_world;
  settled = record {
    before = [];
    rounds = rounds_of 7500 32 lost_world;
    parts = refl;
    calm = calm_rounds 7500 32 lost_world;
    enough = let n = (rounds_is_calm 7500 32 lost_world).number in omega arith;
  };
  paths = hold_map (machine 7500) (Passes 7500 is_quiet) ArePathsSound paths_told 0 (rounds_of 7500 10 lost_world) lost_world (through 7500 is_quiet (rounds_of 7500 10 lost_world) lost_world refl);
  there = refl;
  not_yet = not_yet;
}

-- ---- what is wanted over the hop does not stand there
wanted : get (want Wild pair_net (locals_of asking_world) session forth) One ≡ Some asked
unfolding want
wanted = refl

pub nothing_is_reserved_yet : NothingIsReservedYet
nothing_is_reserved_yet = record {
  not_exact = λ exact.
      let x = exact Wild session forth (inl refl) in
      let r = x.wanted One asked wanted in
      let same = of_some _ _ x.node in
      let none : None ≡ Some r.0 = ap (λ (z : Facts). get (resvs_of Wild z) (session, ((0, r1), One))) same ∙ r.1 in
      absurd (cc);
}
