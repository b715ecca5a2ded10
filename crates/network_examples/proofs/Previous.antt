-- Previous hops of the asking pair, by computing.
use Rattle.std.proofs.Common.{◌≡◌, ℕ, [], ◌∷◌, true, false, None, Some, inl, ⊎_elim, arith, refl, ap, sym, subst, ◌∙◌}
use Rattle.std.specs.Prelude.{is_some, slice_get}
use Rattle.std.specs.Option.{unwrap_or}
use Rattle.rsvp_base.specs.declared.style.StyleKind.TheVariants.{Wild}
use Rattle.rsvp_base.specs.declared.style.Unit.TheVariants.{One}
use Rattle.rsvp_base.specs.Orders.{Names}
use Rattle.rsvp_base.specs.Table.{empty, get, size}
use Rattle.style_rules.specs.Lines.{LineKey}
use Rattle.style_rules.specs.Merge.{PartTable}
use Rattle.laws_bounds.specs.FactLaws.{ComesBy}
use Rattle.router_rules.specs.Facts.{Facts, ResvState, no_facts, resvs_of}
use Rattle.router_rules.specs.Inputs.{WantAs}
use Rattle.router_rules.specs.Known.{names_via}
use Rattle.router_rules.specs.Requests.{toward}
use Rattle.router_rules.specs.Rule.{facts_with}
use Rattle.router_examples.specs.ThreeRouters.{first, s1, session, usual}
use Rattle.tree_model.specs.declared.hops.LinkHop.{LinkHop}
use Rattle.tree_model.specs.Ranks.{rank}
use Rattle.tree_model.specs.Wants.{names, want}
use Rattle.network_model.specs.Bounds.{AreBounds}
use Rattle.network_model.specs.Locals.{locals_of}
use Rattle.network_model.specs.Runs.{first_facts}
use Rattle.network_model.specs.Steps.{At, step}
use Rattle.network_model.specs.Worlds.{World, config_of}
use Rattle.laws_network.specs.Example.{pair_net, sending_world}
use Rattle.laws_network.proofs.Example.{a_pair_stays_within_bounds, valid}
use Rattle.laws_network.proofs.Keeping.{each_step_keeps_a_world_within_bounds}
use Rattle.laws_network.proofs.Known.{has_some}
use Rattle.settle_paths.specs.Example.{stale_path, stale_plan, stale_world}
use Rattle.settle_paths.specs.PreviousHops.{AreAllPreviousHops, ArePreviousHops, IsPrevious}
use Rattle.settle_paths.specs.Sure.{forth}
use Rattle.settle_paths.proofs.Example.{a_path_is_left_over}
use Rattle.settle_paths.proofs.Sure.{a_pair_is_sure}
use Rattle.settle_resvs.specs.HopExample.{asking_world}
use Rattle.settle_resvs.proofs.HopExample.{a_pair_says_a_reservation}
use Rattle.settle_resvs.specs.Below.{AreSoundBelow, TowardIsAtMostTheWant}
use Rattle.settle_resvs.specs.Toward.{TowardIsTheWant}
use Rattle.network_examples.specs.Previous.{APathComesOverAHop, TowardSaysSomething, early_world, lane, misled_world, second_facts}
use Rattle.network_examples.proofs.Asking.{hosts, key}
use Rattle.network_examples.proofs.Ready.{a_reservation_is_on_its_way, usual_sound}

previous : IsPrevious pair_net 1 session (0, s1) forth
previous = record { there = inl refl; node = refl; iface = refl; addr = refl }

comes : ComesBy second_facts session (0, s1) first
comes = record { path = unwrap_or (get second_facts.paths key) stale_path; there = refl; by = refl }

left_over : ArePreviousHops stale_world → ⊥
unfolding facts_with
left_over h = (h.ahead 1 (first_facts stale_plan 1) session (0, s1) first refl (record { path = stale_path; there = refl; by = refl })).live

missing : AreAllPreviousHops sending_world → ⊥
missing h =
    let same : names_via no_facts lane ≡ names Wild pair_net (locals_of sending_world) session (forth ∷ []) = h.via 1 no_facts lane forth refl previous in
    let no : ◌≡◌ {A = ℕ} 0 1 = ap (λ (z : Names). size z) same in
    absurd (omega arith)

pub a_path_comes_over_a_hop : APathComesOverAHop
a_path_comes_over_a_hop = record {
  net = valid;
  hosts = hosts;
  sound = a_reservation_is_on_its_way.ready.so_far.0.0.0;
  complete = a_reservation_is_on_its_way.ready.so_far.0.0.1.0;
  there = refl;
  comes = comes;
  previous = previous;
  via = refl;
  is_known = refl;
  left_over = left_over;
  so_far = a_pair_is_sure.sure.0.0.sound;
  missing = missing;
}

-- ---- toward
no_resv : (w : World) (f : Facts) (top : ℕ) → ((k : LineKey) (r : ResvState) → get (resvs_of Wild f) k ≡ Some r → ⊥) → AreSoundBelow Wild w 1 f session top
no_resv w f top none = record { named = λ k r h s. absurd (none k r h); sound = λ k r named h s lt. absurd (none k r h) }

none_there : (k : LineKey) (r : ResvState) → get (resvs_of Wild no_facts) k ≡ Some r → ⊥
none_there k r h = cc

want_bounds : (w : World) → AreBounds 7500 w → AreBounds 7500 (step 7500 (At 1 (WantAs session Wild empty usual false)) w)
want_bounds w b = each_step_keeps_a_world_within_bounds 7500 w (At 1 (WantAs session Wild empty usual false)) (tt, usual_sound) b

abbrev misled_facts : Facts
misled_facts = unwrap_or (slice_get misled_world.nodes 1) no_facts

misled_toward : is_some (get (toward (config_of 7500 pair_net misled_world.trees 1) misled_facts lane) One) ≡ true
unfolding facts_with
misled_toward = refl

misled_want : get (want Wild pair_net (locals_of misled_world) session forth) One ≡ None
unfolding want facts_with
misled_want = refl

misled_there : slice_get misled_world.nodes 1 ≡ Some misled_facts
unfolding facts_with
misled_there = refl

misled_none : (k : LineKey) (r : ResvState) → get (resvs_of Wild misled_facts) k ≡ Some r → ⊥
unfolding facts_with
misled_none k r h = none_there k r h

too_much : TowardIsAtMostTheWant 7500 misled_world → ⊥
too_much h =
    let t = has_some (get (toward (config_of 7500 pair_net misled_world.trees 1) misled_facts lane) One) misled_toward in
    let s = h 1 misled_facts lane forth misled_there previous (no_resv misled_world misled_facts (rank pair_net session.group forth) misled_none) One t.0 t.1 in
    let hop : s.hop ≡ forth = ⊎_elim (λ (e : s.hop ≡ forth). e) (λ (no : ⊥). absurd no) s.there in
    let no : None ≡ Some s.wanted = sym misled_want ∙ subst (λ (z : LinkHop). get (want Wild pair_net (locals_of misled_world) session z) One ≡ Some s.wanted) hop s.is in
    cc

abbrev early_facts : Facts
early_facts = unwrap_or (slice_get early_world.nodes 1) no_facts

early_want : is_some (get (want Wild pair_net (locals_of early_world) session forth) One) ≡ true
unfolding want
early_want = refl

too_little : TowardIsTheWant 7500 early_world → ⊥
too_little h =
    let same = h 1 early_facts lane forth refl (λ t. refl) previous (no_resv early_world early_facts (rank pair_net session.group forth) (λ k r e. none_there k r e)) (λ h' f i. absurd i) in
    let no : false ≡ true = ap (λ (z : PartTable). is_some (get z One)) same ∙ early_want in
    cc

pub toward_says_something : TowardSaysSomething
toward_says_something = record {
  bounds = a_pair_says_a_reservation.bounds;
  free = λ t. refl;
  below = no_resv asking_world second_facts (rank pair_net session.group forth) (λ k r e. none_there k r e);
  follow = λ h f i. absurd i;
  says = refl;
  misled = want_bounds stale_world a_path_is_left_over.bounds;
  too_much = too_much;
  early = want_bounds sending_world a_pair_stays_within_bounds.bounds;
  too_little = too_little;
}
