-- Wants and goals of small networks, by computing.
use Rattle.std.proofs.Common.{◌≡◌, ◌≤◌, ℕ, List, [], ◌∷◌, Bool, true, false, Some, inl, inr, ⊎_elim, arith, refl, ap, sym, subst, ◌∙◌}
use Rattle.std.specs.Prelude.{map as each, if◌then◌else◌}
use Rattle.rsvp_base.specs.declared.session.Session.{Session}
use Rattle.rsvp_base.specs.declared.addr.Addr.{Addr}
use Rattle.rsvp_base.specs.declared.style.StyleKind.TheVariants.{Wild, Fixed}
use Rattle.rsvp_base.specs.declared.style.Unit.{Unit as UnitOf}
use Rattle.rsvp_base.specs.declared.style.Unit.TheVariants.{One, Of}
use Rattle.rsvp_base.specs.Members.{In}
use Rattle.rsvp_base.specs.Sets.{set_of}
use Rattle.rsvp_base.specs.Styles.{unit_of}
use Rattle.rsvp_base.specs.Table.{get}
use Rattle.rsvp_base.proofs.SetLaws.{and_both}
use Rattle.style_rules.specs.Lines.{AreUnder, Line, LineKey, book_of_end, held}
use Rattle.laws_steps.specs.AcceptingLaws.{CanBeHeld}
use Rattle.router_rules.specs.Books.{lines}
use Rattle.router_rules.specs.Inputs.{WantAs}
use Rattle.router_rules.specs.Rule.{facts_with}
use Rattle.router_examples.specs.ThreeRouters.{first, group, iface, r1, s1, second, session, usual}
use Rattle.tree_model.specs.declared.hops.LinkHop.{LinkHop}
use Rattle.tree_model.specs.declared.hops.TreeHop.{TreeHop}
use Rattle.tree_model.specs.Goals.{goal}
use Rattle.tree_model.specs.Networks.{node_of}
use Rattle.tree_model.specs.Ranks.{Follows, followers}
use Rattle.tree_model.specs.Trees.{Grows, IsGrown, of_tree, tree}
use Rattle.tree_model.specs.Valid.{IsValid}
use Rattle.tree_model.specs.Wants.{want}
use Rattle.tree_model.proofs.Following.{addr_same, followers_follow, in_tree}
use Rattle.network_model.specs.Bounds.{AreBounds}
use Rattle.network_model.specs.Locals.{locals_of}
use Rattle.network_model.specs.Runs.{first_facts}
use Rattle.network_model.specs.Steps.{At, Deliver, step}
use Rattle.network_model.specs.Worlds.{config_of}
use Rattle.laws_network.specs.Example.{pair_net, sending_world}
use Rattle.laws_network.specs.Known.{IsSameNet}
use Rattle.laws_network.proofs.Example.{a_pair_stays_within_bounds, valid}
use Rattle.laws_network.proofs.Keeping.{each_step_keeps_a_world_within_bounds}
use Rattle.laws_network.proofs.Known.{same_kept}
use Rattle.settle_paths.specs.Sure.{forth}
use Rattle.settle_resvs.specs.HopExample.{asked, asking_world}
use Rattle.settle_resvs.proofs.HopExample.{a_pair_says_a_reservation}
use Rattle.settle_resvs.specs.LeftOverExample.{lost_plan}
use Rattle.settle_resvs.specs.GoalByIface.{goal_at}
use Rattle.settle_resvs.specs.Laws.{AreSoundAt, HasOneStyle, WantsHaveStyles}
use Rattle.network_examples.specs.Goals.{AGoalCanBeHeld, AGoalHasInterfaces, AReservationIsUnderTheGoal, ASessionHasOneStyle, AWantHasAStyle, back_line, back_locals, back_net, both}
use Rattle.network_examples.specs.Goals.{choosing_world, chosen, greedy, mixed, reserved, reserved_world, the_line, two_at_once}
use Rattle.network_examples.proofs.Asking.{fit, is_so_far, so_far_told, wanted}
use Rattle.network_examples.proofs.Ready.{asking_same, usual_sound}

-- ---- styles
choosing_bounds : AreBounds 7500 choosing_world
choosing_bounds =
    each_step_keeps_a_world_within_bounds 7500 (step 7500 (Deliver 0) sending_world) (At 1 (WantAs session Fixed (set_of (first ∷ [])) usual false)) (tt, usual_sound)
    (each_step_keeps_a_world_within_bounds 7500 sending_world (Deliver 0) tt a_pair_stays_within_bounds.bounds)

chosen_over : get (want Fixed pair_net (locals_of choosing_world) session forth) (Of first) ≡ Some chosen
unfolding want
chosen_over = refl

both_over : get (want Fixed pair_net two_at_once session forth) (Of first) ≡ Some both
unfolding want
both_over = refl

abbrev port_of : UnitOf → ℕ
port_of One = 0
port_of (Of x) = x.port

other_unit : unit_of Fixed first ≡ unit_of Fixed second → ⊥
other_unit same = let no : ◌≡◌ {A = ℕ} 5004 5006 = ap port_of same in absurd (omega arith)

no_style : WantsHaveStyles pair_net two_at_once → ⊥
no_style h = other_unit ((h.shaped Fixed session forth (Of first) both both_over).0.one_unit first second refl refl)

pub a_want_has_a_style : AWantHasAStyle
a_want_has_a_style = record {
  bounds = choosing_bounds;
  there = inl refl;
  over = chosen_over;
  no_part = λ parts. other_unit ((parts (record { node = 1; session = session; style = Fixed; part = both }) (inl refl)).one_unit first second refl refl);
  no_style = no_style;
}

mixed_wild : get (want Wild pair_net mixed session forth) One ≡ Some asked
unfolding want
mixed_wild = refl

mixed_fixed : get (want Fixed pair_net mixed session forth) (Of first) ≡ Some chosen
unfolding want
mixed_fixed = refl

two_styles : HasOneStyle pair_net mixed session → ⊥
two_styles h = let no : Wild ≡ Fixed = h Wild Fixed forth forth One (Of first) asked chosen mixed_wild mixed_fixed in cc

pub a_session_has_one_style : ASessionHasOneStyle
a_session_has_one_style = record { fit = fit; over = wanted; two_styles = two_styles }

-- ---- the network whose tree goes back
abbrev back_hop : TreeHop
back_hop = record { group = group; source = r1; hop = record { from = 1; to = 0 } }

grown : (g s : Addr) → IsGrown back_net s (tree back_net.hops g s)
grown g s = by (of_tree g s back_hop) refl
  where
    by : (b : Bool) → of_tree g s back_hop ≡ b → IsGrown back_net s (each (λ (r : TreeHop). r.hop) (if b then back_hop ∷ [] else []))
    by false t = tt
    by true t =
        let source : r1 ≡ s = addr_same r1 s (and_both _ _ t).1 in
        (subst (λ (z : Addr). Grows back_net z [] (record { from = 1; to = 0 })) source (record { linked = refl; from_reached = refl; to_new = refl; alone = refl }), tt)

the_hop : (g s : Addr) (h : LinkHop) → In h (tree back_net.hops g s) → (h.from ≡ 1) × (h.to ≡ 0)
the_hop g s h i =
    let r = in_tree back_net.hops g s h i in
    by r.0 r.1 r.4
  where
    by : (r : TreeHop) → In r back_net.hops → r.hop ≡ h → (h.from ≡ 1) × (h.to ≡ 0)
    by r (inl same) e = (sym (ap (λ (z : LinkHop). z.from) e) ∙ ap (λ (z : TreeHop). z.hop.from) same, sym (ap (λ (z : LinkHop). z.to) e) ∙ ap (λ (z : TreeHop). z.hop.to) same)
    by r (inr never) e = absurd never

none_follows : (g : Addr) (h h' : LinkHop) → In h' (followers back_net g h) → ⊥
none_follows g h h' i =
    let f : Follows back_net g h h' = (followers_follow back_net g h h').0 i in
    let a = the_hop g f.source h f.first in
    let b = the_hop g f.source h' f.second in
    let no : ◌≡◌ {A = ℕ} 1 0 = sym (ap (node_of back_net.ends) b.0) ∙ f.meet ∙ ap (node_of back_net.ends) a.1 in
    absurd (omega arith)

back_valid : IsValid back_net
back_valid = record {
  few_nodes = valid.few_nodes;
  few_ends = valid.few_ends;
  few_links = valid.few_links;
  few_hops = omega arith;
  placed = valid.placed;
  one_address = valid.one_address;
  linked = valid.linked;
  nodes_apart = valid.nodes_apart;
  ends_of_links = valid.ends_of_links;
  rising = valid.rising;
  apart = valid.apart;
  one_link = valid.one_link;
  grown = grown;
  loop_free = λ g h c closed. none_follows g _ h closed.1;
}

by_end : goal back_net back_locals 1 ≡ back_line 1 ∷ []
unfolding want
by_end = refl

by_iface : goal_at back_net back_locals 1 ≡ back_line 0 ∷ []
unfolding want
by_iface = refl

pub a_goal_has_interfaces : AGoalHasInterfaces
a_goal_has_interfaces = record { net = back_valid; by_end = by_end; by_iface = by_iface }

-- ---- a goal can be held
goal_is : goal_at pair_net (locals_of asking_world) 0 ≡ the_line ∷ []
unfolding want
goal_is = refl

greedy_held : held (book_of_end 0 (goal_at pair_net greedy 0)) ≡ 10001
unfolding want
greedy_held = refl

too_much : (s : Session) → CanBeHeld (config_of 7500 pair_net ((group, s1) ∷ []) 0) s 0 (goal_at pair_net greedy 0) → ⊥
too_much s h =
    let room : held (book_of_end 0 (goal_at pair_net greedy 0)) ≤ 10000 = h.capacity (iface s1 10000) refl in
    let much = greedy_held in
    absurd (omega arith)

pub a_goal_can_be_held : AGoalCanBeHeld
a_goal_can_be_held = record { net = valid; fit = fit; is = goal_is; too_much = too_much }

-- ---- what is sound is under the goal
reserved_bounds : AreBounds 7500 reserved_world
reserved_bounds = each_step_keeps_a_world_within_bounds 7500 asking_world (Deliver 0) tt a_pair_says_a_reservation.bounds

reserved_same : IsSameNet asking_world reserved_world
reserved_same = same_kept 7500 (Deliver 0) asking_world refl a_pair_says_a_reservation.bounds asking_world asking_same

reserved_told : is_so_far reserved_world ≡ true
reserved_told = refl

sound : AreSoundAt reserved_world 0 reserved
sound st k r h = (so_far_told reserved_world reserved_bounds reserved_same reserved_told).1.1.facts st 0 reserved k r refl h

lost : AreUnder (lines (first_facts lost_plan 0)) (the_line ∷ []) → ⊥
unfolding facts_with
lost h =
    let under = h _ (inl refl) in
    let is : under.0 ≡ the_line = ⊎_elim (λ (e : under.0 ≡ the_line). e) (λ (no : ⊥). absurd no) under.1 in
    let next = ap (λ (z : Line). z.next.0) is in
    let key = under.2.key in
    absurd (omega (arith, next, ap (λ (z : LineKey). z.1.0.1.0) key))

pub a_reservation_is_under_the_goal : AReservationIsUnderTheGoal
a_reservation_is_under_the_goal = record {
  there = refl;
  sound = sound;
  is = refl;
  lost = λ h. lost (subst (λ (z : List Line). AreUnder (lines (first_facts lost_plan 0)) z) goal_is h);
}
