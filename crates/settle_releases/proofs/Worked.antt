-- Releases in small networks, by computing.
use Rattle.std.proofs.Common.{◌≡◌, ℕ, false, Option, None, Some, inl, ⊎_elim, arith, sym, refl, ap, subst, ◌∙◌, zero, suc}
use Rattle.std.specs.Prelude.{slice_get}
use Rattle.std.specs.Fmt.{digits}
use Rattle.std.specs.Option.{unwrap_or}
use Rattle.rsvp_base.specs.declared.part.Part.{Part}
use Rattle.rsvp_base.specs.declared.style.StyleKind.TheVariants.{Wild}
use Rattle.rsvp_base.specs.declared.style.Unit.TheVariants.{One}
use Rattle.rsvp_base.specs.Table.{empty, get}
use Rattle.rsvp_base.specs.TokenBucket.{IsSound}
use Rattle.style_rules.specs.PartLaws.{part_at_most_told}
use Rattle.style_rules.specs.Parts.{IsPartAtMost}
use Rattle.value_texts.specs.Reports.{entry_line, head_text}
use Rattle.value_texts.specs.Texts.{addr_text, flow_text, sender_text, session_text}
use Rattle.router_rules.specs.Facts.{Facts, ResvState, Want, WantKey, no_facts, resvs_of, want_keys}
use Rattle.tree_model.specs.Goals.{DemandsFit}
use Rattle.tree_model.specs.Ranks.{longest}
use Rattle.tree_model.specs.Wants.{Locals, want}
use Rattle.network_model.specs.Bounds.{IsStart}
use Rattle.network_model.specs.Locals.{locals_of}
use Rattle.network_model.specs.RouterRules.Rule.{facts_with}
use Rattle.network_model.specs.ThreeRouters.{r1, scope, session, usual}
use Rattle.laws_network.specs.Example.{pair_net}
use Rattle.laws_network.proofs.Known.{has_some, of_some}
use Rattle.settle_network.specs.Settled.{HasSettled}
use Rattle.settle_paths.specs.Sure.{forth}
use Rattle.settle_resvs.proofs.UnderTheGoal.{want_needs}
use Rattle.settle_passes.specs.Reserving.{IsReserving, HasReserved}
use Rattle.settle_passes.specs.Worked.{asked_world, heard_world}
use Rattle.settle_passes.proofs.AskedExample.{a_receiver_asks}
use Rattle.settle_passes.proofs.Rising.{reservations_rise_one_hop_a_pass}
use Rattle.settle_passes.proofs.Serving.{a_settled_network_serves_a_receiver, settled_is_reserved}
use Rattle.settle_passes.proofs.Wanting.{a_receiver_is_set_up}
use Rattle.settle_releases.specs.Releases.{AsksNoMore, HasNoMark}
use Rattle.settle_releases.specs.Worked.{AConfirmationComesBack, AMarkWaits, AReceiverAsksForLess, AReceiverQuits, AnotherStyleIsWanted, SomethingIsInFlight, WhatIsLeftOverStays}
use Rattle.settle_releases.specs.Worked.{left_world, less_world, served_world, smaller}
use Rattle.settle_resvs.proofs.GoalByIface.{each_fits}
use Rattle.rsvp_base.specs.declared.session.Session.{Session}
use Rattle.rsvp_base.proofs.Counts.{found_in}

-- ---- the receiver is served
settled : HasSettled 7500 served_world
settled = a_settled_network_serves_a_receiver 7500 1 session Wild empty usual false heard_world a_receiver_asks.begins.bounds a_receiver_asks.begins.locals a_receiver_asks.settled refl tt
    a_receiver_asks.flow a_receiver_asks.no_less a_receiver_asks.all_fit

reserved : (s : Session) → IsReserving 7500 s served_world × HasReserved s served_world
reserved s =
    let before = settled_is_reserved 7500 heard_world a_receiver_asks.begins a_receiver_asks.settled refl s in
    let d = a_receiver_is_set_up 7500 1 s session Wild empty usual false heard_world before tt a_receiver_asks.flow a_receiver_asks.no_less
    (each_fits pair_net (locals_of asked_world) a_receiver_asks.all_fit s) in
    ((reservations_rise_one_hop_a_pass 7500 s (longest pair_net) asked_world d.0).0, d.1)

same_locals : locals_of asked_world ≡ locals_of served_world
same_locals = refl

fit : DemandsFit pair_net (locals_of served_world)
fit = subst (λ (z : Locals). DemandsFit pair_net z) same_locals a_receiver_asks.all_fit

begins : IsStart 7500 served_world
begins = let paths = (reserved session).0.paths in record { bounds = paths.bounds; locals = paths.hosts; fit = fit }

-- ---- what stands when it quits, and nobody wants any more
stood : (r : ResvState) × (get (resvs_of Wild (unwrap_or (slice_get left_world.nodes 0) no_facts)) (session, ((0, r1), One)) ≡ Some r)
stood = has_some (get (resvs_of Wild (unwrap_or (slice_get left_world.nodes 0) no_facts)) (session, ((0, r1), One))) refl

not_yet : HasSettled 7500 left_world → ⊥
not_yet h =
    let x = h.resvs_exact Wild session forth (inl refl) in
    let same = of_some (unwrap_or (slice_get left_world.nodes 0) no_facts) x.facts x.node in
    let got = x.stands One stood.0 (ap (λ (z : Facts). get (resvs_of Wild z) (session, ((0, r1), One))) (sym same) ∙ stood.1) in
    (want_needs Wild pair_net (locals_of left_world) session forth One stood.0.part got).there

-- ---- no want of it has a mark
abbrev old_want : Want
old_want = record { style = Wild; part = record { senders = empty; flow = usual }; confirm = false }

abbrev facts_1 : Facts
facts_1 = unwrap_or (slice_get served_world.nodes 1) no_facts

unmarked : HasNoMark served_world
unmarked zero f k x at h = let bad : None ≡ Some x = ap (λ (z : Facts). get z.wants k) (of_some (unwrap_or (slice_get served_world.nodes 0) no_facts) f at) ∙ h in absurd (cc)
unmarked (suc zero) f k x at h =
    ⊎_elim (λ (e : (k, x) ≡ ((session, One), old_want)). ap (λ (z : WantKey × Want). z.1.confirm) e) (λ (no : ⊥). absurd no)
    (found_in want_keys facts_1.wants k x (ap (λ (z : Facts). get z.wants k) (of_some facts_1 f at) ∙ h))
unmarked (suc (suc n)) f k x at h = absurd (cc)

pub a_receiver_quits : AReceiverQuits
a_receiver_quits = record {
  long = refl;
  begins = begins;
  settled = settled;
  quiet = refl;
  not_yet = not_yet;
  sends = (_, inl refl);
  reserved = reserved;
  unmarked = unmarked;
}

-- ---- or it asks for less
abbrev new_want : Want
new_want = record { style = Wild; part = record { senders = empty; flow = smaller }; confirm = false }

asked_before : get facts_1.wants (session, One) ≡ Some old_want
asked_before = refl

no_more : AsksNoMore served_world 1 session Wild empty smaller false
no_more f k new at i =
    ⊎_elim
    (λ (e : (k, new) ≡ ((session, One), new_want)).
    let same : facts_1 ≡ f = of_some facts_1 f at in
    let key : k ≡ (session, One) = ap (λ (z : WantKey × Want). z.0) e in (
      old_want,
      (λ j. get (sym same j).wants (key j)) ∙ asked_before,
      subst (λ (z : Want). IsPartAtMost z.part old_want.part) (sym (ap (λ (z : WantKey × Want). z.1) e)) (part_at_most_told new_want.part old_want.part refl),
    ))
    (λ (no : ⊥). absurd no) i

sound : IsSound smaller
sound = record { rate = omega arith; depth = omega arith; low = omega arith; most = omega arith }

-- as much as before stands still
abbrev rate_of : Option ResvState → ℕ
rate_of None = 0
rate_of (Some r) = r.part.flow.r

stands : (r : ResvState) × (get (resvs_of Wild (unwrap_or (slice_get less_world.nodes 0) no_facts)) (session, ((0, r1), One)) ≡ Some r)
stands = has_some (get (resvs_of Wild (unwrap_or (slice_get less_world.nodes 0) no_facts)) (session, ((0, r1), One))) refl

wanted : get (want Wild pair_net (locals_of less_world) session forth) One ≡ Some (record { senders = scope; flow = smaller })
unfolding want
wanted = refl

too_much : HasSettled 7500 less_world → ⊥
too_much h =
    let x = h.resvs_exact Wild session forth (inl refl) in
    let same = of_some (unwrap_or (slice_get less_world.nodes 0) no_facts) x.facts x.node in
    let got = x.stands One stands.0 (ap (λ (z : Facts). get (resvs_of Wild z) (session, ((0, r1), One))) (sym same) ∙ stands.1) in
    let is = of_some (record { senders = scope; flow = smaller }) stands.0.part (sym wanted ∙ got) in
    let less : 400 ≡ stands.0.part.flow.r = ap (λ (z : Part). z.flow.r) is in
    let much : 1000 ≡ stands.0.part.flow.r = ap rate_of stands.1 in
    omega (arith, less, much)

pub a_receiver_asks_for_less : AReceiverAsksForLess
unfolding digits addr_text session_text sender_text flow_text entry_line head_text facts_with
a_receiver_asks_for_less = record {
  begins = begins;
  settled = settled;
  quiet = refl;
  reserved = reserved;
  unmarked = unmarked;
  list = tt;
  fit = sound;
  no_more = no_more;
  not_yet = too_much;
  sends = (_, inl refl);
  long = refl;
  text = refl;
}

-- ---- where a premise is not met
pub something_is_in_flight : SomethingIsInFlight
unfolding digits addr_text session_text sender_text flow_text entry_line head_text facts_with
something_is_in_flight = record { tear = refl; copy = refl }

pub another_style_is_wanted : AnotherStyleIsWanted
unfolding digits addr_text session_text sender_text flow_text entry_line head_text facts_with
another_style_is_wanted = record { less = refl; quit = refl }

pub what_is_left_over_stays : WhatIsLeftOverStays
unfolding digits addr_text session_text sender_text flow_text entry_line head_text facts_with
what_is_left_over_stays = record { text = refl }

pub a_mark_waits : AMarkWaits
unfolding digits addr_text session_text sender_text flow_text entry_line head_text facts_with
a_mark_waits = record { quit = refl; less = refl }

pub a_confirmation_comes_back : AConfirmationComesBack
unfolding digits addr_text session_text sender_text flow_text entry_line head_text facts_with
a_confirmation_comes_back = record { text = refl }
