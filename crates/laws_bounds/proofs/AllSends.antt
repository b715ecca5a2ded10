-- What is sent, part by part.
use Rattle.std.specs.Prelude.{◌≡◌, ℕ, ◌+◌, ◌≤◌, Bool, true, false, cond, not, List, [], ◌∷◌, ◌++◌, length, map as each, Option, None, Some, refl}
use Rattle.std.proofs.Common.{sym, ap, subst, ◌∙◌, arith}
use Rattle.std.proofs.lemmas.List.{length-append, length-map}
use Rattle.std.specs.List.{filter, filter_map, flat_map}
use Rattle.rsvp_base.specs.Orders.{Names, sessions, senders}
use Rattle.rsvp_base.specs.SessionLimits.{IsWithinSessionLimits}
use Rattle.rsvp_base.specs.Sets.{Set, is_none}
use Rattle.rsvp_base.specs.Table.{has, keys, size}
use Rattle.rsvp_messages.specs.declared.ask.Ask.{Ask}
use Rattle.style_rules.specs.Lines.{next_hops}
use Rattle.router_rules.specs.Act.{act}
use Rattle.router_rules.specs.Asking.{err_place, err_places}
use Rattle.router_rules.specs.Bounds.{IsWithinBounds}
use Rattle.router_rules.specs.Facts.{Facts}
use Rattle.router_rules.specs.Inputs.{Asked, Change, ConfSend, ErrSend, Input, Send, in_order}
use Rattle.router_rules.specs.Known.{Lane, lanes}
use Rattle.router_rules.specs.NodeConfig.{NodeConfig}
use Rattle.router_rules.specs.Offers.{Offer, OfferKey, Offers, offers}
use Rattle.router_rules.specs.Rule.{is_silent, rule, sent_after, settled, unless_silent}
use Rattle.router_rules.specs.Sends.{conf_for, conf_send, conf_sends, confirmed, error_send, error_sends, goes_on, path_send_of, path_sends, path_tear, path_tears, resv_send_to, resv_sends, resv_tear}
use Rattle.router_rules.specs.Sends.{resv_tear_send, resv_tears, sends, torn_names}
use Rattle.router_rules.specs.Steps.{IsFit, clock_after, facts_then}
use Rattle.laws_bounds.specs.BoundLaws.{AStepKeepsANodeWithinBounds}
use Rattle.laws_bounds.proofs.Bounded.{a_step_keeps_a_node_within_bounds}
use Rattle.laws_bounds.specs.CountLaws.{FewAreSent, IsFewInput, most_sends}
use Rattle.laws_bounds.proofs.Changes.{AreFew, few_made}
use Rattle.laws_bounds.proofs.Lengths.{as_many_in_order, few_given, few_pass, one_each}
use Rattle.laws_bounds.proofs.Sizes.{few_lanes, few_offers}

-- ---- each part
few_path_tears : (p : NodeConfig) (before after : Offers) → length (path_tears p before after) ≤ size before
few_path_tears p before after =
    let gone = filter (λ k. not (has after k)) (keys before) in
    omega (arith, length-map gone (path_tear p), few_pass (λ k. not (has after k)) (keys before), length-map before.rows (λ (e : OfferKey × Offer). e.0))

one_tear : (old p : NodeConfig) (before after : Facts) (l : Lane) → length (resv_tear old p before after l) ≤ 1
one_tear old p before after l = by (is_none (torn_names old p before after l)) (resv_tear_send p after l (torn_names old p before after l))
  where
    by : (b : Bool) (s : Send) → length (cond b [] (s ∷ [])) ≤ 1
    by true s = omega arith
    by false s = omega arith

few_resv_tears : (old p : NodeConfig) (before after : Facts) → length (resv_tears old p before after) ≤ length (keys (lanes before))
few_resv_tears old p before after = one_each (resv_tear old p before after) (keys (lanes before)) (one_tear old p before after)

few_errors : (ss : List ErrSend) → length (error_sends ss) ≡ length ss
few_errors ss = length-map (in_order err_places err_place ss) error_send ∙ as_many_in_order err_places err_place ss

few_confs : (ss : List ConfSend) → length (conf_sends ss) ≡ length ss
few_confs ss = length-map (in_order next_hops (λ (s : ConfSend). (s.iface, s.dst)) ss) conf_send ∙ as_many_in_order next_hops (λ (s : ConfSend). (s.iface, s.dst)) ss

one_conf_for : (p : NodeConfig) (a : Asked) (taken : Option Ask) → length (conf_for p a taken) ≤ 1
one_conf_for p a None = omega arith
one_conf_for p a (Some taken) = omega arith

one_confirmed : (old p : NodeConfig) (before after : Facts) (o : Option Asked) → length (confirmed old p before after o) ≤ 1
one_confirmed old p before after None = omega arith
one_confirmed old p before after (Some a) = by (goes_on old p before after a) (conf_for p a a.taken) (one_conf_for p a a.taken)
  where
    by : (b : Bool) (ss : List ConfSend) → length ss ≤ 1 → length (cond b [] ss) ≤ 1
    by true ss few = omega arith
    by false ss few = few

few_path_sends : (p : NodeConfig) (before after : Offers) (fired : Set sessions) → length (path_sends p before after fired) ≤ size after
few_path_sends p before after fired = few_given (path_send_of p before fired) after.rows

few_resv_sends : (old p : NodeConfig) (before after : Facts) (fired : Set sessions) (asked : Option Asked) → length (resv_sends old p before after fired asked) ≤ length (keys (lanes after))
few_resv_sends old p before after fired asked = few_given (resv_send_to old p before after fired asked) (keys (lanes after))

-- ---- all
few_sends : (old p : NodeConfig) (before after : Facts) (k : Change) → AreFew k → size (offers old before) ≤ 16384 → size (offers p after) ≤ 16384 → length (keys (lanes before)) ≤ 1536
    → length (keys (lanes after)) ≤ 1536 → length (sends old p before after k) ≤ most_sends
few_sends old p before after k few offers_before offers_after lanes_before lanes_after =
    let a = path_tears p (offers old before) (offers p after) in
    let b = resv_tears old p before after in
    let c = error_sends k.errors in
    let d = conf_sends (k.confs ++ confirmed old p before after k.asked) in
    let e = path_sends p (offers old before) (offers p after) k.fired in
    let g = resv_sends old p before after k.fired k.asked in
    let l1 = length-append a (b ++ (c ++ (d ++ (e ++ g)))) in
    let l2 = length-append b (c ++ (d ++ (e ++ g))) in
    let l3 = length-append c (d ++ (e ++ g)) in
    let l4 = length-append d (e ++ g) in
    let l5 = length-append e g in
    let la = few_path_tears p (offers old before) (offers p after) in
    let lb = few_resv_tears old p before after in
    let lc = few_errors k.errors in
    let ld = few_confs (k.confs ++ confirmed old p before after k.asked) in
    let ld2 = length-append k.confs (confirmed old p before after k.asked) in
    let ld3 = one_confirmed old p before after k.asked in
    let le = few_path_sends p (offers old before) (offers p after) k.fired in
    let lg = few_resv_sends old p before after k.fired k.asked in
    omega (arith, l1, l2, l3, l4, l5, la, lb, lc, ld, ld2, ld3, le, lg, few.errors, few.confs, offers_before, offers_after, lanes_before, lanes_after)

unless_few : (b : Bool) (ss : List Send) → length ss ≤ most_sends → length (unless_silent b [] ss) ≤ most_sends
unless_few true ss few = omega arith
unless_few false ss few = few

pub few_are_sent : FewAreSent
unfolding sent_after
few_are_sent p b i f some few within fit units =
    let c = clock_after b i in
    let k = act p c i f in
    let after = settled p c f k.facts in
    let then = a_step_keeps_a_node_within_bounds p p b i f (record { quarter = refl; ifaces = refl; some = some }) fit within in
    unless_few (is_silent i) (sends p p f after k) (few_sends p p f after k (few_made p c i f within.limits units)
    (few_offers p f few within.limits.senders within.limits.paths) (few_offers p after few then.limits.senders then.limits.paths)
    (few_lanes f within.limits.paths) (few_lanes after then.limits.paths))
