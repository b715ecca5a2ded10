-- What a list of sends contains.
use Rattle.std.specs.Prelude.{[], ◌∷◌, ◌≡◌, ◌⊎◌, Bool, true, false, cond, not, ◌||◌, List, ◌++◌, Option, Some, None, refl}
use Rattle.std.proofs.Common.{sym, ap, subst, ◌∙◌, inl, inr, ⊎_elim}
use Rattle.std.specs.List.{filter}
use Rattle.router_rules.specs.RsvpBase.Members.{In}
use Rattle.router_rules.specs.RsvpBase.Sets.{is_none}
use Rattle.router_rules.specs.RsvpBase.Table.{get, has, keys}
use Rattle.router_rules.proofs.RsvpBase.Counts.{in_found, found_in}
use Rattle.router_rules.proofs.RsvpBase.Members.{in_append, in_each, in_filter, in_flat_map, in_left, in_right, to_each, to_filter, to_flat_map}
use Rattle.router_rules.specs.RsvpMessages.declared.ask.Ask.{Ask}
use Rattle.router_rules.specs.Lines.{NextHop, next_hops}
use Rattle.router_rules.specs.Asking.{ask_of, err_place, err_places}
use Rattle.router_rules.specs.Facts.{Facts}
use Rattle.router_rules.specs.Inputs.{Change, ConfSend, Send, in_order}
use Rattle.router_rules.specs.Known.{Lane, lane_keys, lanes}
use Rattle.router_rules.specs.Offers.{offer_keys, offers}
use Rattle.router_rules.specs.NodeConfig.{NodeConfig}
use Rattle.router_rules.specs.Requests.{toward}
use Rattle.router_rules.specs.Sends.{conf_send, conf_sends, confirm_for, confirmed, error_send, error_sends, is_changed, is_new_offer, path_send, path_send_of, path_sends, path_tear}
use Rattle.router_rules.specs.Sends.{path_tears, resv_send, resv_send_of, resv_send_to, resv_sends, resv_tear, resv_tear_send, resv_tears, sends, torn_names}
use Rattle.laws_bounds.specs.SendLaws.{IsConf, IsError, IsPath, IsPathTear, IsResv, IsResvTear, IsSend, SendsAreOfSixKinds}
use Rattle.router_rules.proofs.RsvpBase.Fronts.{in_filter_map, in_keys, to_filter_map, to_keys}
use Rattle.laws_bounds.proofs.Lists.{in_ordered, passed, to_ordered}

pub not_told : (b : Bool) → not b ≡ true → b ≡ false
not_told true e = cc
not_told false e = refl

module _ (old p : NodeConfig) (before after : Facts) (k : Change) (s : Send) where
  abbrev conf_key : ConfSend → NextHop
  conf_key x = (x.iface, x.dst)

  -- ---- the six kinds, each in its list
  pub path_tear_told : In s (path_tears p (offers old before) (offers p after)) → IsPathTear old p before after k s
  path_tear_told i =
      let r = in_each (path_tear p) s (filter (λ q. not (has (offers p after) q)) (keys (offers old before))) i in
      let t = in_filter (λ q. not (has (offers p after) q)) r.0 (keys (offers old before)) r.1 in
      record { key = r.0; was = in_keys offer_keys (offers old before) r.0 t.0; gone = not_told _ t.1; is = r.2 }

  path_tear_made : IsPathTear old p before after k s → In s (path_tears p (offers old before) (offers p after))
  path_tear_made q =
      subst (λ (z : Send). In z (path_tears p (offers old before) (offers p after))) (sym q.is)
      (to_each (path_tear p) q.key _ (to_filter (λ z. not (has (offers p after) z)) q.key (keys (offers old before)) (to_keys offer_keys (offers old before) q.key q.was) (ap not q.gone)))

  -- a list of one, where a test does not drop it
  one_unless : (b : Bool) (x : Send) → In s (cond b [] (x ∷ [])) → (b ≡ false) × (s ≡ x)
  one_unless true x i = absurd i
  one_unless false x i = ⊎_elim (λ (e : s ≡ x). (refl, e)) (λ (n : ⊥). absurd n) i

  to_one : (b : Bool) (x : Send) → b ≡ false → s ≡ x → In s (cond b [] (x ∷ []))
  to_one true x e is = absurd (cc)
  to_one false x e is = inl is

  pub resv_tear_told : In s (resv_tears old p before after) → IsResvTear old p before after k s
  resv_tear_told i =
      let r = in_flat_map (resv_tear old p before after) s (keys (lanes before)) i in
      let t = one_unless (is_none (torn_names old p before after r.0)) (resv_tear_send p after r.0 (torn_names old p before after r.0)) r.2 in
      record { lane = r.0; was = in_keys lane_keys (lanes before) r.0 r.1; some = t.0; is = t.1 }

  resv_tear_made : IsResvTear old p before after k s → In s (resv_tears old p before after)
  resv_tear_made q =
      to_flat_map (resv_tear old p before after) q.lane s (keys (lanes before)) (to_keys lane_keys (lanes before) q.lane q.was)
      (to_one (is_none (torn_names old p before after q.lane)) (resv_tear_send p after q.lane (torn_names old p before after q.lane)) q.some q.is)

  error_told : In s (error_sends k.errors) → IsError old p before after k s
  error_told i = let r = in_each error_send s (in_order err_places err_place k.errors) i in record { error = r.0; made = in_ordered err_places err_place r.0 k.errors r.1; is = r.2 }

  error_made : IsError old p before after k s → In s (error_sends k.errors)
  error_made q = subst (λ (z : Send). In z (error_sends k.errors)) (sym q.is) (to_each error_send q.error (in_order err_places err_place k.errors)
      (to_ordered err_places err_place q.error k.errors q.made))

  abbrev confs : List ConfSend
  confs = k.confs ++ confirmed old p before after k.asked

  conf_told : In s (conf_sends confs) → IsConf old p before after k s
  conf_told i = let r = in_each conf_send s (in_order next_hops conf_key confs) i in record { conf = r.0; made = in_ordered next_hops conf_key r.0 confs r.1; is = r.2 }

  conf_made : IsConf old p before after k s → In s (conf_sends confs)
  conf_made q = subst (λ (z : Send). In z (conf_sends confs)) (sym q.is) (to_each conf_send q.conf (in_order next_hops conf_key confs) (to_ordered next_hops conf_key q.conf confs q.made))

  pub path_told : In s (path_sends p (offers old before) (offers p after) k.fired) → IsPath old p before after k s
  path_told i =
      let r = in_filter_map (path_send_of p (offers old before) k.fired) s (offers p after).rows i in
      let t = passed (has k.fired r.0.0.session || is_new_offer p r.0.0.iface r.0.1 (get (offers old before) r.0.0)) (Some (path_send p (has k.fired r.0.0.session) r.0)) s r.2 in
      let is : path_send p (has k.fired r.0.0.session) r.0 ≡ s = cc in
      record { key = r.0.0; offer = r.0.1; offered = in_found offer_keys (offers p after) r.0.0 r.0.1 r.1; why = t.0; is = sym is }

  path_made : IsPath old p before after k s → In s (path_sends p (offers old before) (offers p after) k.fired)
  path_made q =
      to_filter_map (path_send_of p (offers old before) k.fired) s (q.key, q.offer) (offers p after).rows (found_in offer_keys (offers p after) q.key q.offer q.offered)
      (ap (λ b. cond b (Some (path_send p (has k.fired q.key.session) (q.key, q.offer))) None) q.why ∙ ap Some (sym q.is))

  -- a lane's Resv, by whether it changed and whether it is due
  pub record SentTo (l : Lane) (new due : Bool) (w : Option Ask) : Type 0 where
    pub ask : Ask
    pub whole : w ≡ Some ask
    pub why : (due || new) ≡ true
    pub is : s ≡ resv_send p after l (cond new (confirm_for p after l k.asked) None) due ask

  sent_to : (l : Lane) (new due : Bool) (w : Option Ask) → resv_send_of p after l new due k.asked w ≡ Some s → SentTo l new due w
  sent_to l new due None e = absurd (cc)
  sent_to l true true (Some ask) e = let is : resv_send p after l (confirm_for p after l k.asked) true ask ≡ s = cc in record { ask = ask; whole = refl; why = refl; is = sym is }
  sent_to l true false (Some ask) e = let is : resv_send p after l (confirm_for p after l k.asked) false ask ≡ s = cc in record { ask = ask; whole = refl; why = refl; is = sym is }
  sent_to l false true (Some ask) e = let is : resv_send p after l None true ask ≡ s = cc in record { ask = ask; whole = refl; why = refl; is = sym is }
  sent_to l false false (Some ask) e = absurd (cc)

  to_sent : (l : Lane) (new due : Bool) (ask : Ask) → (due || new) ≡ true → s ≡ resv_send p after l (cond new (confirm_for p after l k.asked) None) due ask
      → resv_send_of p after l new due k.asked (Some ask) ≡ Some s
  to_sent l true due ask why is = ap Some (sym is)
  to_sent l false true ask why is = ap Some (sym is)
  to_sent l false false ask why is = absurd (cc)

  pub resv_told : In s (resv_sends old p before after k.fired k.asked) → IsResv old p before after k s
  resv_told i =
      let r = in_filter_map (resv_send_to old p before after k.fired k.asked) s (keys (lanes after)) i in
      let t = sent_to r.0 (is_changed old p before after r.0) (has k.fired r.0.session) (ask_of r.0.style (toward p after r.0)) r.2 in
      record { lane = r.0; there = in_keys lane_keys (lanes after) r.0 r.1; ask = t.ask; whole = t.whole; why = t.why; is = t.is }

  resv_made : IsResv old p before after k s → In s (resv_sends old p before after k.fired k.asked)
  resv_made q =
      to_filter_map (resv_send_to old p before after k.fired k.asked) s q.lane (keys (lanes after)) (to_keys lane_keys (lanes after) q.lane q.there)
      (ap (resv_send_of p after q.lane (is_changed old p before after q.lane) (has k.fired q.lane.session) k.asked) q.whole
      ∙ to_sent q.lane (is_changed old p before after q.lane) (has k.fired q.lane.session) q.ask q.why q.is)

  -- ---- all of them
  pub send_told : In s (sends old p before after k) → IsSend old p before after k s
  send_told i =
      ⊎_elim (λ (j : In s (path_tears p (offers old before) (offers p after))). inl (path_tear_told j))
      (λ (j : In s (resv_tears old p before after ++ rest3)).
      ⊎_elim (λ (j : In s (resv_tears old p before after)). inr (inl (resv_tear_told j)))
      (λ (j : In s rest3).
      ⊎_elim (λ (j : In s (error_sends k.errors)). inr (inr (inl (error_told j))))
      (λ (j : In s rest4).
      ⊎_elim (λ (j : In s (conf_sends confs)). inr (inr (inr (inl (conf_told j)))))
      (λ (j : In s rest5).
      ⊎_elim (λ (j : In s (path_sends p (offers old before) (offers p after) k.fired)). inr (inr (inr (inr (inl (path_told j))))))
      (λ (j : In s (resv_sends old p before after k.fired k.asked)). inr (inr (inr (inr (inr (resv_told j))))))
      (in_append s _ _ j))
      (in_append s _ _ j))
      (in_append s _ _ j))
      (in_append s _ _ j))
      (in_append s _ _ i)
    where
      rest5 : List Send
      rest5 = path_sends p (offers old before) (offers p after) k.fired ++ resv_sends old p before after k.fired k.asked

      rest4 : List Send
      rest4 = conf_sends confs ++ rest5

      rest3 : List Send
      rest3 = error_sends k.errors ++ rest4

  pub send_made : IsSend old p before after k s → In s (sends old p before after k)
  send_made q =
      ⊎_elim (λ (a : IsPathTear old p before after k s). in_left s first rest2 (path_tear_made a))
      (λ (q : IsResvTear old p before after k s ⊎ (IsError old p before after k s ⊎ (IsConf old p before after k s ⊎ (IsPath old p before after k s ⊎ IsResv old p before after k s)))).
      in_right s first rest2
      (⊎_elim (λ (a : IsResvTear old p before after k s). in_left s second rest3 (resv_tear_made a))
      (λ (q : IsError old p before after k s ⊎ (IsConf old p before after k s ⊎ (IsPath old p before after k s ⊎ IsResv old p before after k s))).
      in_right s second rest3
      (⊎_elim (λ (a : IsError old p before after k s). in_left s third rest4 (error_made a))
      (λ (q : IsConf old p before after k s ⊎ (IsPath old p before after k s ⊎ IsResv old p before after k s)).
      in_right s third rest4
      (⊎_elim (λ (a : IsConf old p before after k s). in_left s fourth rest5 (conf_made a))
      (λ (q : IsPath old p before after k s ⊎ IsResv old p before after k s).
      in_right s fourth rest5
      (⊎_elim (λ (a : IsPath old p before after k s). in_left s fifth sixth (path_made a)) (λ (a : IsResv old p before after k s). in_right s fifth sixth (resv_made a)) q))
      q))
      q))
      q))
      q
    where
      first : List Send
      first = path_tears p (offers old before) (offers p after)

      second : List Send
      second = resv_tears old p before after

      third : List Send
      third = error_sends k.errors

      fourth : List Send
      fourth = conf_sends confs

      fifth : List Send
      fifth = path_sends p (offers old before) (offers p after) k.fired

      sixth : List Send
      sixth = resv_sends old p before after k.fired k.asked

      rest5 : List Send
      rest5 = fifth ++ sixth

      rest4 : List Send
      rest4 = fourth ++ rest5

      rest3 : List Send
      rest3 = third ++ rest4

      rest2 : List Send
      rest2 = second ++ rest3

pub sends_are_of_six_kinds : SendsAreOfSixKinds
sends_are_of_six_kinds = record { each = λ old p before after k s. (send_told old p before after k s, send_made old p before after k s) }
