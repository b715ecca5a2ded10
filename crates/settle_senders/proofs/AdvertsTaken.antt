-- When a host advertises a sender that it sends as, the senders that are advertised are those of before and this one, and passes leave them so.
use Rattle.std.proofs.Common.{◌≡◌, ℕ, zero, suc, List, length, Bool, true, Option, Some, None, ◌⊎◌, inr, ⊎_elim, sym, refl, ap, subst, ◌∙◌}
use Rattle.std.specs.Prelude.{slice_get, map as each}
use Rattle.std.specs.List.{filter}
use Rattle.std.specs.Option.{option_and_then, option_map}
use Rattle.std.specs.Ordering.{eq_by_cmp}
use Rattle.rsvp_base.specs.Members.{In}
use Rattle.rsvp_base.specs.Sets.{set_of, with_key}
use Rattle.rsvp_base.specs.Table.{get, has}
use Rattle.rsvp_base.proofs.Counts.{in_set_of, set_of_in}
use Rattle.rsvp_base.proofs.Filters.{same_test}
use Rattle.rsvp_base.proofs.Members.{in_filter, to_each, to_filter}
use Rattle.rsvp_base.proofs.SetLaws.{has-with_key, or_either, or_left, or_right, same_set}
use Rattle.rsvp_base.proofs.Tables.{tied_same, tied_self}
use Rattle.router_rules.specs.declared.answers.LocalErr.{LocalErr}
use Rattle.router_rules.specs.declared.answers.LocalErr.TheVariants as local
use Rattle.router_rules.specs.Calls.{call_refusal, needs, unless}
use Rattle.router_rules.specs.Facts.{Facts, SenderKey, sender_keys}
use Rattle.router_rules.specs.Inputs.{AdvertAs, Local}
use Rattle.router_rules.specs.Rule.{Outcome}
use Rattle.tree_model.specs.declared.locals.LocalSender.{LocalSender}
use Rattle.tree_model.specs.Networks.{owner}
use Rattle.network_model.specs.Events.{pass, passes}
use Rattle.network_model.specs.Locals.{locals_of, sender_at}
use Rattle.network_model.specs.Steps.{At, outcome, still}
use Rattle.network_model.specs.Worlds.{World, config_of}
use Rattle.network_model.proofs.NodeLocals.{is_live}
use Rattle.network_model.proofs.Stepping.{facts_after_found, facts_after_made}
use Rattle.laws_network.specs.Known.{IsSameNet, advertised_at}
use Rattle.laws_network.proofs.Known.{has_some, of_some}
use Rattle.settle_adverts.specs.Adverts.{is_advertised, is_among}
use Rattle.settle_adverts.specs.Demanded.{advertised_senders}
use Rattle.settle_paths.proofs.LiveSenders.{live_listed}
use Rattle.settle_passes.specs.Calls.{SendsAt}
use Rattle.settle_passes.specs.Passes.{AreSpreading, after_passes}
use Rattle.settle_passes.proofs.Deliveries.{known_self}
use Rattle.settle_passes.proofs.Spreading.{after_deliveries, run_then, same_on, spreading_on}
use Rattle.settle_passes.proofs.Called.{IsCalled, called, called_there, senders_then, spares_senders}
use Rattle.settle_senders.specs.Adverts.{AreAdvertising, after_advert}
use Rattle.settle_senders.proofs.AdvertCalls.{an_advert_is_said}

abbrev key_of : LocalSender → SenderKey
key_of x = (x.session, x.sender)

-- ---- who is advertised is read off the network, what is asked of it, and what its nodes have: passes leave them
same_advertised : (w u : World) → IsSameNet w u → advertised_senders u ≡ advertised_senders w
same_advertised w u s =
    λ i. set_of {o = sender_keys} (filter (λ (k : SenderKey). is_among (option_and_then (λ (n : ℕ). s.advertised n i) (owner (s.net i).ends k.1.addr)) k) (each key_of (s.locals i).senders))

advertised_on : (q m : ℕ) (w : World) → AreSpreading q w → advertised_senders (after_passes q m w) ≡ advertised_senders w
advertised_on q zero w s = refl
advertised_on q (suc m) w s =
    let v : World = after_deliveries q (length w.flight) w in
    ap advertised_senders (run_then q (pass q w) (passes q m v) w) ∙ advertised_on q m v (spreading_on q (length w.flight) w s)
    ∙ same_advertised w v (same_on q (length w.flight) w w (known_self q w s.bounds).same s)

-- ---- the call
module _ (q n : ℕ) (k : SenderKey) (w : World) (start : AreSpreading q w) where
  abbrev call : Local
  call = AdvertAs k.0 k.1

  abbrev asked : World
  asked = after_advert q n k w

  -- a node has no other sender advertised than before, but this one, and each that it had
  marked : (m : ℕ) (f : Facts) (j : SenderKey) → has (outcome q (At n call) w m f).facts.advertised j ≡ true → (eq_by_cmp sender_keys.cmp j k ≡ true) ⊎ (has f.advertised j ≡ true)
  marked m f j e =
      ⊎_elim (λ (h : outcome q (At n call) w m f ≡ still f). inr (sym (ap (λ (o : Outcome). has o.facts.advertised j) h) ∙ e))
      (λ (h : IsCalled q w n call m f). by (call_refusal (config_of q w.net w.trees m) call f) (sym (ap (λ (o : Outcome). has o.facts.advertised j) h.is) ∙ e))
      (called q w n call m f)
    where
      by : (r : Option LocalErr) → has (unless r (with_key f.advertised k) f.advertised) j ≡ true → (eq_by_cmp sender_keys.cmp j k ≡ true) ⊎ (has f.advertised j ≡ true)
      by None there = or_either (eq_by_cmp sender_keys.cmp j k) (has f.advertised j) (sym (has-with_key sender_keys f.advertised k j) ∙ there)
      by (Some r) there = inr there

  stays : (m : ℕ) (f : Facts) (j : SenderKey) → has f.advertised j ≡ true → has (outcome q (At n call) w m f).facts.advertised j ≡ true
  stays m f j e =
      ⊎_elim (λ (h : outcome q (At n call) w m f ≡ still f). ap (λ (o : Outcome). has o.facts.advertised j) h ∙ e)
      (λ (h : IsCalled q w n call m f). ap (λ (o : Outcome). has o.facts.advertised j) h.is ∙ by (call_refusal (config_of q w.net w.trees m) call f))
      (called q w n call m f)
    where
      by : (r : Option LocalErr) → has (unless r (with_key f.advertised k) f.advertised) j ≡ true
      by None = has-with_key sender_keys f.advertised k j ∙ or_right (eq_by_cmp sender_keys.cmp j k) (has f.advertised j) e
      by (Some r) = e

  -- and its node has this one, if it sends as it
  taken : (f : Facts) → has f.senders k ≡ true → has (outcome q (At n call) w n f).facts.advertised k ≡ true
  taken f sends =
      ap (λ (o : Outcome). has o.facts.advertised k) (called_there q w n call f)
      ∙ ap (λ (b : Bool). has (unless (needs b local.Absent None) (with_key f.advertised k) f.advertised) k) sends
      ∙ has-with_key sender_keys f.advertised k k
      ∙ or_left (eq_by_cmp sender_keys.cmp k k) (has f.advertised k) (tied_self sender_keys k)

  -- ---- as the network tells it
  told_at : (j : SenderKey) (m : ℕ) (o o' : Option Facts) → slice_get w.nodes m ≡ o → slice_get asked.nodes m ≡ o' → is_among (option_map (λ (f : Facts). f.advertised) o') j ≡ true
      → (eq_by_cmp sender_keys.cmp j k ≡ true) ⊎ (is_among (option_map (λ (f : Facts). f.advertised) o) j ≡ true)
  told_at j m o None was is e = absurd (cc)
  told_at j m None (Some g) was is e = let f = facts_after_found q (At n call) w m g is in let bad : None ≡ Some f.0 = sym was ∙ f.1 in absurd (cc)
  told_at j m (Some f) (Some g) was is e =
      let same : g ≡ (outcome q (At n call) w m f).facts = of_some g (outcome q (At n call) w m f).facts (sym is ∙ facts_after_made q (At n call) w m f was) in
      marked m f j (sym (ap (λ (z : Facts). has z.advertised j) same) ∙ e)

  told : (j : SenderKey) (o : Option ℕ) → is_among (option_and_then (advertised_at asked) o) j ≡ true
      → (eq_by_cmp sender_keys.cmp j k ≡ true) ⊎ (is_among (option_and_then (advertised_at w) o) j ≡ true)
  told j None e = absurd (cc)
  told j (Some m) e = told_at j m (slice_get w.nodes m) (slice_get asked.nodes m) refl refl e

  still_at : (j : SenderKey) (m : ℕ) (o : Option Facts) → slice_get w.nodes m ≡ o → is_among (option_map (λ (f : Facts). f.advertised) o) j ≡ true → is_among (advertised_at asked m) j ≡ true
  still_at j m None was e = absurd (cc)
  still_at j m (Some f) was e = ap (λ (o : Option Facts). is_among (option_map (λ (z : Facts). z.advertised) o) j) (facts_after_made q (At n call) w m f was) ∙ stays m f j e

  told_still : (j : SenderKey) (o : Option ℕ) → is_among (option_and_then (advertised_at w) o) j ≡ true → is_among (option_and_then (advertised_at asked) o) j ≡ true
  told_still j None e = absurd (cc)
  told_still j (Some m) e = still_at j m (slice_get w.nodes m) refl e

  -- ---- who sends stays
  locals : (locals_of w).senders ≡ (locals_of asked).senders
  locals = sym (senders_then q n call w (spares_senders q n call w refl))

  listed : (v : World) (j : SenderKey) → has (advertised_senders v) j ≡ true → In j (each key_of (locals_of v).senders) × (is_advertised v j ≡ true)
  listed v j e = in_filter (is_advertised v) j (each key_of (locals_of v).senders) (set_of_in sender_keys (filter (is_advertised v) (each key_of (locals_of v).senders)) j e)

  made : (v : World) (j : SenderKey) → In j (each key_of (locals_of v).senders) → is_advertised v j ≡ true → has (advertised_senders v) j ≡ true
  made v j there is =
      in_set_of sender_keys (filter (is_advertised v) (each key_of (locals_of v).senders)) j (to_filter (is_advertised v) j (each key_of (locals_of v).senders) there is)

  module _ (sends : SendsAt w n k) where
    own : has (advertised_senders asked) k ≡ true
    own =
        let t = has_some (get sends.facts.senders k) sends.sends in
        let at = live_listed w k t.0 (is_live w n sends.facts k t.0 sends.there t.1) in
        let there : In k (each key_of (locals_of w).senders) = to_each key_of (sender_at at.0 k) (locals_of w).senders at.1 in
        let is : is_advertised asked k ≡ true =
        ap (λ (o : Option ℕ). is_among (option_and_then (advertised_at asked) o) k) (start.hosts.placed n sends.facts k t.0 sends.there t.1)
        ∙ ap (λ (o : Option Facts). is_among (option_map (λ (z : Facts). z.advertised) o) k) (facts_after_made q (At n call) w n sends.facts sends.there)
        ∙ taken sends.facts sends.sends in
        made asked k (subst (λ (xs : List LocalSender). In k (each key_of xs)) locals there) is

    forth : (j : SenderKey) → has (advertised_senders asked) j ≡ true → has (with_key (advertised_senders w) k) j ≡ true
    forth j e =
        let c = listed asked j e in
        has-with_key sender_keys (advertised_senders w) k j
        ∙ ⊎_elim (λ (tie : eq_by_cmp sender_keys.cmp j k ≡ true). or_left (eq_by_cmp sender_keys.cmp j k) (has (advertised_senders w) j) tie)
        (λ (is : is_advertised w j ≡ true).
        or_right (eq_by_cmp sender_keys.cmp j k) (has (advertised_senders w) j)
        (made w j (subst (λ (xs : List LocalSender). In j (each key_of xs)) (sym locals) c.0) is))
        (told j (owner w.net.ends j.1.addr) c.1)

    back : (j : SenderKey) → has (with_key (advertised_senders w) k) j ≡ true → has (advertised_senders asked) j ≡ true
    back j e =
        ⊎_elim
        (λ (tie : eq_by_cmp sender_keys.cmp j k ≡ true). subst (λ (z : SenderKey). has (advertised_senders asked) z ≡ true) (sym (tied_same sender_keys j k tie)) own)
        (λ (old : has (advertised_senders w) j ≡ true).
        let c = listed w j old in
        made asked j (subst (λ (xs : List LocalSender). In j (each key_of xs)) locals c.0) (told_still j (owner w.net.ends j.1.addr) c.1))
        (or_either (eq_by_cmp sender_keys.cmp j k) (has (advertised_senders w) j) (sym (has-with_key sender_keys (advertised_senders w) k j) ∙ e))

    pub advertised_then : advertised_senders asked ≡ with_key (advertised_senders w) k
    advertised_then =
        same_set sender_keys (advertised_senders asked) (with_key (advertised_senders w) k)
        (λ j. same_test (has (advertised_senders asked) j) (has (with_key (advertised_senders w) k) j) (forth j) (back j))

pub an_advert_is_taken : (q n m : ℕ) (k : SenderKey) (w : World) → AreAdvertising q w → SendsAt w n k
    → advertised_senders (after_passes q m (after_advert q n k w)) ≡ with_key (advertised_senders w) k
an_advert_is_taken q n m k w start sends =
    advertised_on q m (after_advert q n k w) (an_advert_is_said q n (AdvertAs k.0 k.1) w start tt refl).paths ∙ advertised_then q n k w start.paths sends
