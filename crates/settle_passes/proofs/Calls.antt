-- A host begins to send: its node offers it at once, and all else stays.
use Rattle.std.proofs.Common.{◌≡◌, ℕ, Bool, true, false, Option, Some, None, ◌⊎◌, inl, inr, ⊎_elim, sym, refl, ap, subst, ◌∙◌}
use Rattle.std.specs.Prelude.{slice_get, is_some, ◌||◌, map as each}
use Rattle.std.specs.Ordering.{eq_by_cmp}
use Rattle.rsvp_base.specs.declared.session.Session.{Session}
use Rattle.rsvp_base.specs.Members.{In}
use Rattle.rsvp_base.specs.Table.{Table, get, has, put_in}
use Rattle.rsvp_base.specs.TokenBucket.{IsSound, TokenBucket}
use Rattle.rsvp_base.proofs.Members.{in_right, to_each}
use Rattle.rsvp_base.proofs.Tables.{either, get-put_in_other, got_put_in, tied_same, get-put_in_same}
use Rattle.rsvp_base.specs.declared.session.Sender.{Sender}
use Rattle.rsvp_base.proofs.SetLaws.{or_either}
use Rattle.laws_bounds.proofs.Knowing.{has-known}
use Rattle.router_rules.specs.declared.answers.LocalErr.{LocalErr}
use Rattle.router_rules.specs.Calls.{call_refusal, unless}
use Rattle.router_rules.specs.Facts.{Facts, SenderKey, PathState, sender_keys}
use Rattle.router_rules.specs.Inputs.{Call, Local, SendAs}
use Rattle.router_rules.specs.Known.{known}
use Rattle.router_rules.specs.Rule.{Outcome}
use Rattle.router_rules.specs.Sends.{path_send}
use Rattle.tree_model.specs.declared.hops.LinkHop.{LinkHop}
use Rattle.tree_model.specs.Networks.{node_of}
use Rattle.tree_model.specs.Ranks.{longest}
use Rattle.tree_model.specs.Trees.{tree}
use Rattle.network_model.specs.Bounds.{AreBounds, AreHosts}
use Rattle.network_model.specs.Links.{copy_to}
use Rattle.network_model.specs.Locals.{IsLive}
use Rattle.network_model.specs.Sound.{IsPathAt}
use Rattle.network_model.specs.Steps.{At, outcome, sent, still}
use Rattle.network_model.specs.Worlds.{Item, World, config_of}
use Rattle.network_model.proofs.NodeLocals.{is_live}
use Rattle.network_model.proofs.Stepping.{facts_after_found, facts_after_made}
use Rattle.laws_network.specs.Sources.{IsLocalOffer, IsPathOffer}
use Rattle.laws_network.proofs.Keeping.{each_step_keeps_a_world_within_bounds}
use Rattle.laws_network.proofs.Known.{or_true, has_some, of_some}
use Rattle.settle_paths.proofs.LiveSenders.{one_flow, senders_found}
use Rattle.settle_passes.specs.Calls.{HasItsPaths, IsNew, after_send}
use Rattle.settle_passes.specs.Passes.{AreSpreading, ArePathsOffered, IsPathOver, after_passes}
use Rattle.settle_passes.proofs.Deliveries.{key, of_group, offered_over, place}
use Rattle.settle_passes.proofs.Spreading.{paths_are_set_up, paths_spread_one_hop_a_pass, there_spread}
use Rattle.settle_passes.proofs.Called.{IsCalled, called, no_tear_then, over_on, path_on, paths_same, sound_facts, sound_then}

-- ---- a host begins to send
-- who sends goes on to send, where the call puts a sender in its place
put_has : (r : Option LocalErr) (m : Table sender_keys TokenBucket) (k : SenderKey) (t : TokenBucket) (k' : SenderKey) → has m k' ≡ true → has (unless r (put_in m k t) m) k' ≡ true
put_has None m k t k' h =
    either (eq_by_cmp sender_keys.cmp k' k)
    (λ yes.
    let same = tied_same sender_keys k' k yes in
    ap (λ (z : SenderKey). has (put_in m k t) z) same ∙ ap (λ (o : Option TokenBucket). is_some o) (get-put_in_same sender_keys m k t))
    (λ no. ap (λ (o : Option TokenBucket). is_some o) (get-put_in_other sender_keys m k t k' no) ∙ h)
put_has (Some e) m k t k' h = h

put_source : (r : Option LocalErr) (m : Table sender_keys TokenBucket) (k : SenderKey) (t : TokenBucket) (k' : SenderKey) (t' : TokenBucket) → get (unless r (put_in m k t) m) k' ≡ Some t'
    → (k' ≡ k) ⊎ (get m k' ≡ Some t')
put_source None m k t k' t' h = ⊎_elim (λ (new : (k' ≡ k) × (t' ≡ t)). inl new.0) (λ (old : get m k' ≡ Some t'). inr old) (got_put_in sender_keys m k t k' t' h)
put_source (Some e) m k t k' t' h = inr h

module _ (q n : ℕ) (k : SenderKey) (t : TokenBucket) (w : World) (start : AreSpreading q w) (fit : IsSound t) (new : IsNew w k) (hosts : AreHosts (after_send q n k t w)) where
  abbrev call : Local
  call = SendAs k.0 k.1 t

  abbrev begun : World
  begun = after_send q n k t w

  bounds_then : AreBounds q begun
  bounds_then = each_step_keeps_a_world_within_bounds q w (At n call) fit start.bounds

  -- ---- what is left at each node
  sender_on : (m : ℕ) (f : Facts) (k' : SenderKey) → has f.senders k' ≡ true → has (outcome q (At n call) w m f).facts.senders k' ≡ true
  sender_on m f k' e =
      ⊎_elim (λ (h : outcome q (At n call) w m f ≡ still f). ap (λ (o : Outcome). has o.facts.senders k') h ∙ e)
      (λ (h : IsCalled q w n call m f). ap (λ (o : Outcome). has o.facts.senders k') h.is ∙ put_has (call_refusal (config_of q w.net w.trees m) call f) f.senders k t k' e)
      (called q w n call m f)

  -- who is known stays known
  pub known_on : (m : ℕ) (f : Facts) (s : Session) (x : Sender) → slice_get w.nodes m ≡ Some f → has (known f s) x ≡ true → has (known (outcome q (At n call) w m f).facts s) x ≡ true
  known_on m f s x at sure =
      let g : Facts = (outcome q (At n call) w m f).facts in
      has-known g s x
      ∙ ⊎_elim (λ (own : has f.senders (s, x) ≡ true). ap (λ (b : Bool). b || has g.paths (s, x)) (sender_on m f (s, x) own))
      (λ (path : has f.paths (s, x) ≡ true).
      ap (λ (b : Bool). has g.senders (s, x) || b) (ap (λ (z : _). has z (s, x)) (paths_same q n call w m f) ∙ path) ∙ or_true (has g.senders (s, x)))
      (or_either (has f.senders (s, x)) (has f.paths (s, x)) (sym (has-known f s x) ∙ sure))

  -- ---- who is live: who was, and the new sender
  sender_source : (m : ℕ) (f : Facts) (k' : SenderKey) (t' : TokenBucket) → get (outcome q (At n call) w m f).facts.senders k' ≡ Some t' → (k' ≡ k) ⊎ (get f.senders k' ≡ Some t')
  sender_source m f k' t' e =
      ⊎_elim (λ (h : outcome q (At n call) w m f ≡ still f). inr (sym (ap (λ (o : Outcome). get o.facts.senders k') h) ∙ e))
      (λ (h : IsCalled q w n call m f). put_source (call_refusal (config_of q w.net w.trees m) call f) f.senders k t k' t' (sym (ap (λ (o : Outcome). get o.facts.senders k') h.is) ∙ e))
      (called q w n call m f)

  pub live_kept : (k' : SenderKey) (t' : TokenBucket) → IsLive w k' t' → IsLive begun k' t'
  live_kept k' t' l =
      let f = senders_found w l.node l.senders l.at in
      let sends : get f.0.senders k' ≡ Some t' = ap (λ (z : Table sender_keys TokenBucket). get z k') f.2 ∙ l.sends in
      let g : Facts = (outcome q (At n call) w l.node f.0).facts in
      let after = facts_after_made q (At n call) w l.node f.0 f.1 in
      let y = has_some (get g.senders k') (sender_on l.node f.0 k' (ap (λ (o : Option TokenBucket). is_some o) sends)) in
      ⊎_elim (λ (same : k' ≡ k). absurd (new t' (subst (λ (z : SenderKey). IsLive w z t') same l)))
      (λ (old : get f.0.senders k' ≡ Some y.0).
      let flow : y.0 ≡ t' = of_some y.0 t' (sym old ∙ sends) in
      is_live begun l.node g k' t' after (y.1 ∙ ap Some flow))
      (sender_source l.node f.0 k' y.0 y.1)

  live_source : (k' : SenderKey) (t' : TokenBucket) → IsLive begun k' t' → (k' ≡ k) ⊎ IsLive w k' t'
  live_source k' t' l =
      let g = senders_found begun l.node l.senders l.at in
      let f = facts_after_found q (At n call) w l.node g.0 g.1 in
      let sends : get (outcome q (At n call) w l.node f.0).facts.senders k' ≡ Some t' =
      ap (λ (z : Facts). get z.senders k') (sym f.2) ∙ ap (λ (z : Table sender_keys TokenBucket). get z k') g.2 ∙ l.sends in
      ⊎_elim (λ (e : k' ≡ k). inl e) (λ (old : get f.0.senders k' ≡ Some t'). inr (is_live w l.node f.0 k' t' f.1 old)) (sender_source l.node f.0 k' t' sends)

  -- ---- the new sender is offered, and what each node knew is offered still
  -- nobody knew it before
  nobody : (m : ℕ) (f : Facts) → slice_get w.nodes m ≡ Some f → has (known f k.0) k.1 ≡ false
  nobody m f a = either (has (known f k.0) k.1) (λ yes. absurd (by (get f.senders k) (get f.paths k) refl refl (sym (has-known f k.0 k.1) ∙ yes))) (λ no. no)
    where
      by : (o : Option TokenBucket) (p : Option PathState) → get f.senders k ≡ o → get f.paths k ≡ p → (has f.senders k || has f.paths k) ≡ true → ⊥
      by (Some t') p e g sure = new t' (is_live w m f k t' a e)
      by None (Some x) e g sure = new x.tspec (start.sound.facts m f k x a g).sound.live
      by None None e g sure = let bad : true ≡ false = sym sure ∙ (λ i. is_some (e i) || is_some (g i)) in absurd (cc)

  -- a node that comes to know a sender sends its Path over the hop
  offered_now : (k' : SenderKey) (t' : TokenBucket) (h : LinkHop) → IsLive begun k' t' → In h (tree w.net.hops k'.0.group k'.1.addr) → (f : Facts)
      → slice_get w.nodes (node_of w.net.ends h.from) ≡ Some f → has (known f k'.0) k'.1 ≡ false
      → has (known (outcome q (At n call) w (node_of w.net.ends h.from) f).facts k'.0) k'.1 ≡ true → IsPathOver begun k' t' h
  offered_now k' t' h alive there f at before after =
      let from : ℕ = node_of w.net.ends h.from in
      ⊎_elim
      (λ (z : outcome q (At n call) w from f ≡ still f). let bad : true ≡ false = sym after ∙ ap (λ (o : Outcome). has (known o.facts k'.0) k'.1) z ∙ before in absurd (cc))
      (λ (r : IsCalled q w n call from f).
      let o = offered_over q (At n call) w start.bounds k' h there (of_group begun hosts k' t' alive) f
      (record { facts = at; input = Call call; loud = refl; rule_is = r.is; before = before; after = after }) in
      let there_then = facts_after_made q (At n call) w from f at in
      let flow : IsLive begun k' o.offer.tspec =
      ⊎_elim
      (λ (l : IsLocalOffer (outcome q (At n call) w from f).facts (key q (At n call) w start.bounds k' h there) o.offer).
      is_live begun from (outcome q (At n call) w from f).facts k' o.offer.tspec there_then l.there)
      (λ (l : IsPathOffer (outcome q (At n call) w from f).facts (key q (At n call) w start.bounds k' h there) o.offer).
      subst (λ (z : TokenBucket). IsLive begun k' z) (sym l.tspec)
      (sound_facts q n call w start.bounds live_kept start.sound from (outcome q (At n call) w from f).facts k' l.path there_then l.there).sound.live) o.source in
      let same : o.offer.tspec ≡ t' = one_flow begun hosts k' o.offer.tspec t' flow alive in
      let y : Item × Bool = copy_to w.made (path_send (place q (At n call) w start.bounds k' h there) o.fired (key q (At n call) w start.bounds k' h there, o.offer)) h.to in
      record {
        item = y.0;
        flight = in_right y.0 w.flight (each (λ (z : Item × Bool). z.0) (sent q (At n call) w)) (to_each (λ (z : Item × Bool). z.0) y (sent q (At n call) w) o.sent_one);
        end = refl;
        dst = refl;
        path = _;
        spelt = refl;
        session = refl;
        sender = ap (λ (z : TokenBucket). Some (k'.1, z)) same;
      })
      (called q w n call from f)

  offered_then : ArePathsOffered begun
  offered_then k' t' h alive there knows =
      let from : ℕ = node_of w.net.ends h.from in
      let f = facts_after_found q (At n call) w from knows.facts knows.there in
      let sure_then : has (known (outcome q (At n call) w from f.0).facts k'.0) k'.1 ≡ true = ap (λ (z : Facts). has (known z k'.0) k'.1) (sym f.2) ∙ knows.known_one in
      ⊎_elim
      (λ (e : k' ≡ k). inr (offered_now k' t' h alive there f.0 f.1 (subst (λ (z : SenderKey). has (known f.0 z.0) z.1 ≡ false) (sym e) (nobody from f.0 f.1)) sure_then))
      (λ (old : IsLive w k' t').
      either (has (known f.0 k'.0) k'.1)
      (λ sure.
      ⊎_elim (λ (a : IsPathAt w k' t' h). inl (path_on q n call w k' t' h a)) (λ (y : IsPathOver w k' t' h). inr (over_on q n call w k' t' h y))
      (start.offered k' t' h old there (record { facts = f.0; there = f.1; known_one = sure })))
      (λ lacks. inr (offered_now k' t' h alive there f.0 f.1 lacks sure_then)))
      (live_source k' t' alive)

  pub spreading_then : AreSpreading q begun
  spreading_then = record {
    bounds = bounds_then;
    hosts = hosts;
    sound = sound_then q n call w start.bounds live_kept start.sound;
    no_tear = no_tear_then q n call w start.bounds known_on start.no_tear;
    offered = offered_then;
  }

pub a_new_sender_is_set_up : (q n : ℕ) (k : SenderKey) (t : TokenBucket) (w : World) → HasItsPaths q w → IsSound t → IsNew w k → AreHosts (after_send q n k t w)
    → HasItsPaths q (after_passes q (longest w.net) (after_send q n k t w))
a_new_sender_is_set_up q n k t w start fit new hosts =
    let s = spreading_then q n k t w (there_spread q w start) fit new hosts in
    let r = paths_spread_one_hop_a_pass q (longest w.net) (after_send q n k t w) s in
    let done = paths_are_set_up q (after_send q n k t w) s in
    record { bounds = r.0.bounds; hosts = r.0.hosts; sound = done.0; complete = done.1; no_tear = r.0.no_tear }
