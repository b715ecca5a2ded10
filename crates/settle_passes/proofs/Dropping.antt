-- A host ends to send: its node tears it down at once, and all else stays.
use Rattle.std.proofs.Common.{◌≡◌, ℕ, ◌+◌, Bool, true, false, cond, Option, Some, None, ◌⊎◌, inl, inr, ⊎_elim, arith, sym, refl, ap, subst, ◌∙◌}
use Rattle.std.specs.Prelude.{slice_get, is_some, not, ◌||◌, map as each}
use Rattle.std.specs.Ordering.{eq_by_cmp}
use Rattle.std.proofs.lemmas.Bool.{lt-ltb}
use Rattle.rsvp_base.specs.declared.addr.Addr.{Addr}
use Rattle.rsvp_base.specs.declared.session.Sender.{Sender}
use Rattle.rsvp_base.specs.declared.session.Session.{Session}
use Rattle.rsvp_base.specs.Members.{In}
use Rattle.rsvp_base.specs.Table.{Table, get, has, without}
use Rattle.rsvp_base.specs.TokenBucket.{TokenBucket}
use Rattle.rsvp_base.proofs.Members.{in_right, to_each}
use Rattle.rsvp_base.proofs.SetLaws.{and_made}
use Rattle.rsvp_base.proofs.Tables.{either, get-without, got_without, tied_same, tied_self}
use Rattle.rsvp_messages.specs.declared.message.Message.TheVariants as message
use Rattle.rsvp_messages.specs.declared.message.PathMsg.{PathMsg}
use Rattle.rsvp_messages.specs.declared.message.PathTearMsg.{PathTearMsg}
use Rattle.laws_bounds.specs.FactLaws.{is_way}
use Rattle.laws_bounds.proofs.Calling.{call_refusals}
use Rattle.laws_bounds.proofs.Knowing.{has-known}
use Rattle.router_rules.specs.declared.answers.LocalErr.{LocalErr}
use Rattle.router_rules.specs.Calls.{call_refusal, unless}
use Rattle.router_rules.specs.Facts.{Facts, SenderKey, PathState, sender_keys}
use Rattle.router_rules.specs.Inputs.{Call, DropAs, Local, Spelt}
use Rattle.router_rules.specs.Known.{known}
use Rattle.router_rules.specs.NodeConfig.{NodeConfig}
use Rattle.router_rules.specs.Rule.{Outcome}
use Rattle.router_rules.specs.Sends.{path_tear}
use Rattle.router_rules.specs.Steps.{facts_then, node_step}
use Rattle.tree_model.specs.declared.hops.LinkHop.{LinkHop}
use Rattle.tree_model.specs.Networks.{end_at, iface_of, node_of, owner}
use Rattle.tree_model.specs.Ranks.{longest}
use Rattle.tree_model.specs.Trees.{inward, outward, tree}
use Rattle.tree_model.proofs.Ifaces.{interfaces_are_ends}
use Rattle.tree_model.proofs.TreeLaws.{out_tested, the_root_has_no_inward, way_in_tested, way_in_told}
use Rattle.network_model.specs.Bounds.{AreHosts}
use Rattle.network_model.specs.Links.{copy_to}
use Rattle.network_model.specs.Locals.{IsLive}
use Rattle.network_model.specs.Sound.{ArePathsComplete, IsSoundAt}
use Rattle.network_model.specs.Steps.{At, ms_of, outcome, sent, still}
use Rattle.network_model.specs.Worlds.{Item, World, config_of}
use Rattle.network_model.proofs.NodeLocals.{is_live}
use Rattle.network_model.proofs.Stepping.{facts_after_found, facts_after_made}
use Rattle.laws_network.specs.Sources.{IsLocalOffer, IsPathOffer}
use Rattle.laws_network.specs.SpeakingLaws.{IsOfGoneOffer, IsOfOffer}
use Rattle.laws_network.proofs.Keeping.{each_step_keeps_a_world_within_bounds}
use Rattle.laws_network.proofs.Known.{has_some, of_some, or_true}
use Rattle.laws_network.proofs.Sends.{goes_to_peers}
use Rattle.laws_network.proofs.Speaking.{what_a_path_sent_says, why_a_path_tear_is_sent}
use Rattle.laws_network.proofs.Standing.{way_out}
use Rattle.settle_paths.proofs.LiveSenders.{senders_found}
use Rattle.settle_passes.specs.Calls.{HasItsPaths, HasNoPathOf, IsNew, SendsAt, after_drop}
use Rattle.settle_passes.specs.Passes.{Knows, after_passes}
use Rattle.settle_passes.proofs.Deliveries.{AreSoundOf, of_group, sent_is_sound, sound_of}
use Rattle.settle_passes.proofs.Fading.{faded, fading_passes, key_from, not_tied, own_is, place_from, torn_over}
use Rattle.settle_passes.proofs.Leaving.{IsFading, IsLeftAt, IsTearOver}
use Rattle.settle_passes.proofs.Tearing.{TearsFrom, tears_gone}
use Rattle.settle_passes.proofs.Called.{IsCalled, called, called_there, in_flight_then, path_before, path_on, paths_same, path_sent_by_call, sent_by_call}

drop_source : (r : Option LocalErr) (m : Table sender_keys TokenBucket) (d k : SenderKey) (t : TokenBucket) → get (unless r (without m d) m) k ≡ Some t → get m k ≡ Some t
drop_source None m d k t h = got_without sender_keys m d k t h
drop_source (Some e) m d k t h = h

drop_kept : (r : Option LocalErr) (m : Table sender_keys TokenBucket) (d k : SenderKey) (t : TokenBucket) → (k ≡ d → ⊥) → get m k ≡ Some t → get (unless r (without m d) m) k ≡ Some t
drop_kept None m d k t other h =
    either (eq_by_cmp sender_keys.cmp d k) (λ tied. absurd (other (sym (tied_same sender_keys d k tied))))
    (λ apart. get-without sender_keys m d k ∙ ap (λ (b : Bool). cond (not b) (get m k) None) apart ∙ h)
drop_kept (Some e) m d k t other h = h

drop_gone : (m : Table sender_keys TokenBucket) (d : SenderKey) → get (without m d) d ≡ None
drop_gone m d = get-without sender_keys m d d ∙ ap (λ (b : Bool). cond (not b) (get m d) None) (tied_self sender_keys d)

module _ (q n : ℕ) (d : SenderKey) (w : World) (start : HasItsPaths q w) (sends : SendsAt w n d) (quiet : HasNoPathOf w d) (hosts : AreHosts (after_drop q n d w)) where
  abbrev call : Local
  call = DropAs d.0 d.1

  abbrev begun : World
  begun = after_drop q n d w

  flow : (t : TokenBucket) × (get sends.facts.senders d ≡ Some t)
  flow = has_some (get sends.facts.senders d) sends.sends

  alive : IsLive w d flow.0
  alive = is_live w n sends.facts d flow.0 sends.there flow.1

  at_root : owner w.net.ends d.1.addr ≡ Some n
  at_root = start.hosts.placed n sends.facts d flow.0 sends.there flow.1

  -- ---- what is left at each node
  sender_source : (m : ℕ) (f : Facts) (k : SenderKey) (t : TokenBucket) → get (outcome q (At n call) w m f).facts.senders k ≡ Some t → get f.senders k ≡ Some t
  sender_source m f k t e =
      ⊎_elim (λ (h : outcome q (At n call) w m f ≡ still f). sym (ap (λ (o : Outcome). get o.facts.senders k) h) ∙ e)
      (λ (h : IsCalled q w n call m f). drop_source (call_refusal (config_of q w.net w.trees m) call f) f.senders d k t (sym (ap (λ (o : Outcome). get o.facts.senders k) h.is) ∙ e))
      (called q w n call m f)

  sender_kept : (m : ℕ) (f : Facts) (k : SenderKey) (t : TokenBucket) → (k ≡ d → ⊥) → get f.senders k ≡ Some t → get (outcome q (At n call) w m f).facts.senders k ≡ Some t
  sender_kept m f k t other e =
      ⊎_elim (λ (h : outcome q (At n call) w m f ≡ still f). ap (λ (o : Outcome). get o.facts.senders k) h ∙ e)
      (λ (h : IsCalled q w n call m f). ap (λ (o : Outcome). get o.facts.senders k) h.is ∙ drop_kept (call_refusal (config_of q w.net w.trees m) call f) f.senders d k t other e)
      (called q w n call m f)

  -- the node of the call has it no more
  dropped : get (outcome q (At n call) w n sends.facts).facts.senders d ≡ None
  dropped =
      let p : NodeConfig = config_of q w.net w.trees n in
      let made : call_refusal p call sends.facts ≡ None = (call_refusals.drops p sends.facts d.0 d.1).1 sends.sends in
      ap (λ (o : Outcome). get o.facts.senders d) (called_there q w n call sends.facts)
      ∙ ap (λ (r : Option LocalErr). get (unless r (without sends.facts.senders d) sends.facts.senders) d) made
      ∙ drop_gone sends.facts.senders d

  live_kept : (k : SenderKey) (t : TokenBucket) → (k ≡ d → ⊥) → IsLive w k t → IsLive begun k t
  live_kept k t other l =
      let f = senders_found w l.node l.senders l.at in
      let has_it : get f.0.senders k ≡ Some t = ap (λ (z : Table sender_keys TokenBucket). get z k) f.2 ∙ l.sends in
      is_live begun l.node (outcome q (At n call) w l.node f.0).facts k t (facts_after_made q (At n call) w l.node f.0 f.1) (sender_kept l.node f.0 k t other has_it)

  sender_before : (m : ℕ) (g : Facts) (k : SenderKey) (t : TokenBucket) → slice_get begun.nodes m ≡ Some g → get g.senders k ≡ Some t
      → (f : Facts) × (slice_get w.nodes m ≡ Some f) × (get f.senders k ≡ Some t)
  sender_before m g k t b h =
      let f = facts_after_found q (At n call) w m g b in
      (f.0, f.1, sender_source m f.0 k t (ap (λ (z : Facts). get z.senders k) (sym f.2) ∙ h))

  live_source : (k : SenderKey) (t : TokenBucket) → IsLive begun k t → IsLive w k t
  live_source k t l =
      let g = senders_found begun l.node l.senders l.at in
      let f = sender_before l.node g.0 k t g.1 (ap (λ (z : Table sender_keys TokenBucket). get z k) g.2 ∙ l.sends) in
      is_live w l.node f.0 k t f.1 f.2

  gone : IsNew begun d
  gone t l =
      let g = senders_found begun l.node l.senders l.at in
      let now : get g.0.senders d ≡ Some t = ap (λ (z : Table sender_keys TokenBucket). get z d) g.2 ∙ l.sends in
      let f = sender_before l.node g.0 d t g.1 now in
      let node : l.node ≡ n = of_some l.node n (sym (start.hosts.placed l.node f.0 d t f.1 f.2) ∙ at_root) in
      let there : slice_get begun.nodes n ≡ Some (outcome q (At n call) w n sends.facts).facts = facts_after_made q (At n call) w n sends.facts sends.there in
      let same : g.0 ≡ (outcome q (At n call) w n sends.facts).facts = of_some _ _ (sym g.1 ∙ ap (λ (z : ℕ). slice_get begun.nodes z) node ∙ there) in
      let bad : None ≡ Some t = sym dropped ∙ ap (λ (z : Facts). get z.senders d) (sym same) ∙ now in
      cc

  -- ---- the others
  sound_at : (k : SenderKey) → (k ≡ d → ⊥) → (e : ℕ) (v : Addr × TokenBucket) → IsSoundAt w k e v → IsSoundAt begun k e v
  sound_at k other e v s = record { hop = s.hop; there = s.there; to = s.to; from = s.from; live = live_kept k v.1 other s.live }

  sound_begun : (k : SenderKey) → (k ≡ d → ⊥) → AreSoundOf begun k
  sound_begun k other = record {
    facts = λ m g x b h.
        let f = path_before q n call w m g k x b h in
        let s = start.sound.facts m f.0 k x f.1 f.2 in
        record { end = s.end; at = s.at; sound = sound_at k other s.end (x.hop.addr, x.tspec) s.sound };
    items = λ y m t i spelt session sender in_way.
        ⊎_elim (λ (old : In y w.flight). sound_at k other y.end (m.hop.addr, t) ((sound_of w start.sound k).items y m t old spelt session sender in_way))
        (λ (new : (b : Bool) × In (y, b) (sent q (At n call) w)).
        let same : ◌≡◌ {A = SenderKey} (m.session, k.1) k = (λ z. (session z, k.1)) in
        let in_way' : inward w.net (node_of w.net.ends y.end) m.session.group k.1.addr ≡ Some y.end =
        subst (λ (z : Session). inward w.net (node_of w.net.ends y.end) z.group k.1.addr ≡ Some y.end) (sym session) in_way in
        subst (λ (z : SenderKey). IsSoundAt begun z y.end (m.hop.addr, t)) same
        (sent_is_sound q begun start.bounds.net y m k.1 t
        (λ a g z b h.
        let other' : (m.session, k.1) ≡ d → ⊥ = (λ e. other (sym same ∙ e)) in
        let f = path_before q n call w a g (m.session, k.1) z b h in
        let s = start.sound.facts a f.0 (m.session, k.1) z f.1 f.2 in
        record { end = s.end; at = s.at; sound = sound_at (m.session, k.1) other' s.end (z.hop.addr, z.tspec) s.sound })
        (path_sent_by_call q w n call start.bounds y new.0 m new.1 spelt) sender in_way'))
        (in_flight_then q n call w y i);
  }

  complete_begun : ArePathsComplete begun
  complete_begun k t h live there = path_on q n call w k t h (start.complete k t h (live_source k t live) there)

  known_still : (m : ℕ) (f : Facts) (k : SenderKey) → (k ≡ d → ⊥) → slice_get w.nodes m ≡ Some f → has (known f k.0) k.1 ≡ true → has (known (outcome q (At n call) w m f).facts k.0) k.1 ≡ true
  known_still m f k other a sure = by (get f.senders k) refl
    where
      by : (o : Option TokenBucket) → get f.senders k ≡ o → has (known (outcome q (At n call) w m f).facts k.0) k.1 ≡ true
      by (Some t) e =
          has-known (outcome q (At n call) w m f).facts k.0 k.1
          ∙ ap (λ (c : Bool). c || has (outcome q (At n call) w m f).facts.paths k) (ap (λ (z : Option TokenBucket). is_some z) (sender_kept m f k t other e))
      by None e =
          let path : has f.paths k ≡ true = sym (ap (λ (z : Option TokenBucket). is_some z || has f.paths k) e) ∙ sym (has-known f k.0 k.1) ∙ sure in
          let some : has (outcome q (At n call) w m f).facts.paths k ≡ true = ap (λ (z : _). has z k) (paths_same q n call w m f) ∙ path in
          has-known (outcome q (At n call) w m f).facts k.0 k.1 ∙ ap (λ (c : Bool). has (outcome q (At n call) w m f).facts.senders k || c) some
          ∙ or_true (has (outcome q (At n call) w m f).facts.senders k)

  -- ---- what is sent
  tears_begun : (y : Item) (m : PathTearMsg) → In y begun.flight → y.arrival ≡ Spelt (message.PathTear m) → (m.session ≡ d.0) × (m.sender ≡ Some d.1)
  tears_begun y m i spelt =
      ⊎_elim (λ (old : In y w.flight). absurd (start.no_tear y m old spelt))
      (λ (now : (b : Bool) × In (y, b) (sent q (At n call) w)).
      let r = sent_by_call q w n call y now.0 (message.PathTear m) now.1 spelt in
      let p : NodeConfig = config_of q w.net w.trees r.node in
      let c : ℕ = w.clock + ms_of (At n call) in
      let o : IsOfGoneOffer p p r.facts (facts_then p p c (Call call) r.facts) r.send m =
      why_a_path_tear_is_sent (node_step p p w.clock c (Call call) r.facts) (start.bounds.facts r.node r.facts r.there) r.send m r.sent r.says in
      let k : SenderKey = (o.key.session, o.key.sender) in
      either (eq_by_cmp sender_keys.cmp k d)
      (λ tied.
      let e : k ≡ d = tied_same sender_keys k d tied in
      (ap (λ (z : PathTearMsg). z.session) o.is ∙ ap (λ (z : SenderKey). z.0) e, ap (λ (z : PathTearMsg). z.sender) o.is ∙ ap (λ (z : SenderKey). Some z.1) e))
      (λ apart.
      let knows : has (known (facts_then p p c (Call call) r.facts) k.0) k.1 ≡ true = ap (λ (z : Outcome). has (known z.facts k.0) k.1) (sym r.by.is)
      ∙ known_still r.node r.facts k (not_tied k d apart) r.there o.known_before in
      absurd (⊎_elim
      (λ (away : is_way p o.key ≡ false). let out : is_way p o.key ≡ true = and_made _ _ (lt-ltb o.key.iface _ o.there) o.way in let bad : true ≡ false = sym out ∙ away in cc)
      (λ (lost : has (known (facts_then p p c (Call call) r.facts) o.key.session) o.key.sender ≡ false). let bad : true ≡ false = sym knows ∙ lost in cc) o.gone)))
      (in_flight_then q n call w y i)

  -- the root has no path of it
  no_path_at_root : (f : Facts) (x : PathState) → slice_get w.nodes n ≡ Some f → get f.paths d ≡ Some x → ⊥
  no_path_at_root f x a e =
      let s = start.sound.facts n f d x a e in
      let of = (interfaces_are_ends w.net).iface_of_end n x.iface s.end s.at in
      let into : inward w.net n d.0.group d.1.addr ≡ Some s.sound.hop.to =
      way_in_tested w.net start.bounds.net n s.sound.hop.to d.0.group d.1.addr (s.sound.hop, s.sound.there, refl, ap (node_of w.net.ends) s.sound.to ∙ of.1) in
      let none : inward w.net n d.0.group d.1.addr ≡ None = (the_root_has_no_inward w.net start.bounds.net).root n d.0.group d.1.addr at_root in
      let bad : None ≡ Some s.sound.hop.to = sym none ∙ into in
      cc

  silent_sent : (y : Item) (b : Bool) (m : PathMsg) (t : TokenBucket) → In (y, b) (sent q (At n call) w) → y.arrival ≡ Spelt (message.Path m) → m.session ≡ d.0 → m.sender ≡ Some (d.1, t) → ⊥
  silent_sent y b m t i spelt session sender =
      let r = sent_by_call q w n call y b (message.Path m) i spelt in
      let p : NodeConfig = config_of q w.net w.trees r.node in
      let c : ℕ = w.clock + ms_of (At n call) in
      let after : Facts = facts_then p p c (Call call) r.facts in
      let o : IsOfOffer p after r.send m = what_a_path_sent_says.says (node_step p p w.clock c (Call call) r.facts) (start.bounds.facts r.node r.facts r.there) r.send m r.sent r.says in
      let both : ◌≡◌ {A = Sender × TokenBucket} (o.key.sender, o.offer.tspec) (d.1, t) = of_some (o.key.sender, o.offer.tspec) (d.1, t) (sym (ap (λ (z : PathMsg). z.sender) o.is) ∙ sender) in
      let of_session : o.key.session ≡ d.0 = sym (ap (λ (z : PathMsg). z.session) o.is) ∙ session in
      let of_sender : o.key.sender ≡ d.1 = ap (λ (z : Sender × TokenBucket). z.0) both in
      let same : ◌≡◌ {A = SenderKey} (o.key.session, o.key.sender) d = (λ z. (of_session z, of_sender z)) in
      let there : slice_get begun.nodes r.node ≡ Some (outcome q (At n call) w r.node r.facts).facts = facts_after_made q (At n call) w r.node r.facts r.there in
      ⊎_elim
      (λ (l : IsLocalOffer after o.key o.offer).
      gone o.offer.tspec (is_live begun r.node (outcome q (At n call) w r.node r.facts).facts d o.offer.tspec there
      (ap (λ (z : Outcome). get z.facts.senders d) r.by.is ∙ ap (λ (z : SenderKey). get after.senders z) (sym same) ∙ l.there)))
      (λ (l : IsPathOffer after o.key o.offer).
      let now : get r.facts.paths d ≡ Some l.path = ap (λ (z : SenderKey). get after.paths z) (sym same) ∙ l.there in
      no_path_at_root r.facts l.path (ap (λ (z : ℕ). slice_get w.nodes z) r.by.node ∙ r.there) now)
      o.source

  -- ---- what is left of it
  left_begun : (m : ℕ) (g : Facts) (x : PathState) → slice_get begun.nodes m ≡ Some g → get g.paths d ≡ Some x → IsLeftAt begun m d x
  left_begun m g x b e =
      let f = path_before q n call w m g d x b e in
      let s = start.sound.facts m f.0 d x f.1 f.2 in
      let of = (interfaces_are_ends w.net).iface_of_end m x.iface s.end s.at in
      record {
        hop = s.sound.hop;
        there = s.sound.there;
        node = ap (node_of w.net.ends) s.sound.to ∙ of.1;
        iface = sym of.2 ∙ ap (iface_of w.net.ends) (sym s.sound.to);
        from = s.sound.from;
      }

  nothing_at_root : get sends.facts.paths d ≡ None
  nothing_at_root = by (get sends.facts.paths d) refl
    where
      by : (o : Option PathState) → get sends.facts.paths d ≡ o → o ≡ None
      by None e = refl
      by (Some x) e = absurd (no_path_at_root sends.facts x sends.there e)

  -- the node of the host knows it no more
  lost : has (known (outcome q (At n call) w n sends.facts).facts d.0) d.1 ≡ false
  lost =
      let path : get (outcome q (At n call) w n sends.facts).facts.paths d ≡ None = ap (λ (z : _). get z d) (paths_same q n call w n sends.facts) ∙ nothing_at_root in
      has-known (outcome q (At n call) w n sends.facts).facts d.0 d.1 ∙ (λ i. is_some (dropped i) || is_some (path i))

  -- so it tears it down over each hop of the tree out of it
  torn_at_root : (h : LinkHop) → In h (tree w.net.hops d.0.group d.1.addr) → n ≡ node_of w.net.ends h.from → IsTearOver begun d h
  torn_at_root h there root =
      let from : ℕ = node_of w.net.ends h.from in
      let at : slice_get w.nodes from ≡ Some sends.facts = ap (λ (z : ℕ). slice_get w.nodes z) (sym root) ∙ sends.there in
      let before : has (known sends.facts d.0) d.1 ≡ true = has-known sends.facts d.0 d.1 ∙ ap (λ (b : Bool). b || has sends.facts.paths d) sends.sends in
      let after : has (known (outcome q (At n call) w from sends.facts).facts d.0) d.1 ≡ false =
      subst (λ (z : ℕ). has (known (outcome q (At n call) w z sends.facts).facts d.0) d.1 ≡ false) root lost in
      ⊎_elim
      (λ (z : outcome q (At n call) w from sends.facts ≡ still sends.facts).
      let bad : true ≡ false = sym before ∙ sym (ap (λ (o : Outcome). has (known o.facts d.0) d.1) z) ∙ after in absurd (cc))
      (λ (r : IsCalled q w n call from sends.facts).
      let one_sent = torn_over q (At n call) w start.bounds d h there (of_group w start.hosts d flow.0 alive) sends.facts
      (record { facts = at; input = Call call; loud = refl; rule_is = r.is; before = before; after = after }) in
      let y : Item × Bool = copy_to w.made (path_tear (place_from q (At n call) w start.bounds d h there) (key_from q (At n call) w start.bounds d h there)) h.to in
      record {
        item = y.0;
        flight = in_right y.0 w.flight (each (λ (z : Item × Bool). z.0) (sent q (At n call) w)) (to_each (λ (z : Item × Bool). z.0) y (sent q (At n call) w) one_sent);
        end = refl;
        dst = refl;
        tear = _;
        spelt = refl;
        session = refl;
        sender = refl;
        hop = own_is q (At n call) w start.bounds d h there;
      })
      (called q w n call from sends.facts)

  -- any other node before a hop has its path still
  fading_begun : (h : LinkHop) → In h (tree w.net.hops d.0.group d.1.addr) → Knows begun (node_of w.net.ends h.from) d ⊎ IsTearOver begun d h
  fading_begun h there =
      let from : ℕ = node_of w.net.ends h.from in
      let leaves : In h.from (outward w.net from d.0.group d.1.addr) = out_tested w.net from h.from d.0.group d.1.addr (h, there, refl, refl) in
      ⊎_elim (λ (root : owner w.net.ends d.1.addr ≡ Some from). inr (torn_at_root h there (of_some n from (sym at_root ∙ root))))
      (λ (way : (i : ℕ) × (inward w.net from d.0.group d.1.addr ≡ Some i)).
      let v = way_in_told w.net start.bounds.net from way.0 d.0.group d.1.addr way.1 in
      let m : ℕ = node_of w.net.ends v.0.to in
      let node : m ≡ from = ap (node_of w.net.ends) v.2 ∙ v.3 in
      let a = start.complete d flow.0 v.0 alive v.1 in
      let g : Facts = (outcome q (At n call) w m a.facts).facts in
      let some : has g.paths d ≡ true = ap (λ (z : _). has z d) (paths_same q n call w m a.facts) ∙ ap (λ (z : Option PathState). is_some z) a.there in
      inl (record {
        facts = g;
        there = ap (λ (z : ℕ). slice_get begun.nodes z) (sym node) ∙ facts_after_made q (At n call) w m a.facts a.node;
        known_one = has-known g d.0 d.1 ∙ ap (λ (b : Bool). has g.senders d || b) some ∙ or_true (has g.senders d);
      }))
      ((the_root_has_no_inward w.net start.bounds.net).entered from h.from d.0.group d.1.addr leaves)

  pub fades : IsFading q d begun
  fades = record {
    bounds = each_step_keeps_a_world_within_bounds q w (At n call) tt start.bounds;
    hosts = hosts;
    group = of_group w start.hosts d flow.0 alive;
    gone = gone;
    sound = sound_begun;
    named = λ y m i spelt none.
        ⊎_elim (λ (old : In y w.flight). start.sound.named y m old spelt none)
        (λ (now : (b : Bool) × In (y, b) (sent q (At n call) w)).
        let p = path_sent_by_call q w n call start.bounds y now.0 m now.1 spelt in
        let bad : Some (p.sender, p.tspec) ≡ None = sym p.of ∙ none in absurd (cc)) (in_flight_then q n call w y i);
    complete = complete_begun;
    tears = tears_begun;
    silent = λ y m t i spelt session sender.
        ⊎_elim (λ (old : In y w.flight). quiet y m t old spelt session sender) (λ (now : (b : Bool) × In (y, b) (sent q (At n call) w)). silent_sent y now.0 m t now.1 spelt session sender)
        (in_flight_then q n call w y i);
    left = left_begun;
    fading = λ h g x there b e. fading_begun h there;
  }

  -- its PathTears leave nodes of its tree
  pub tears_from : (y : Item) → In y begun.flight → TearsFrom w.net d 0 y
  tears_from y i m spelt =
      ⊎_elim (λ (old : In y w.flight). absurd (start.no_tear y m old spelt))
      (λ (now : (b : Bool) × In (y, b) (sent q (At n call) w)).
      let r = sent_by_call q w n call y now.0 (message.PathTear m) now.1 spelt in
      let p : NodeConfig = config_of q w.net w.trees r.node in
      let c : ℕ = w.clock + ms_of (At n call) in
      let o : IsOfGoneOffer p p r.facts (facts_then p p c (Call call) r.facts) r.send m =
      why_a_path_tear_is_sent (node_step p p w.clock c (Call call) r.facts) (start.bounds.facts r.node r.facts r.there) r.send m r.sent r.says in
      let t = tears_begun y m i spelt in
      let of_session : o.key.session ≡ d.0 = sym (ap (λ (z : PathTearMsg). z.session) o.is) ∙ t.0 in
      let of_sender : o.key.sender ≡ d.1 = of_some o.key.sender d.1 (sym (ap (λ (z : PathTearMsg). z.sender) o.is) ∙ t.1) in
      let same : ◌≡◌ {A = SenderKey} (o.key.session, o.key.sender) d = (λ z. (of_session z, of_sender z)) in
      let e = way_out q w.net w.trees r.node start.bounds.net o.key.session o.key.iface o.key.sender o.there o.way in
      record {
        end = e.0;
        leaves = subst (λ (z : ℕ). In e.0 (outward w.net z d.0.group d.1.addr)) (sym e.2) (subst (λ (z : SenderKey). In e.0 (outward w.net r.node z.0.group z.1.addr)) same e.3);
        to = goes_to_peers w.net (end_at w.net.ends r.node r.send.iface) e.0 r.send.dst y.end (ap (end_at w.net.ends r.node) o.iface ∙ e.1) r.to;
        deep = omega arith;
      })
      (in_flight_then q n call w y i)

pub an_ended_sender_is_forgotten : (q n : ℕ) (d : SenderKey) (w : World) → HasItsPaths q w → SendsAt w n d → HasNoPathOf w d → AreHosts (after_drop q n d w)
    → HasItsPaths q (after_passes q (longest w.net) (after_drop q n d w))
an_ended_sender_is_forgotten q n d w start sends quiet hosts =
    let begun : World = after_drop q n d w in
    let f = fades q n d w start sends quiet hosts in
    let left = fading_passes q d (longest w.net) begun f in
    let done = faded q d begun f in
    record {
      bounds = left.bounds;
      hosts = left.hosts;
      sound = done.0;
      complete = done.1;
      no_tear = tears_gone q d begun f (tears_from q n d w start sends quiet hosts);
    }
