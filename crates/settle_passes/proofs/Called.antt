-- A call at a node, whatever it asks for: the node follows its rule, the others stay, and no path changes.
use Rattle.std.proofs.Common.{◌≡◌, ℕ, suc, ◌≤◌, ◌∷◌, ◌++◌, arith, ◌+◌, List, [], length, Bool, true, false, cond, Option, Some, None, ◌⊎◌, inl, inr, ⊎_elim, sym, refl, ap, subst, ◌∙◌}
use Rattle.std.specs.Prelude.{slice_get, is_some, ◌||◌, ◌==◌, map as each}
use Rattle.std.proofs.lemmas.Bool.{lt-ltb}
use Rattle.std.specs.List.{filter}
use Rattle.rsvp_base.specs.declared.addr.Addr.{Addr}
use Rattle.rsvp_base.specs.declared.session.Session.{Session}
use Rattle.rsvp_base.specs.Members.{In}
use Rattle.rsvp_base.specs.Table.{Table, get, has, keys, changed, changed_rows}
use Rattle.rsvp_base.specs.TokenBucket.{TokenBucket}
use Rattle.rsvp_base.proofs.Members.{in_append, in_each, in_left}
use Rattle.rsvp_base.proofs.SetLaws.{and_made, same_set}
use Rattle.rsvp_base.proofs.Tables.{get-changed, then_do}
use Rattle.rsvp_base.specs.declared.session.Sender.{Sender}
use Rattle.rsvp_base.specs.Orders.{sessions}
use Rattle.rsvp_base.specs.Sets.{set_of, Set}
use Rattle.rsvp_base.specs.Keys.{Keys}
use Rattle.rsvp_messages.specs.declared.message.Message.{Message}
use Rattle.rsvp_messages.specs.declared.message.Message.TheVariants as message
use Rattle.rsvp_messages.specs.declared.message.PathMsg.{PathMsg}
use Rattle.laws_bounds.specs.FactLaws.{is_way}
use Rattle.laws_bounds.proofs.Knowing.{has-known}
use Rattle.laws_bounds.specs.Frames.{calls_on_senders, AreSameButMarks, calls_on_wants}
use Rattle.laws_bounds.proofs.Framing.{wants_then}
use Rattle.laws_steps.specs.BlameLaws.{IsPassedOn, IsRefusal}
use Rattle.laws_steps.proofs.Blaming.{where_an_error_with_a_flow_comes_from}
use Rattle.laws_steps.proofs.Framing.{left_as_it_was}
use Rattle.router_rules.specs.Calls.{SendersOf, call_refusal, senders_with, unless, wants_with}
use Rattle.router_rules.specs.Facts.{Facts, SenderKey, PathState, sender_keys, Wants}
use Rattle.router_rules.specs.Inputs.{AdvertAs, Call, DropAs, Local, QuitAll, Send, SendAs, Spelt, Wait, WantAs, Came}
use Rattle.router_rules.specs.Known.{known}
use Rattle.router_rules.specs.NodeConfig.{NodeConfig, own}
use Rattle.router_rules.specs.Rule.{Outcome, rule}
use Rattle.router_rules.specs.Steps.{facts_then, node_step, sent_then, IsFitCall}
use Rattle.tree_model.specs.declared.hops.LinkHop.{LinkHop}
use Rattle.tree_model.specs.Networks.{end_at, node_of}
use Rattle.tree_model.specs.Trees.{outward}
use Rattle.tree_model.proofs.Following.{number_same, same_number}
use Rattle.tree_model.specs.Wants.{of_session}
use Rattle.tree_model.specs.declared.locals.LocalSender.{LocalSender}
use Rattle.network_model.specs.Bounds.{AreBounds, AreHosts}
use Rattle.network_model.specs.Links.{goes_to}
use Rattle.network_model.specs.Locals.{IsLive, locals_of, sender_at, senders_from, want_at, wants_from}
use Rattle.network_model.specs.Sound.{ArePathsSound, IsPathAt, IsSoundAt, IsSoundPath}
use Rattle.network_model.specs.Steps.{At, ms_of, outcome, outcome_of, sent, step, still, facts_from}
use Rattle.network_model.specs.Worlds.{Item, World, config_of}
use Rattle.network_model.proofs.Changing.{what_is_sent_is_copied}
use Rattle.network_model.proofs.NodeLocals.{is_live}
use Rattle.network_model.proofs.Stepping.{facts_after_found, facts_after_made}
use Rattle.laws_network.specs.Sources.{IsLocalOffer, IsPathOffer}
use Rattle.laws_network.specs.SpeakingLaws.{IsOfGoneOffer, IsOfOffer}
use Rattle.laws_network.proofs.Keeping.{each_step_keeps_a_world_within_bounds}
use Rattle.laws_network.proofs.Known.{has_some}
use Rattle.laws_network.proofs.Sends.{goes_to_peers}
use Rattle.laws_network.proofs.Speaking.{what_a_path_sent_says, why_a_path_tear_is_sent}
use Rattle.laws_network.proofs.Standing.{own_end, way_out}
use Rattle.laws_network.proofs.Locals.{same_wants}
use Rattle.settle_paths.proofs.LiveSenders.{senders_found}
use Rattle.settle_paths.proofs.PathSends.{IsPathSent}
use Rattle.settle_resvs.specs.Sessions.{HasNoFlowErrorOf, IsFreeOfBlockadesOf}
use Rattle.settle_passes.specs.Calls.{HasItsPaths}
use Rattle.settle_passes.specs.Passes.{AreSpreading, HasNoPathTear, IsPathOver}
use Rattle.settle_passes.proofs.Deliveries.{sent_is_sound}
use Rattle.settle_passes.proofs.Turns.{Turns}

-- ---- a call at a node: the node follows its rule, and the others stay
pub record IsCalled (q : ℕ) (w : World) (n : ℕ) (l : Local) (m : ℕ) (f : Facts) : Type 0 where
  pub node : n ≡ m
  pub is : outcome q (At n l) w m f ≡ rule (config_of q w.net w.trees m) (config_of q w.net w.trees m) (w.clock + ms_of (At n l)) (Call l) f

pub called : (q : ℕ) (w : World) (n : ℕ) (l : Local) (m : ℕ) (f : Facts) → (outcome q (At n l) w m f ≡ still f) ⊎ IsCalled q w n l m f
called q w n l m f = by (n == m) refl
  where
    by : (b : Bool) → (n == m) ≡ b → (outcome q (At n l) w m f ≡ still f) ⊎ IsCalled q w n l m f
    by true e =
        inr (record { node = same_number n m e; is = ap (λ (b : Bool). outcome_of q (cond b (Some (Call l)) None) (At n l) w m f) e })
    by false e = inl (ap (λ (b : Bool). outcome_of q (cond b (Some (Call l)) None) (At n l) w m f) e)

pub called_there : (q : ℕ) (w : World) (n : ℕ) (l : Local) (f : Facts)
    → outcome q (At n l) w n f ≡ rule (config_of q w.net w.trees n) (config_of q w.net w.trees n) (w.clock + ms_of (At n l)) (Call l) f
called_there q w n l f = ap (λ (b : Bool). outcome_of q (cond b (Some (Call l)) None) (At n l) w n f) (number_same n n refl)

-- what is sent by a call is sent by the node where it is made
pub record IsSentByCall (q : ℕ) (w : World) (n : ℕ) (l : Local) (y : Item) (m : Message) : Type 0 where
  pub node : ℕ
  pub facts : Facts
  pub there : slice_get w.nodes node ≡ Some facts
  pub by : IsCalled q w n l node facts
  pub send : Send
  pub sent : In send (sent_then (config_of q w.net w.trees node) (config_of q w.net w.trees node) (w.clock + ms_of (At n l)) (Call l) facts)
  pub says : send.message ≡ m
  pub dst : y.dst ≡ send.dst
  pub to : In y.end (goes_to w.net (end_at w.net.ends node send.iface) send.dst)

pub sent_by_call : (q : ℕ) (w : World) (n : ℕ) (l : Local) (y : Item) (b : Bool) (m : Message) → In (y, b) (sent q (At n l) w) → y.arrival ≡ Spelt m → IsSentByCall q w n l y m
sent_by_call q w n l y b m i spelt =
    let c = (what_is_sent_is_copied q (At n l) w (y, b)).0 i in
    let copied : Spelt c.send.message ≡ Spelt m = sym (ap (λ (z : Item × Bool). z.0.arrival) c.is) ∙ spelt in
    let says : c.send.message ≡ m = cc in
    ⊎_elim
    (λ (h : outcome q (At n l) w c.node c.facts ≡ still c.facts).
    let none : (outcome q (At n l) w c.node c.facts).sent ≡ [] = ap (λ (z : Outcome). z.sent) h in
    absurd (subst (λ (z : List Send). In c.send z) none c.sent))
    (λ (h : IsCalled q w n l c.node c.facts).
    record {
      node = c.node;
      facts = c.facts;
      there = c.there;
      by = h;
      send = c.send;
      sent = subst (λ (z : Outcome). In c.send z.sent) h.is c.sent;
      says = says;
      dst = ap (λ (z : Item × Bool). z.0.dst) c.is;
      to = subst (λ (z : ℕ). In z (goes_to w.net (end_at w.net.ends c.node c.send.iface) c.send.dst)) (sym (ap (λ (z : Item × Bool). z.0.end) c.is)) c.goes;
    })
    (called q w n l c.node c.facts)

-- a Path that is sent by a call
pub path_sent_by_call : (q : ℕ) (w : World) (n : ℕ) (l : Local) → AreBounds q w → (y : Item) (b : Bool) (m : PathMsg) → In (y, b) (sent q (At n l) w) → y.arrival ≡ Spelt (message.Path m)
    → IsPathSent q w.net (step q (At n l) w) y m
path_sent_by_call q w n l bounds y b m i spelt =
    let r = sent_by_call q w n l y b (message.Path m) i spelt in
    let p : NodeConfig = config_of q w.net w.trees r.node in
    let after : Facts = (outcome q (At n l) w r.node r.facts).facts in
    let o : IsOfOffer p after r.send m =
    subst (λ (z : Outcome). IsOfOffer p z.facts r.send m) (sym r.by.is) (what_a_path_sent_says.says (node_step p p w.clock (w.clock + ms_of (At n l)) (Call l) r.facts)
    (bounds.facts r.node r.facts r.there) r.send m r.sent r.says) in
    let e = way_out q w.net w.trees r.node bounds.net o.key.session o.key.iface o.key.sender o.there o.way in
    let session : m.session ≡ o.key.session = ap (λ (z : PathMsg). z.session) o.is in
    record {
      node = r.node;
      facts = after;
      after = facts_after_made q (At n l) w r.node r.facts r.there;
      sender = o.key.sender;
      tspec = o.offer.tspec;
      of = ap (λ (z : PathMsg). z.sender) o.is;
      source = ⊎_elim
          (λ (d : IsLocalOffer after o.key o.offer). inl (ap (λ (z : Session). get after.senders (z, o.key.sender)) session ∙ d.there))
          (λ (d : IsPathOffer after o.key o.offer). inr (d.path, ap (λ (z : Session). get after.paths (z, o.key.sender)) session ∙ d.there, d.tspec)) o.source;
      end = e.0;
      at = e.2;
      leaves = subst (λ (z : Session). In e.0 (outward w.net r.node z.group o.key.sender.addr)) (sym session) e.3;
      hop = ap (λ (z : PathMsg). z.hop.addr) o.is ∙ own_end q w.net w.trees r.node o.key.iface e.0 e.1;
      to = goes_to_peers w.net (end_at w.net.ends r.node r.send.iface) e.0 r.send.dst y.end (ap (end_at w.net.ends r.node) o.iface ∙ e.1) r.to;
      dst = r.dst ∙ o.dst ∙ ap (λ (z : Session). z.group) (sym session);
      period = ap (λ (z : PathMsg). z.period) o.is;
    }

-- ---- a table has the keys that it had where one of its rows is replaced
module _ {K X : Type 0} (o : Keys K) where
  abbrev any : K → X → Option (Unit {0})
  any k x = Some tt

  rows_kept : (es : List (K × X)) → each (λ e. e.0) (changed_rows any es) ≡ each (λ e. e.0) es
  rows_kept [] = refl
  rows_kept (e ∷ es) = ap (λ ks. e.0 ∷ ks) (rows_kept es)

  has_kept : (m : Table o X) (k : K) → has (changed any m) k ≡ has m k
  has_kept m k = ap is_some (get-changed o any m k) ∙ by (get m k)
    where
      by : (w : Option X) → is_some (then_do w (any k)) ≡ is_some w
      by None = refl
      by (Some x) = refl

  pub keys_alike : (m n : Table o X) → ((j : K) → has m j ≡ has n j) → keys m ≡ keys n
  keys_alike m n same =
      sym (rows_kept m.rows) ∙ ap (λ (t : Set o). keys t) (same_set o (changed any m) (changed any n) (λ j. has_kept m j ∙ same j ∙ sym (has_kept n j))) ∙ rows_kept n.rows

pub unless_same : {E X : Type 0} (o : Option E) (x : X) → unless o x x ≡ x
unless_same None x = refl
unless_same (Some e) x = refl

-- a call that speaks of no sender leaves them
pub senders_left : (l : Local) → calls_on_senders l ≡ false → (t : SendersOf) → senders_with l t ≡ t
senders_left (SendAs s x tspec) e t = absurd (cc)
senders_left (DropAs s x) e t = absurd (cc)
senders_left (WantAs s st names flow mark) e t = refl
senders_left (AdvertAs s x) e t = refl
senders_left (QuitAll s) e t = refl

-- ---- what any call leaves
module _ (q n : ℕ) (call : Local) (w : World) where
  abbrev asked : World
  asked = step q (At n call) w

  pub turns : (m : ℕ) (f : Facts) → slice_get w.nodes m ≡ Some f → (outcome q (At n call) w m f ≡ still f) ⊎ Turns q (At n call) w m f
  turns m f at =
      ⊎_elim (λ (z : outcome q (At n call) w m f ≡ still f). inl z)
      (λ (h : IsCalled q w n call m f).
      inr (record {
        input = Call call;
        came = ap (λ (b : Bool). cond b (Some (Call call)) None) (number_same n m h.node);
        loud = refl;
        timeless = λ ms word e. let bad : Call call ≡ Wait ms word = e in cc;
        is = h.is;
      }))
      (called q w n call m f)

  pub paths_same : (m : ℕ) (f : Facts) → (outcome q (At n call) w m f).facts.paths ≡ f.paths
  paths_same m f =
      ⊎_elim (λ (h : outcome q (At n call) w m f ≡ still f). ap (λ (o : Outcome). o.facts.paths) h) (λ (h : IsCalled q w n call m f). ap (λ (o : Outcome). o.facts.paths) h.is) (called q w n call m f)

  pub walls_same : (m : ℕ) (f : Facts) → (outcome q (At n call) w m f).facts.walls ≡ f.walls
  walls_same m f =
      ⊎_elim (λ (h : outcome q (At n call) w m f ≡ still f). ap (λ (o : Outcome). o.facts.walls) h) (λ (h : IsCalled q w n call m f). ap (λ (o : Outcome). o.facts.walls) h.is) (called q w n call m f)

  pub path_before : (m : ℕ) (g : Facts) (k : SenderKey) (x : PathState) → slice_get asked.nodes m ≡ Some g → get g.paths k ≡ Some x
      → (f : Facts) × (slice_get w.nodes m ≡ Some f) × (get f.paths k ≡ Some x)
  path_before m g k x b h =
      let f = facts_after_found q (At n call) w m g b in
      (f.0, f.1, sym (ap (λ (z : _). get z k) (ap (λ (z : Facts). z.paths) f.2 ∙ paths_same m f.0)) ∙ h)

  pub path_on : (k : SenderKey) (t : TokenBucket) (h : LinkHop) → IsPathAt w k t h → IsPathAt asked k t h
  path_on k t h a = record {
    facts = (outcome q (At n call) w (node_of w.net.ends h.to) a.facts).facts;
    node = facts_after_made q (At n call) w (node_of w.net.ends h.to) a.facts a.node;
    path = a.path;
    there = ap (λ (z : _). get z k) (paths_same (node_of w.net.ends h.to) a.facts) ∙ a.there;
    iface = a.iface;
    hop = a.hop;
    tspec = a.tspec;
  }

  pub over_on : (k : SenderKey) (t : TokenBucket) (h : LinkHop) → IsPathOver w k t h → IsPathOver asked k t h
  over_on k t h y = record {
    item = y.item;
    flight = in_left y.item w.flight (each (λ (z : Item × Bool). z.0) (sent q (At n call) w)) y.flight;
    end = y.end;
    dst = y.dst;
    path = y.path;
    spelt = y.spelt;
    session = y.session;
    sender = y.sender;
  }

  -- what is in flight was there, or is sent by the call
  pub in_flight_then : (y : Item) → In y asked.flight → In y w.flight ⊎ ((b : Bool) × In (y, b) (sent q (At n call) w))
  in_flight_then y i =
      ⊎_elim (λ (old : In y w.flight). inl old)
      (λ (j : In y (each (λ (z : Item × Bool). z.0) (sent q (At n call) w))).
      let r = in_each (λ (z : Item × Bool). z.0) y (sent q (At n call) w) j in
      inr (r.0.1, subst (λ (z : Item). In (z, r.0.1) (sent q (At n call) w)) (sym r.2) r.1))
      (in_append y w.flight (each (λ (z : Item × Bool). z.0) (sent q (At n call) w)) i)

  module _ (bounds : AreBounds q w) where
    -- paths stay sound where whoever was live still is
    module _ (live_on : (k : SenderKey) (t : TokenBucket) → IsLive w k t → IsLive asked k t) (sound : ArePathsSound w) where
      sound_at : (k : SenderKey) (e : ℕ) (v : Addr × TokenBucket) → IsSoundAt w k e v → IsSoundAt asked k e v
      sound_at k e v s = record { hop = s.hop; there = s.there; to = s.to; from = s.from; live = live_on k v.1 s.live }

      pub sound_facts : (m : ℕ) (g : Facts) (k : SenderKey) (x : PathState) → slice_get asked.nodes m ≡ Some g → get g.paths k ≡ Some x → IsSoundPath asked m k x
      sound_facts m g k x b h =
          let f = path_before m g k x b h in
          let s = sound.facts m f.0 k x f.1 f.2 in
          record { end = s.end; at = s.at; sound = sound_at k s.end (x.hop.addr, x.tspec) s.sound }

      pub sound_then : ArePathsSound asked
      sound_then = record {
        facts = sound_facts;
        items = λ y m x t i spelt sender way.
            ⊎_elim (λ (old : In y w.flight). sound_at (m.session, x) y.end (m.hop.addr, t) (sound.items y m x t old spelt sender way))
            (λ (now : (b : Bool) × In (y, b) (sent q (At n call) w)).
            sent_is_sound q asked bounds.net y m x t (λ a g z b h. sound_facts a g (m.session, x) z b h)
            (path_sent_by_call q w n call bounds y now.0 m now.1 spelt) sender way) (in_flight_then y i);
        named = λ y m i spelt none.
            ⊎_elim (λ (old : In y w.flight). sound.named y m old spelt none)
            (λ (now : (b : Bool) × In (y, b) (sent q (At n call) w)).
            let p = path_sent_by_call q w n call bounds y now.0 m now.1 spelt in
            let no : Some (p.sender, p.tspec) ≡ None = sym p.of ∙ none in absurd (cc)) (in_flight_then y i);
      }

    -- and nothing is torn down where whoever is known stays known
    pub no_tear_then : ((m : ℕ) (f : Facts) (s : Session) (x : Sender) → slice_get w.nodes m ≡ Some f → has (known f s) x ≡ true → has (known (outcome q (At n call) w m f).facts s) x ≡ true)
        → HasNoPathTear w → HasNoPathTear asked
    no_tear_then known_on none y m i spelt =
        ⊎_elim (λ (old : In y w.flight). none y m old spelt)
        (λ (now : (b : Bool) × In (y, b) (sent q (At n call) w)).
        let r = sent_by_call q w n call y now.0 (message.PathTear m) now.1 spelt in
        let p : NodeConfig = config_of q w.net w.trees r.node in
        let d : ℕ = w.clock + ms_of (At n call) in
        let o : IsOfGoneOffer p p r.facts (facts_then p p d (Call call) r.facts) r.send m =
        why_a_path_tear_is_sent (node_step p p w.clock d (Call call) r.facts) (bounds.facts r.node r.facts r.there) r.send m r.sent r.says in
        let yes : has (known (facts_then p p d (Call call) r.facts) o.key.session) o.key.sender ≡ true =
        ap (λ (z : Outcome). has (known z.facts o.key.session) o.key.sender) (sym r.by.is) ∙ known_on r.node r.facts o.key.session o.key.sender r.there o.known_before in
        ⊎_elim
        (λ (away : is_way p o.key ≡ false).
        let way : is_way p o.key ≡ true = and_made _ _ (lt-ltb o.key.iface (length p.ifaces) o.there) o.way in let bad : true ≡ false = sym way ∙ away in absurd (cc))
        (λ (gone : has (known (facts_then p p d (Call call) r.facts) o.key.session) o.key.sender ≡ false). let bad : true ≡ false = sym yes ∙ gone in absurd (cc)) o.gone)
        (in_flight_then y i)

    -- no error with a flow is sent, and no blockade is set
    pub no_error_then : (s : Session) → HasNoFlowErrorOf s w → HasNoFlowErrorOf s asked
    no_error_then s none y m i spelt of = by m.blame.flow refl
      where
        by : (o : Option TokenBucket) → m.blame.flow ≡ o → m.blame.flow ≡ None
        by None e = e
        by (Some flow) e =
            ⊎_elim (λ (old : In y w.flight). none y m old spelt of)
            (λ (now : (b : Bool) × In (y, b) (sent q (At n call) w)).
            let d = sent_by_call q w n call y now.0 (message.ResvErr m) now.1 spelt in
            let p : NodeConfig = config_of q w.net w.trees d.node in
            let clock : ℕ = w.clock + ms_of (At n call) in
            ⊎_elim
            (λ (x : IsRefusal p p clock (Call call) d.facts d.send). let bad : Call call ≡ Came x.at (own p x.at) (Spelt (message.Resv x.resv)) = x.came in absurd (cc))
            (λ (x : IsPassedOn p (Call call) d.facts d.send m). let bad : Call call ≡ Came x.at (own p x.at) (Spelt (message.ResvErr x.error)) = x.came in absurd (cc))
            (where_an_error_with_a_flow_comes_from.source (node_step p p w.clock clock (Call call) d.facts) (bounds.facts d.node d.facts d.there) d.send m flow d.sent d.says e))
            (in_flight_then y i)

  pub free_then : (s : Session) → IsFreeOfBlockadesOf s w → IsFreeOfBlockadesOf s asked
  free_then s free m g at target =
      let f = facts_after_found q (At n call) w m g at in
      ap (λ (z : Facts). get z.walls (s, target)) f.2 ∙ ap (λ (z : _). get z (s, target)) (walls_same m f.0) ∙ free m f.0 f.1 target

-- ---- a call that leaves those who send, whatever they send then
abbrev pub KeepsSenders : ℕ → ℕ → Local → World → Type 0
KeepsSenders q n call w = (m : ℕ) (f : Facts) → slice_get w.nodes m ≡ Some f → (j : SenderKey) → has (outcome q (At n call) w m f).facts.senders j ≡ has f.senders j

module _ (q n : ℕ) (call : Local) (w : World) (same_senders : KeepsSenders q n call w) where
  abbrev told_world : World
  told_world = step q (At n call) w

  pub known_same : (m : ℕ) (f : Facts) → slice_get w.nodes m ≡ Some f → (s : Session) (x : Sender) → has (known (outcome q (At n call) w m f).facts s) x ≡ has (known f s) x
  known_same m f at s x =
      has-known (outcome q (At n call) w m f).facts s x ∙ (λ i. same_senders m f at (s, x) i || has (paths_same q n call w m f i) (s, x)) ∙ sym (has-known f s x)

  pub known_on : (m : ℕ) (f : Facts) (s : Session) (x : Sender) → slice_get w.nodes m ≡ Some f → has (known f s) x ≡ true → has (known (outcome q (At n call) w m f).facts s) x ≡ true
  known_on m f s x at sure = known_same m f at s x ∙ sure

  same_from : (m : ℕ) (fs : List Facts) → ((i : ℕ) (f : Facts) → slice_get fs i ≡ Some f → slice_get w.nodes (m + i) ≡ Some f) → senders_from m (facts_from q (At n call) w m fs) ≡ senders_from m fs
  same_from m [] there = refl
  same_from m (f ∷ fs) there =
      let here : m + 0 ≡ m = omega arith in
      let at : slice_get w.nodes m ≡ Some f = ap (λ (z : ℕ). slice_get w.nodes z) (sym here) ∙ there 0 f refl in
      let one : keys (outcome q (At n call) w m f).facts.senders ≡ keys f.senders = keys_alike sender_keys (outcome q (At n call) w m f).facts.senders f.senders (same_senders m f at) in
      let rest = same_from (suc m) fs (λ i g e. let next : suc m + i ≡ m + suc i = omega arith in ap (λ (z : ℕ). slice_get w.nodes z) next ∙ there (suc i) g e) in
      λ i. each (sender_at m) (one i) ++ rest i

  pub senders_then : (locals_of told_world).senders ≡ (locals_of w).senders
  senders_then = same_from 0 w.nodes (λ i f e. let sum : 0 + i ≡ i = omega arith in ap (λ (z : ℕ). slice_get w.nodes z) sum ∙ e)

  -- a sender of a node sent before
  sent_before : (m : ℕ) (g : Facts) (j : SenderKey) (v : TokenBucket) → slice_get told_world.nodes m ≡ Some g → get g.senders j ≡ Some v
      → (f : Facts) × (slice_get w.nodes m ≡ Some f) × (v' : TokenBucket) × (get f.senders j ≡ Some v')
  sent_before m g j v at h =
      let f = facts_after_found q (At n call) w m g at in
      let has_it : has f.0.senders j ≡ true =
      sym (same_senders m f.0 f.1 j) ∙ ap (λ (z : Facts). has z.senders j) (sym f.2) ∙ ap (λ (o : Option TokenBucket). is_some o) h in
      let x = has_some (get f.0.senders j) has_it in (f.0, f.1, x.0, x.1)

  pub sends_on : (j : SenderKey) (v : TokenBucket) → IsLive w j v → (v' : TokenBucket) × IsLive told_world j v'
  sends_on j v l =
      let f = senders_found w l.node l.senders l.at in
      let has_it : has f.0.senders j ≡ true = ap (λ (z : Table sender_keys TokenBucket). has z j) f.2 ∙ ap (λ (o : Option TokenBucket). is_some o) l.sends in
      let x = has_some (get (outcome q (At n call) w l.node f.0).facts.senders j) (same_senders l.node f.0 f.1 j ∙ has_it) in
      (x.0, is_live told_world l.node (outcome q (At n call) w l.node f.0).facts j x.0 (facts_after_made q (At n call) w l.node f.0 f.1) x.1)

  pub sends_back : (j : SenderKey) (v : TokenBucket) → IsLive told_world j v → (v' : TokenBucket) × IsLive w j v'
  sends_back j v l =
      let g = senders_found told_world l.node l.senders l.at in
      let b = sent_before l.node g.0 j v g.1 (ap (λ (z : Table sender_keys TokenBucket). get z j) g.2 ∙ l.sends) in
      (b.2, is_live w l.node b.0 j b.2 b.1 b.3)

  pub hosts_then : AreHosts w → AreHosts told_world
  hosts_then hosts = record {
    placed = λ m g j v at h. let b = sent_before m g j v at h in hosts.placed m b.0 j b.2 b.1 b.3;
    groups = λ m g j v at h. let b = sent_before m g j v at h in hosts.groups m b.0 j b.2 b.1 b.3;
    few_senders = λ s. subst (λ (xs : List LocalSender). length (each (λ (x : LocalSender). x.sender) (filter (of_session s) xs)) ≤ 16) (sym senders_then) (hosts.few_senders s);
    few_sessions = subst (λ (xs : List LocalSender). length (keys (set_of {o = sessions} (each (λ (x : LocalSender). x.session) xs))) ≤ 32) (sym senders_then) hosts.few_sessions;
  }

-- ---- a call that speaks of no want leaves what hosts ask
wants_left : (l : Local) → calls_on_wants l ≡ false → (t : Wants) → wants_with l t ≡ t
wants_left (SendAs s x tspec) e t = refl
wants_left (DropAs s x) e t = refl
wants_left (AdvertAs s x) e t = refl
wants_left (WantAs s st names flow mark) e t = absurd (cc)
wants_left (QuitAll s) e t = absurd (cc)

module _ (q n : ℕ) (call : Local) (w : World) (spares : calls_on_wants call ≡ false) where
  wants_here : (m : ℕ) (f : Facts) → each (want_at m) (outcome q (At n call) w m f).facts.wants.rows ≡ each (want_at m) f.wants.rows
  wants_here m f =
      ⊎_elim (λ (h : outcome q (At n call) w m f ≡ still f). ap (λ (o : Outcome). each (want_at m) o.facts.wants.rows) h)
      (λ (h : IsCalled q w n call m f).
      let p : NodeConfig = config_of q w.net w.trees m in
      let d : ℕ = w.clock + ms_of (At n call) in
      let left : unless (call_refusal p call f) (wants_with call f.wants) f.wants ≡ f.wants =
      ap (λ (t : Wants). unless (call_refusal p call f) t f.wants) (wants_left call spares f.wants) ∙ unless_same (call_refusal p call f) f.wants in
      let marks : AreSameButMarks f.wants (facts_then p p d (Call call) f).wants =
      subst (λ (z : Wants). AreSameButMarks z (facts_then p p d (Call call) f).wants) left (wants_then p p d (Call call) f) in
      ap (λ (o : Outcome). each (want_at m) o.facts.wants.rows) h.is ∙ same_wants m f.wants (facts_then p p d (Call call) f).wants marks)
      (called q w n call m f)

  wants_all : (m : ℕ) (fs : List Facts) → wants_from m (facts_from q (At n call) w m fs) ≡ wants_from m fs
  wants_all m [] = refl
  wants_all m (f ∷ fs) = λ i. wants_here m f i ++ wants_all (suc m) fs i

  pub wants_same : (locals_of (step q (At n call) w)).wants ≡ (locals_of w).wants
  wants_same = wants_all 0 w.nodes

-- ---- a call that neither begins nor ends a sender: all send what they sent
module _ (q n : ℕ) (call : Local) (w : World) (spares : calls_on_senders call ≡ false) where
  abbrev spared : World
  spared = step q (At n call) w

  senders_same : (m : ℕ) (f : Facts) → (outcome q (At n call) w m f).facts.senders ≡ f.senders
  senders_same m f =
      ⊎_elim (λ (h : outcome q (At n call) w m f ≡ still f). ap (λ (o : Outcome). o.facts.senders) h)
      (λ (h : IsCalled q w n call m f).
      ap (λ (o : Outcome). o.facts.senders) h.is
      ∙ ap (λ (t : Table sender_keys TokenBucket). unless (call_refusal (config_of q w.net w.trees m) call f) t f.senders) (senders_left call spares f.senders)
      ∙ unless_same (call_refusal (config_of q w.net w.trees m) call f) f.senders)
      (called q w n call m f)

  pub spares_senders : KeepsSenders q n call w
  spares_senders m f at j = ap (λ (t : Table sender_keys TokenBucket). has t j) (senders_same m f)

  live_on : (k : SenderKey) (t : TokenBucket) → IsLive w k t → IsLive spared k t
  live_on k t l =
      let f = senders_found w l.node l.senders l.at in
      is_live spared l.node (outcome q (At n call) w l.node f.0).facts k t (facts_after_made q (At n call) w l.node f.0 f.1)
      (ap (λ (z : Table sender_keys TokenBucket). get z k) (senders_same l.node f.0 ∙ f.2) ∙ l.sends)

  pub live_back : (k : SenderKey) (t : TokenBucket) → IsLive spared k t → IsLive w k t
  live_back k t l =
      let g = senders_found spared l.node l.senders l.at in
      let f = facts_after_found q (At n call) w l.node g.0 g.1 in
      is_live w l.node f.0 k t f.1 (ap (λ (z : Table sender_keys TokenBucket). get z k) (sym (senders_same l.node f.0) ∙ ap (λ (z : Facts). z.senders) (sym f.2) ∙ g.2) ∙ l.sends)

  -- and what they reserved stays
  pub resvs_same : AreBounds q w → (m : ℕ) (f : Facts) → slice_get w.nodes m ≡ Some f → (outcome q (At n call) w m f).facts.resvs ≡ f.resvs
  resvs_same bounds m f at =
      ⊎_elim (λ (h : outcome q (At n call) w m f ≡ still f). ap (λ (o : Outcome). o.facts.resvs) h)
      (λ (h : IsCalled q w n call m f).
      let p : NodeConfig = config_of q w.net w.trees m in
      ap (λ (o : Outcome). o.facts.resvs) h.is ∙ left_as_it_was.resvs_whole (node_step p p w.clock (w.clock + ms_of (At n call)) (Call call) f) (bounds.facts m f at) refl spares refl)
      (called q w n call m f)

  module _ (fit : IsFitCall call) where
    pub paths_then : HasItsPaths q w → HasItsPaths q spared
    paths_then s = record {
      bounds = each_step_keeps_a_world_within_bounds q w (At n call) fit s.bounds;
      hosts = hosts_then q n call w spares_senders s.hosts;
      sound = sound_then q n call w s.bounds live_on s.sound;
      complete = λ k t h live there. path_on q n call w k t h (s.complete k t h (live_back k t live) there);
      no_tear = no_tear_then q n call w s.bounds (known_on q n call w spares_senders) s.no_tear;
    }

    pub spreading_then : AreSpreading q w → AreSpreading q spared
    spreading_then s = record {
      bounds = each_step_keeps_a_world_within_bounds q w (At n call) fit s.bounds;
      hosts = hosts_then q n call w spares_senders s.hosts;
      sound = sound_then q n call w s.bounds live_on s.sound;
      no_tear = no_tear_then q n call w s.bounds (known_on q n call w spares_senders) s.no_tear;
      offered = λ k t h live there knows.
          let from : ℕ = node_of w.net.ends h.from in
          let f = facts_after_found q (At n call) w from knows.facts knows.there in
          let sure : has (known f.0 k.0) k.1 ≡ true =
          sym (known_same q n call w spares_senders from f.0 f.1 k.0 k.1) ∙ ap (λ (z : Facts). has (known z k.0) k.1) (sym f.2) ∙ knows.known_one in
          ⊎_elim (λ (a : IsPathAt w k t h). inl (path_on q n call w k t h a)) (λ (y : IsPathOver w k t h). inr (over_on q n call w k t h y))
          (s.offered k t h (live_back k t live) there (record { facts = f.0; there = f.1; known_one = sure }));
    }
