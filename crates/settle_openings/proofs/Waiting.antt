-- Half a period goes by where what is kept lasts: nothing dies, nodes keep what they kept, and refreshes alone are sent.
use Rattle.std.proofs.Common.{◌≡◌, ℕ, ◌+◌, ◌*◌, ◌<◌, ◌≤◌, length, List, Bool, true, false, cond, Option, None, Some, inl, inr, ⊎_elim, arith, sym, refl, ap, subst, ◌∙◌}
use Rattle.std.specs.Prelude.{is_some, map as each, slice_get}
use Rattle.std.proofs.lemmas.Bool.{lt-ltb}
use Rattle.rsvp_base.specs.declared.part.Part.{Part}
use Rattle.rsvp_base.specs.declared.session.Sender.{Sender}
use Rattle.rsvp_base.specs.declared.session.Session.{Session}
use Rattle.rsvp_base.specs.declared.style.StyleKind.{StyleKind}
use Rattle.rsvp_base.specs.declared.style.StyleKind.TheVariants.{Wild, Fixed, Shared}
use Rattle.rsvp_base.specs.Keys.{Keys}
use Rattle.rsvp_base.specs.Members.{In}
use Rattle.rsvp_base.specs.Orders.{Names as NameSet, sessions}
use Rattle.rsvp_base.specs.Sets.{set_of}
use Rattle.rsvp_base.specs.Table.{Table, changed, get, has, keys}
use Rattle.rsvp_base.specs.TokenBucket.{TokenBucket}
use Rattle.rsvp_base.proofs.Changed.{unchanged}
use Rattle.rsvp_base.proofs.Members.{in_append, in_each, in_left, in_right}
use Rattle.rsvp_base.proofs.SetLaws.{and_made}
use Rattle.rsvp_base.proofs.Tables.{same_table}
use Rattle.router_rules.specs.RsvpMessages.declared.message.Message.TheVariants as message
use Rattle.router_rules.specs.RsvpMessages.declared.message.PathMsg.{PathMsg}
use Rattle.router_rules.specs.RsvpMessages.declared.message.ResvErrMsg.{ResvErrMsg}
use Rattle.router_rules.specs.RsvpMessages.declared.message.ResvMsg.{ResvMsg}
use Rattle.router_rules.specs.RsvpMessages.declared.message.ResvTearMsg.{ResvTearMsg}
use Rattle.router_rules.specs.RsvpMessages.Units.{ask_style, tear_style}
use Rattle.router_rules.specs.Lines.{LineKey, line_keys}
use Rattle.router_rules.specs.Merge.{PartTable}
use Rattle.laws_bounds.specs.FactLaws.{is_way}
use Rattle.laws_bounds.proofs.Ruling.{rule_in_parts}
use Rattle.laws_steps.specs.ReservationLaws.{IsAskedFor, TakesName}
use Rattle.laws_steps.proofs.Asking.{what_keeps_a_reservation_fact, where_a_reservation_fact_comes_from}
use Rattle.router_rules.specs.Act.{act}
use Rattle.router_rules.specs.Facts.{Blockade, Facts, PathState, Paths, ResvState, ResvTables, SenderKey, Walls, resvs_of, sender_keys, table_of}
use Rattle.router_rules.specs.Inputs.{Came, Input, Spelt, Wait}
use Rattle.router_rules.specs.Known.{Lane, known, named_as}
use Rattle.router_rules.specs.NodeConfig.{NodeConfig, own}
use Rattle.router_rules.specs.Requests.{toward}
use Rattle.router_rules.specs.Rule.{Outcome, settled}
use Rattle.router_rules.specs.Steps.{IsLeftOf, facts_then, node_step}
use Rattle.router_rules.specs.Waiting.{living}
use Rattle.tree_model.specs.declared.locals.LocalSender.{LocalSender}
use Rattle.tree_model.specs.Networks.{node_of}
use Rattle.tree_model.specs.Wants.{Locals, live}
use Rattle.tree_model.proofs.Ifaces.{interfaces_are_ends}
use Rattle.network_model.specs.Bounds.{AreBounds, AreHosts}
use Rattle.network_model.specs.Locals.{IsLive}
use Rattle.network_model.specs.Sound.{ArePathsSound, AreResvsSound, IsPathAt, IsSoundPath, IsSoundResv}
use Rattle.network_model.specs.Steps.{Piece, outcome, sent, step, word_for}
use Rattle.network_model.specs.Worlds.{Item, World, config_of}
use Rattle.network_model.proofs.Machines.{in_flight_after}
use Rattle.network_model.proofs.Stepping.{facts_after_found, facts_after_made}
use Rattle.laws_network.specs.Known.{IsSameNet}
use Rattle.laws_network.proofs.Due.{due_found}
use Rattle.laws_network.proofs.Keeping.{each_step_keeps_a_world_within_bounds}
use Rattle.laws_network.proofs.Known.{same_kept, senders_kept}
use Rattle.laws_network.proofs.Sends.{sent_by_rule}
use Rattle.laws_network.proofs.Speaking.{why_a_path_tear_is_sent}
use Rattle.settle_paths.proofs.PathSends.{path_sent}
use Rattle.settle_resvs.specs.Said.{HopKey, IsOver, lane_of, resv_key}
use Rattle.settle_resvs.specs.SoftResvs.{line_key_of, resv_at}
use Rattle.settle_resvs.proofs.Accepting.{fits_again}
use Rattle.settle_resvs.proofs.ResvSends.{IsResvSent, resv_sent}
use Rattle.settle_resvs.proofs.SoftResvs.{resv_found, resv_made}
use Rattle.settle_resvs.proofs.SoundResvs.{part_again}
use Rattle.settle_passes.specs.Passes.{ArePathsOffered, AreSpreading, HasNoPathTear, IsPathOver, Knows}
use Rattle.settle_passes.specs.Reserving.{AllAsk, AreAskedFor, IsAskedLast, IsKeptOver}
use Rattle.settle_passes.proofs.Deliveries.{known_self, sent_is_sound}
use Rattle.settle_passes.proofs.Arriving.{all_append, last_before}
use Rattle.settle_senders.specs.Following.{ArePathsFromKnown, AreNamesKnown, HasSenderNamed, IsFollowing}
use Rattle.settle_senders.proofs.Knowing.{name_known, path_from_known}
use Rattle.settle_refreshes.specs.Refreshes.{HasOnlyRefreshes}
use Rattle.settle_refreshes.proofs.Waiting.{nobody_waits_then}
use Rattle.settle_openings.specs.Opening.{AreFull, AreLasting, DoNamesStay, GoesOn, IsGoingOn, IsInTime, with_first}
use Rattle.settle_openings.proofs.Going.{some_session}
use Rattle.settle_openings.proofs.Kept.{of_hop}
use Rattle.settle_openings.proofs.Only.{all_then, new_goes, order_then, sends_only}
use Rattle.settle_openings.proofs.Sent.{asks_for, back_over, name_is_known, unit_is_sound}

-- what lives stays
all_live : {K X : Type 0} (o : Keys K) (c : ℕ) (dies : X → ℕ) (t : Table o X) → ((k : K) (x : X) → get t k ≡ Some x → c < dies x) → changed (λ k. living c dies) t ≡ t
all_live o c dies t lives = unchanged o (λ k. living c dies) t (λ k x e. ap (λ (b : Bool). cond b (Some x) None) (lt-ltb c (dies x) (lives k x e)))

each_same : (ts us : ResvTables) → ((st : StyleKind) → table_of st ts ≡ table_of st us) → ts ≡ us
each_same ts us e = λ j. record { wild = e Wild j; fixed = e Fixed j; shared = e Shared j }

module _ (q ms : ℕ) (u : World) (le : ms ≤ 2 * q) (r : IsGoingOn q u) (l : AreLasting q 0 u) where
  abbrev pub next : World
  next = step q (Piece ms) u

  abbrev news : List Item
  news = each (λ (z : Item × Bool). z.0) (sent q (Piece ms) u)

  first : IsFollowing q some_session u
  first = r.follows some_session

  bounds : AreBounds q u
  bounds = first.paths.bounds

  pub bounds' : AreBounds q next
  bounds' = each_step_keeps_a_world_within_bounds q u (Piece ms) le bounds

  same : IsSameNet u next
  same = same_kept q (Piece ms) u refl bounds u (known_self q u bounds).same

  abbrev c : ℕ
  c = u.clock + ms

  abbrev place : ℕ → NodeConfig
  place n = config_of q u.net u.trees n

  abbrev waits : ℕ → Input
  waits n = Wait ms (word_for u.words n)

  abbrev then : ℕ → Facts → Facts
  then n f = (outcome q (Piece ms) u n f).facts

  -- ---- nothing dies
  in_time_lives : (n : ℕ) (s : Session) (dies : ℕ) → IsInTime q u n s dies → c < dies
  in_time_lives n s dies a =
      let f = due_found u n s a.moment a.due in
      let later = ((bounds.facts n f.0 f.1).due.moment s a.moment f.2).later in
      let long = a.long in
      omega (arith, later, long, le)

  path_lives : (n : ℕ) (f : Facts) (k : SenderKey) (x : PathState) → slice_get u.nodes n ≡ Some f → get f.paths k ≡ Some x → c < x.dies
  path_lives n f k x at e =
      let s = first.paths.sound.facts n f k x at e in
      let of = (interfaces_are_ends u.net).iface_of_end n x.iface s.end s.at in
      ⊎_elim (λ (a : IsInTime q u (node_of u.net.ends s.sound.hop.from) k.0 x.dies). in_time_lives (node_of u.net.ends s.sound.hop.from) k.0 x.dies a)
      (λ (y : IsPathOver (with_first 0 u) k x.tspec s.sound.hop). absurd y.flight) (l.paths n f k x s.sound.hop at e s.sound.there (ap (node_of u.net.ends) s.sound.to ∙ of.1))

  resv_lives : (n : ℕ) (f : Facts) (st : StyleKind) (key : LineKey) (x : ResvState) → slice_get u.nodes n ≡ Some f → get (resvs_of st f) key ≡ Some x → c < x.dies
  resv_lives n f st key x at e =
      let o = of_hop u n st key x (first.sound.facts st n f key x at e) in
      ⊎_elim (λ (a : IsInTime q u (node_of u.net.ends o.hop.from) o.hop.session x.dies). in_time_lives (node_of u.net.ends o.hop.from) o.hop.session x.dies a)
      (λ (y : _). absurd y.flight) (l.resvs o.hop x o.there (o.same u ∙ resv_made u n st key f at ∙ e))

  -- ---- so nodes keep what they kept
  module _ (n : ℕ) (f : Facts) (at : slice_get u.nodes n ≡ Some f) where
    abbrev acted : Facts
    acted = (act (place n) c (waits n) f).facts

    pub paths_are : (then n f).paths ≡ f.paths
    paths_are = all_live sender_keys c (λ (x : PathState). x.dies) f.paths (λ k x e. path_lives n f k x at e)

    pub walls_are : (then n f).walls ≡ f.walls
    walls_are = all_live _ c (λ (x : Blockade). x.dies) f.walls (λ k x e. let bad : None ≡ Some x = sym ((r.follows k.0).free n f at k.1) ∙ e in absurd (cc))

    pub known_is : (s : Session) → known (then n f) s ≡ known f s
    known_is s = ap (λ (t : Paths). known (record f { paths = t }) s) paths_are

    pub resv_is : (st : StyleKind) (key : LineKey) → get (resvs_of st (then n f)) key ≡ get (resvs_of st f) key
    resv_is st key = by (get (resvs_of st (then n f)) key) (get (resvs_of st f) key) refl refl
      where
        by : (o p : Option ResvState) → get (resvs_of st (then n f)) key ≡ o → get (resvs_of st f) key ≡ p → get (resvs_of st (then n f)) key ≡ get (resvs_of st f) key
        by o (Some x) e d =
            what_keeps_a_reservation_fact.whole (node_step (place n) (place n) u.clock c (waits n) f) (bounds.facts n f at) st key x d (resv_lives n f st key x at d) (λ touch. touch)
            (λ y h.
            let o = of_hop u n st key x (first.sound.facts st n f key x at d) in
            let kept : IsKeptOver u o.hop x.part = record { resv = x; there = o.same u ∙ resv_made u n st key f at ∙ d; is = refl } in
            let a : HasSenderNamed u o.hop.to key.0 st y =
            subst (λ (z : Session × StyleKind). HasSenderNamed u o.hop.to z.0 z.1 y) (λ j. (o.session j, o.style j)) (first.names.kept o.hop x.part y o.there kept h) in
            ap (λ (z : NameSet). has (named_as st z) y) (known_is key.0) ∙ name_known u o.hop.to key.0 st y a f (ap (λ (z : ℕ). slice_get u.nodes z) o.node ∙ at))
            ∙ sym d
        by None None e d = e ∙ sym d
        by (Some y) None e d =
            ⊎_elim (λ (old : (x : ResvState) × (get (resvs_of st f) key ≡ Some x) × IsLeftOf x y). let bad : None ≡ Some old.0 = sym d ∙ old.1 in absurd (cc))
            (λ (new : IsAskedFor (place n) c (waits n) f st key y).
            let bad : waits n ≡ Came key.1.0.0 (own (place n) key.1.0.0) (Spelt (message.Resv new.by.resv)) = new.by.came in absurd (cc))
            (where_a_reservation_fact_comes_from (node_step (place n) (place n) u.clock c (waits n) f) (bounds.facts n f at) st key y e)

    pub resvs_are : (st : StyleKind) → resvs_of st (then n f) ≡ resvs_of st f
    resvs_are st = same_table line_keys (resvs_of st (then n f)) (resvs_of st f) (resv_is st)

    -- before marks are used
    abbrev after : Facts
    after = settled (place n) c f acted

    after_is : after ≡ record f { due = after.due }
    after_is =
        let tables : after.resvs ≡ f.resvs = each_same after.resvs f.resvs resvs_are in
        λ j. record after { paths = paths_are j; walls = walls_are j; resvs = tables j }

    pub toward_is : (lane : Lane) → toward (place n) (then n f) lane ≡ toward (place n) f lane
    toward_is lane = rule_in_parts.toward_same (place n) (place n) c (waits n) f lane ∙ ap (λ (z : Facts). toward (place n) z lane) after_is

  -- ---- who is known, and who sends
  knows_on : (n : ℕ) (k : SenderKey) → Knows u n k → Knows next n k
  knows_on n k x = record {
    facts = then n x.facts;
    there = facts_after_made q (Piece ms) u n x.facts x.there;
    known_one = ap (λ (z : NameSet). has z k.1) (known_is n x.facts x.there k.0) ∙ x.known_one;
  }

  knows_back : (n : ℕ) (k : SenderKey) → Knows next n k → Knows u n k
  knows_back n k x =
      let f = facts_after_found q (Piece ms) u n x.facts x.there in
      record {
        facts = f.0;
        there = f.1;
        known_one = ap (λ (z : NameSet). has z k.1) (sym (known_is n f.0 f.1 k.0)) ∙ ap (λ (z : Facts). has (known z k.0) k.1) (sym f.2) ∙ x.known_one;
      }

  pub live_on : (k : SenderKey) (t : TokenBucket) → IsLive u k t → IsLive next k t
  live_on k t x = record { node = x.node; senders = x.senders; at = senders_kept q (Piece ms) u refl bounds x.node ∙ x.at; sends = x.sends }

  live_back : (k : SenderKey) (t : TokenBucket) → IsLive next k t → IsLive u k t
  live_back k t x = record { node = x.node; senders = x.senders; at = sym (senders_kept q (Piece ms) u refl bounds x.node) ∙ x.at; sends = x.sends }

  hosts' : AreHosts next
  hosts' = record {
    placed = λ n g k t at e. let f = facts_after_found q (Piece ms) u n g at in first.paths.hosts.placed n f.0 k t f.1 (ap (λ (z : Facts). get z.senders k) (sym f.2) ∙ e);
    groups = λ n g k t at e. let f = facts_after_found q (Piece ms) u n g at in first.paths.hosts.groups n f.0 k t f.1 (ap (λ (z : Facts). get z.senders k) (sym f.2) ∙ e);
    few_senders = λ s. subst (λ (z : Locals). length (live z s) ≤ 16) (sym same.locals) (first.paths.hosts.few_senders s);
    few_sessions = subst (λ (z : Locals). length (keys (set_of {o = sessions} (each (λ (x : LocalSender). x.session) z.senders))) ≤ 32) (sym same.locals) first.paths.hosts.few_sessions;
  }

  -- ---- paths
  path_was : (n : ℕ) (g : Facts) (k : SenderKey) (x : PathState) → slice_get next.nodes n ≡ Some g → get g.paths k ≡ Some x → (f : Facts) × (slice_get u.nodes n ≡ Some f) × (get f.paths k ≡ Some x)
  path_was n g k x at e =
      let f = facts_after_found q (Piece ms) u n g at in
      (f.0, f.1, ap (λ (z : Paths). get z k) (sym (paths_are n f.0 f.1)) ∙ ap (λ (z : Facts). get z.paths k) (sym f.2) ∙ e)

  pub sound' : ArePathsSound next
  sound' = record {
    facts = facts_sound;
    items = λ y m x t i spelt sender way.
        ⊎_elim
        (λ (old : In y u.flight).
        let s = first.paths.sound.items y m x t old spelt sender way in
        record { hop = s.hop; there = s.there; to = s.to; from = s.from; live = live_on (m.session, x) t s.live })
        (λ (new : (b : Bool) × In (y, b) (sent q (Piece ms) u)).
        sent_is_sound q next bounds.net y m x t (λ n g z b h. facts_sound n g (m.session, x) z b h) (path_sent q (Piece ms) u refl bounds y new.0 m new.1 spelt) sender way)
        (in_flight_after q (Piece ms) u y refl i);
    named = λ y m i spelt none.
        ⊎_elim (λ (old : In y u.flight). first.paths.sound.named y m old spelt none)
        (λ (new : (b : Bool) × In (y, b) (sent q (Piece ms) u)).
        let p = path_sent q (Piece ms) u refl bounds y new.0 m new.1 spelt in
        let bad : Some (p.sender, p.tspec) ≡ None = sym p.of ∙ none in absurd (cc)) (in_flight_after q (Piece ms) u y refl i);
  }
    where
      facts_sound : (n : ℕ) (g : Facts) (k : SenderKey) (x : PathState) → slice_get next.nodes n ≡ Some g → get g.paths k ≡ Some x → IsSoundPath next n k x
      facts_sound n g k x at e =
          let f = path_was n g k x at e in
          let s = first.paths.sound.facts n f.0 k x f.1 f.2 in
          record { end = s.end; at = s.at; sound = record { hop = s.sound.hop; there = s.sound.there; to = s.sound.to; from = s.sound.from; live = live_on k x.tspec s.sound.live } }

  no_tear' : HasNoPathTear next
  no_tear' y m i spelt =
      ⊎_elim (λ (old : In y u.flight). first.paths.no_tear y m old spelt)
      (λ (new : (b : Bool) × In (y, b) (sent q (Piece ms) u)).
      let d = sent_by_rule q (Piece ms) u y new.0 (message.PathTear m) refl new.1 spelt in
      let p : NodeConfig = place d.node in
      let o = why_a_path_tear_is_sent (node_step p p u.clock c d.by.input d.facts) (bounds.facts d.node d.facts d.there) d.send m d.sent d.says in
      let is : (facts_then p p c d.by.input d.facts) ≡ then d.node d.facts = ap (λ (z : Outcome). z.facts) (sym d.by.is) in
      let knows : has (known (facts_then p p c d.by.input d.facts) o.key.session) o.key.sender ≡ true =
      ap (λ (z : Facts). has (known z o.key.session) o.key.sender) is ∙ ap (λ (z : NameSet). has z o.key.sender) (known_is d.node d.facts d.there o.key.session) ∙ o.known_before in
      ⊎_elim
      (λ (away : is_way p o.key ≡ false). let way : is_way p o.key ≡ true = and_made _ _ (lt-ltb o.key.iface (length p.ifaces) o.there) o.way in let bad : true ≡ false = sym way ∙ away in absurd (cc))
      (λ (gone : has (known (facts_then p p c d.by.input d.facts) o.key.session) o.key.sender ≡ false). let bad : true ≡ false = sym knows ∙ gone in absurd (cc)) o.gone)
      (in_flight_after q (Piece ms) u y refl i)

  offered' : ArePathsOffered next
  offered' k t h live' there knows =
      ⊎_elim
      (λ (a : IsPathAt u k t h).
      inl (record {
        facts = then (node_of u.net.ends h.to) a.facts;
        node = facts_after_made q (Piece ms) u (node_of u.net.ends h.to) a.facts a.node;
        path = a.path;
        there = ap (λ (z : Paths). get z k) (paths_are (node_of u.net.ends h.to) a.facts a.node) ∙ a.there;
        iface = a.iface;
        hop = a.hop;
        tspec = a.tspec;
      }))
      (λ (y : IsPathOver u k t h).
      inr (record { item = y.item; flight = in_left y.item u.flight news y.flight; end = y.end; dst = y.dst; path = y.path; spelt = y.spelt; session = y.session; sender = y.sender }))
      (first.paths.offered k t h (live_back k t live') there (knows_back (node_of u.net.ends h.from) k knows))

  spreading' : AreSpreading q next
  spreading' = record { bounds = bounds'; hosts = hosts'; sound = sound'; no_tear = no_tear'; offered = offered' }

  from_known' : ArePathsFromKnown next
  from_known' = record {
    facts = λ n g k x h at e there node. let f = path_was n g k x at e in knows_on (node_of u.net.ends h.from) k (first.from_known.facts n f.0 k x h f.1 f.2 there node);
    items = λ y m x t h i spelt sender there to.
        ⊎_elim (λ (old : In y u.flight). knows_on (node_of u.net.ends h.from) (m.session, x) (first.from_known.items y m x t h old spelt sender there to))
        (λ (new : (b : Bool) × In (y, b) (sent q (Piece ms) u)).
        path_from_known q (Piece ms) u bounds y m x t h (path_sent q (Piece ms) u refl bounds y new.0 m new.1 spelt) sender there to) (in_flight_after q (Piece ms) u y refl i);
  }

  -- ---- reservations
  resv_was : (st : StyleKind) (n : ℕ) (g : Facts) (key : LineKey) (x : ResvState) → slice_get next.nodes n ≡ Some g → get (resvs_of st g) key ≡ Some x
      → (f : Facts) × (slice_get u.nodes n ≡ Some f) × (get (resvs_of st f) key ≡ Some x)
  resv_was st n g key x at e =
      let f = facts_after_found q (Piece ms) u n g at in
      (f.0, f.1, sym (resv_is n f.0 f.1 st key) ∙ ap (λ (z : Facts). get (resvs_of st z) key) (sym f.2) ∙ e)

  pub resv_was_at : (n : ℕ) (st : StyleKind) (key : LineKey) (x : ResvState) → resv_at next n st key ≡ Some x → resv_at u n st key ≡ Some x
  resv_was_at n st key x e =
      let g = resv_found next n st key x e in
      let f = resv_was st n g.0 key x g.1 g.2 in
      resv_made u n st key f.0 f.1 ∙ f.2

  resv_on_at : (n : ℕ) (st : StyleKind) (key : LineKey) (x : ResvState) → resv_at u n st key ≡ Some x → resv_at next n st key ≡ Some x
  resv_on_at n st key x e =
      let f = resv_found u n st key x e in
      resv_made next n st key (then n f.0) (facts_after_made q (Piece ms) u n f.0 f.1) ∙ resv_is n f.0 f.1 st key ∙ f.2

  kept_was : (k : HopKey) (v : Part) → IsKeptOver next k v → IsKeptOver u k v
  kept_was k v x = record { resv = x.resv; there = resv_was_at (node_of u.net.ends k.to) k.style (line_key_of u.net (resv_key u.net k)) x.resv x.there; is = x.is }

  kept_on : (k : HopKey) (v : Part) → IsKeptOver u k v → IsKeptOver next k v
  kept_on k v x = record { resv = x.resv; there = resv_on_at (node_of u.net.ends k.to) k.style (line_key_of u.net (resv_key u.net k)) x.resv x.there; is = x.is }

  pub sends : (y : Item) (m : ResvMsg) → In y news → y.arrival ≡ Spelt (message.Resv m) → IsResvSent q next.net next.trees next y m
  sends y m i spelt =
      let x = in_each (λ (z : Item × Bool). z.0) y (sent q (Piece ms) u) i in
      resv_sent q (Piece ms) u refl bounds y x.0.1 m (subst (λ (z : Item). In (z, x.0.1) (sent q (Piece ms) u)) (sym x.2) x.1) spelt

  named_on : (e : ℕ) (s : Session) (st : StyleKind) (x : Sender) → HasSenderNamed u e s st x → HasSenderNamed next e s st x
  named_on e s st x h = record { sender = h.sender; knows = knows_on (node_of u.net.ends e) (s, h.sender) h.knows; leaves = h.leaves; name = h.name }

  names_known' : AreNamesKnown next
  names_known' = record {
    kept = λ k v x there a e. named_on k.to k.session k.style x (first.names.kept k v x there (kept_was k v a) e);
    items = λ y m v names x i spelt asks named e.
        ⊎_elim (λ (old : In y u.flight). named_on y.end m.session (ask_style m.ask) x (first.names.items y m v names x old spelt asks named e))
        (λ (new : In y news). name_is_known q next bounds' sound' y m (sends y m new spelt) from_known' v names x asks named e) (in_append y u.flight news i);
  }

  resvs' : AreResvsSound next
  resvs' = record {
    facts = facts_sound;
    items = λ y m v i spelt asks.
        ⊎_elim
        (λ (old : In y u.flight).
        let x = first.sound.items y m v old spelt asks in
        record {
          names = x.names;
          named = x.named;
          sound = part_again (ask_style m.ask) u next m.session y.end m.hop.addr v.unit (record { senders = x.names; flow = v.flow }) refl (sym same.locals) x.sound;
        })
        (λ (new : In y news). unit_is_sound q next bounds' sound' y m (sends y m new spelt) facts_sound v asks) (in_append y u.flight news i);
  }
    where
      facts_sound : (st : StyleKind) (n : ℕ) (g : Facts) (k : LineKey) (x : ResvState) → slice_get next.nodes n ≡ Some g → get (resvs_of st g) k ≡ Some x → IsSoundResv st next n k x
      facts_sound st n g k x at e =
          let f = resv_was st n g k x at e in
          let s = first.sound.facts st n f.0 k x f.1 f.2 in
          record { end = s.end; at = s.at; sound = part_again st u next k.0 s.end k.1.0.1 k.1.1 x.part refl (sym same.locals) s.sound }

  -- ---- what is in flight
  pub goes_on : (k : HopKey) (x : Sender) → GoesOn q u k x → GoesOn q next k x
  goes_on k x g =
      let n : ℕ = node_of u.net.ends k.from in
      record {
        facts = then n g.facts;
        there = facts_after_made q (Piece ms) u n g.facts g.there;
        part = g.part;
        goes = ap (λ (t : PartTable). get t k.unit) (toward_is n g.facts g.there (lane_of u.net k)) ∙ g.goes;
        named = g.named;
      }

  only' : HasOnlyRefreshes next
  only' y i =
      ⊎_elim (λ (old : In y u.flight). r.only y old)
      (λ (new : (b : Bool) × In (y, b) (sent q (Piece ms) u)).
      sends_only q (Piece ms) u refl r.waits no_tear' (λ n f d at came. let is : waits n ≡ d = cc in ap (λ (z : Input). (act (place n) c z f).errors) (sym is))
      (λ n f lane un t x at there e h. ap (λ (z : PartTable). has z un) (toward_is n f at lane) ∙ ap (λ (o : Option Part). is_some o) e) y new.0 new.1 i)
      (in_flight_after q (Piece ms) u y refl i)

  full' : AreFull q next
  full' = record {
    paths = λ y m i spelt.
        ⊎_elim (λ (old : In y u.flight). r.full.paths y m old spelt)
        (λ (new : (b : Bool) × In (y, b) (sent q (Piece ms) u)). let p = path_sent q (Piece ms) u refl bounds y new.0 m new.1 spelt in (p.period, p.dst)) (in_flight_after q (Piece ms) u y refl i);
    resvs = λ y m i spelt.
        ⊎_elim (λ (old : In y u.flight). r.full.resvs y m old spelt) (λ (new : In y news). (sends y m new spelt).period) (in_append y u.flight news i);
  }

  names' : DoNamesStay q next
  names' = record {
    kept = λ k v x there a e.
        let on = r.names.kept k v x there (kept_was k v a) e in
        let now = goes_on k x on.1 in
        (all_then q next bounds' sound' u.flight news sends k x there on.0 now, now);
    items = λ k x y there i n.
        ⊎_elim (λ (old : In y u.flight). goes_on k x (r.names.items k x y there old n))
        (λ (new : In y news). new_goes q next bounds' sound' u.flight news sends k x y there new n) (in_append y u.flight news i);
    order = λ k x there. order_then q next bounds' sound' u.flight news sends k x there (r.names.order k x there) (λ y i n. goes_on k x (r.names.items k x y there i n));
  }

  -- ---- all together
  no_resv_err : {A : Type 0} (y : Item) (m : ResvErrMsg) → In y next.flight → y.arrival ≡ Spelt (message.ResvErr m) → A
  no_resv_err y m i spelt =
      ⊎_elim (λ (x : (p : PathMsg) × (y.arrival ≡ Spelt (message.Path p))). let bad : Spelt (message.Path x.0) ≡ Spelt (message.ResvErr m) = sym x.1 ∙ spelt in absurd (cc))
      (λ (x : (p : ResvMsg) × (y.arrival ≡ Spelt (message.Resv p)) × (p.confirm ≡ None)). let bad : Spelt (message.Resv x.0) ≡ Spelt (message.ResvErr m) = sym x.1 ∙ spelt in absurd (cc))
      (only' y i)

  asked' : (s : Session) → AreAskedFor q s next
  asked' s k v g of there at goes =
      let n : ℕ = node_of u.net.ends k.from in
      let f = facts_after_found q (Piece ms) u n g at in
      let goes' : get (toward (place n) f.0 (lane_of u.net k)) k.unit ≡ Some v =
      ap (λ (t : PartTable). get t k.unit) (sym (toward_is n f.0 f.1 (lane_of u.net k))) ∙ ap (λ (z : Facts). get (toward (place n) z (lane_of u.net k)) k.unit) (sym f.2) ∙ goes in
      let all_new : AllAsk u.net k v news =
      (λ y i letter.
      ⊎_elim
      (λ (x : (m : ResvMsg) × (y.arrival ≡ Spelt (message.Resv m)) × IsOver u.net k y m.session m.hop.addr (ask_style m.ask)).
      asks_for q next bounds' sound' y x.0 (sends y x.0 i x.1) k there g at v goes x.1 x.2)
      (λ (x : (m : ResvTearMsg) × (y.arrival ≡ Spelt (message.ResvTear m)) × IsOver u.net k y m.session m.hop.addr (tear_style m.tear) × TakesName m v).
      ⊎_elim (λ (z : (p : PathMsg) × (y.arrival ≡ Spelt (message.Path p))). let bad : Spelt (message.Path z.0) ≡ Spelt (message.ResvTear x.0) = sym z.1 ∙ x.1 in absurd (cc))
      (λ (z : (p : ResvMsg) × (y.arrival ≡ Spelt (message.Resv p)) × (p.confirm ≡ None)). let bad : Spelt (message.Resv z.0) ≡ Spelt (message.ResvTear x.0) = sym z.1 ∙ x.1 in absurd (cc))
      (only' y (in_right y u.flight news i))) letter) in
      ⊎_elim (λ (a : IsKeptOver u k v × AllAsk u.net k v u.flight). inl (kept_on k v a.0, all_append u.net k v u.flight news a.1 all_new))
      (λ (last : IsAskedLast u.net k v u.flight). inr (last_before u.net k v u.flight news last all_new))
      ((r.follows s).asked k v f.0 of there f.1 goes')

  pub going_on' : IsGoingOn q next
  going_on' = record {
    follows = λ s. record {
      paths = spreading';
      from_known = from_known';
      names = names_known';
      sound = resvs';
      fit = fits_again s u next same (r.follows s).fit;
      free = λ n g at t.
          let f = facts_after_found q (Piece ms) u n g at in
          ap (λ (z : Facts). get z.walls (s, t)) f.2 ∙ ap (λ (z : Walls). get z (s, t)) (walls_are n f.0 f.1) ∙ (r.follows s).free n f.0 f.1 t;
      no_error = λ y m i spelt of. no_resv_err y m i spelt;
      addressed = λ y m i spelt.
          ⊎_elim (λ (old : In y u.flight). first.addressed y m old spelt) (λ (new : In y news). (back_over q next bounds' sound' y m (sends y m new spelt)).4) (in_append y u.flight news i);
      asked = asked' s;
    };
    only = only';
    waits = nobody_waits_then q (Piece ms) u refl r.waits;
    full = full';
    names = names';
  }
