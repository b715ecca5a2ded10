-- A step by which a node follows its rule at most, without time going by: what it sends back over a hop, where what comes from a previous hop comes
-- over a hop of its sender's tree.
use Rattle.std.proofs.Common.{◌≡◌, ℕ, ◌+◌, ◌<◌, List, [], ◌∷◌, length, Bool, true, false, cond, Option, None, Some, ◌⊎◌, inl, inr, ⊎_elim, sym, refl, ap, subst, ◌∙◌}
use Rattle.std.specs.Prelude.{slice_get, is_some, not, ◌||◌, map as each}
use Rattle.rsvp_base.specs.declared.addr.Addr.{Addr}
use Rattle.rsvp_base.specs.declared.part.Part.{Part}
use Rattle.rsvp_base.specs.declared.session.Sender.{Sender}
use Rattle.rsvp_base.specs.declared.session.Session.{Session}
use Rattle.rsvp_base.specs.declared.style.StyleKind.{StyleKind}
use Rattle.rsvp_base.specs.declared.style.StyleKind.TheVariants.{Wild, Fixed, Shared}
use Rattle.rsvp_base.specs.Members.{In}
use Rattle.rsvp_base.specs.Orders.{Names}
use Rattle.rsvp_base.specs.Table.{get, has, empty}
use Rattle.rsvp_base.specs.TokenBucket.{TokenBucket}
use Rattle.rsvp_base.proofs.Members.{to_each}
use Rattle.rsvp_base.proofs.SetLaws.{and_both}
use Rattle.rsvp_base.proofs.Tables.{either}
use Rattle.rsvp_messages.specs.declared.ask.Ask.{Ask}
use Rattle.rsvp_messages.specs.declared.message.Message.{Message}
use Rattle.rsvp_messages.specs.declared.message.Message.TheVariants as message
use Rattle.rsvp_messages.specs.declared.message.ResvMsg.{ResvMsg}
use Rattle.rsvp_messages.specs.declared.message.ResvTearMsg.{ResvTearMsg}
use Rattle.rsvp_messages.specs.Units.{AskedUnit, ask_style, asked_units, tear_names, tear_style}
use Rattle.style_rules.specs.Lines.{LineKey, NextHop}
use Rattle.style_rules.specs.Merge.{PartTable}
use Rattle.style_rules.specs.PartLaws.{part_at_most_told}
use Rattle.style_rules.proofs.StyleLaws.{common_unit}
use Rattle.laws_bounds.specs.FactLaws.{ComesBy}
use Rattle.laws_bounds.specs.SendLaws.{IsAskedOf, IsGone}
use Rattle.laws_bounds.proofs.Asks.{nothing_asked, style_told, units_told}
use Rattle.laws_bounds.proofs.Knowing.{known_and_via}
use Rattle.laws_bounds.proofs.Requesting.{nowhere}
use Rattle.laws_bounds.proofs.Ruling.{rule_in_parts}
use Rattle.laws_bounds.proofs.Tests.{parts_told}
use Rattle.laws_steps.specs.ReservationLaws.{IsOfGoneUnits, IsOfLane, TakesName, Touches}
use Rattle.laws_steps.proofs.Asking.{what_keeps_a_reservation_fact}
use Rattle.laws_steps.proofs.Hopward.{what_a_resv_sent_says, why_a_resv_tear_is_sent}
use Rattle.router_rules.specs.Act.{act}
use Rattle.router_rules.specs.Asking.{ask_of, stays}
use Rattle.router_rules.specs.Facts.{Facts, ResvState, resvs_of}
use Rattle.router_rules.specs.Inputs.{Change, Input, Send, Spelt, Wait}
use Rattle.router_rules.specs.Known.{Lane, known, lanes, named_as}
use Rattle.router_rules.specs.NodeConfig.{NodeConfig, own}
use Rattle.router_rules.specs.Requests.{toward}
use Rattle.router_rules.specs.Rule.{Outcome, is_silent, rule, settled}
use Rattle.router_rules.specs.Sends.{confirm_for, is_changed, resv_send, same_parts, tear_of}
use Rattle.router_rules.specs.Steps.{facts_then, node_step, sent_then}
use Rattle.tree_model.specs.declared.hops.End.{End}
use Rattle.tree_model.specs.declared.hops.LinkHop.{LinkHop}
use Rattle.tree_model.specs.Goals.{addr_of, addr_of_end}
use Rattle.tree_model.specs.Networks.{Net, end_at, iface_of, node_of, peers}
use Rattle.tree_model.specs.Ranks.{rank}
use Rattle.tree_model.specs.Trees.{hops_of, outward, tree}
use Rattle.tree_model.proofs.Following.{has_hop_in, in_group, to_tree}
use Rattle.tree_model.proofs.Ifaces.{interfaces_are_ends}
use Rattle.tree_model.proofs.Links.{hop_linked, peers_both}
use Rattle.tree_model.proofs.TreeLaws.{out_tested, the_root_has_no_inward}
use Rattle.tree_model.proofs.WantLaws.{name_told, want_names}
use Rattle.network_model.specs.Bounds.{AreBounds, AreHosts}
use Rattle.network_model.specs.Links.{copy_to, goes_to, is_group}
use Rattle.network_model.specs.Locals.{locals_of}
use Rattle.network_model.specs.Sound.{ArePathsComplete, ArePathsSound, AreResvsSound, IsSoundPart, IsSoundResv, IsSoundUnit}
use Rattle.network_model.specs.Steps.{Step, input_at, ms_of, outcome, sent, step, still}
use Rattle.network_model.specs.Worlds.{Item, World, config_of}
use Rattle.network_model.proofs.Changing.{what_is_sent_is_copied, where_a_send_goes}
use Rattle.network_model.proofs.Stepping.{copies_made, facts_after_made, sent_made}
use Rattle.laws_network.proofs.Known.{of_some, or_true}
use Rattle.laws_network.proofs.Sends.{goes_to_end, goes_to_peers}
use Rattle.laws_network.proofs.Speaking.{refreshes_are_marked, send_made}
use Rattle.laws_network.proofs.Standing.{own_end, peer_there, same_end, some_at}
use Rattle.settle_paths.specs.PreviousHops.{IsPrevious}
use Rattle.settle_paths.proofs.PreviousHops.{ahead, ends_there, previous_hops_are_all_hops, same_by_addr}
use Rattle.settle_resvs.specs.Said.{HopKey, IsOver, hop_over, lane_of, resv_key}
use Rattle.settle_resvs.specs.SoftResvs.{SaysResv, line_key_of}
use Rattle.settle_resvs.proofs.ResvSends.{IsResvSent}
use Rattle.settle_resvs.proofs.SoftResvs.{resv_found, resv_made}
use Rattle.settle_resvs.proofs.TowardNames.{parts_of_style}
use Rattle.settle_resvs.proofs.TowardWants.{toward_is_at_most_the_want}
use Rattle.settle_passes.specs.Reserving.{IsKeptOver, IsLetter}
use Rattle.settle_passes.proofs.SoundParts.{named_below}

-- ---- a ResvTear of a style lists its names
style_of_tear : (st : StyleKind) (names : Names) → tear_style (tear_of st names) ≡ st
style_of_tear Wild names = refl
style_of_tear Fixed names = refl
style_of_tear Shared names = refl

names_of_tear : (st : StyleKind) (names : Names) → tear_names (tear_of st names) ≡ Some names
names_of_tear Wild names = refl
names_of_tear Fixed names = refl
names_of_tear Shared names = refl

-- ---- what comes from a previous hop comes over a hop of its sender's tree
pub record HasWay (net : Net) (n : ℕ) (s : Session) (hop : NextHop) (x : Sender) : Type 0 where
  pub way : LinkHop
  pub there : In way (tree net.hops s.group x.addr)
  pub previous : IsPrevious net n s hop way

abbrev pub HaveWays : World → Type 0
HaveWays w = (n : ℕ) (f : Facts) (s : Session) (hop : NextHop) (x : Sender) → slice_get w.nodes n ≡ Some f → ComesBy f s hop x → HasWay w.net n s hop x

-- so it does where paths are sound
pub ways_of : (w : World) → ArePathsSound w → HaveWays w
ways_of w sound n f s hop x at c = let a = ahead w n f sound at s hop x c in record { way = a.way; there = a.there; previous = a.previous }

module _ (q : ℕ) (t : Step) (u : World) where
  -- the world after the step, where the network stays
  abbrev pub left : World
  left = record (step q t u) { net = u.net }

  abbrev pub moment : ℕ
  moment = u.clock + ms_of t

  abbrev pub place : ℕ → NodeConfig
  place n = config_of q u.net u.trees n

  -- what it sends
  abbrev pub news : List Item
  news = each (λ (z : Item × Bool). z.0) (sent q t u)

  -- the node follows its rule, for something other than time
  pub record Turns (n : ℕ) (f : Facts) : Type 0 where
    pub input : Input
    pub came : input_at t u n ≡ Some input
    pub loud : is_silent input ≡ false
    pub timeless : (ms word : ℕ) → input ≡ Wait ms word → ⊥
    pub is : outcome q t u n f ≡ rule (place n) (place n) moment input f

  module _ (bounds : AreBounds q u) (turns : (n : ℕ) (f : Facts) → slice_get u.nodes n ≡ Some f → (outcome q t u n f ≡ still f) ⊎ Turns n f) where
    -- ---- a message that is sent
    pub record IsSentInTurn (y : Item) (m : Message) : Type 0 where
      pub node : ℕ
      pub facts : Facts
      pub there : slice_get u.nodes node ≡ Some facts
      pub by : Turns node facts
      pub send : Send
      pub sent_one : In send (sent_then (place node) (place node) moment by.input facts)
      pub says : send.message ≡ m
      pub dst : y.dst ≡ send.dst
      pub to : In y.end (goes_to u.net (end_at u.net.ends node send.iface) send.dst)

    pub sent_in_turn : (y : Item) (b : Bool) (m : Message) → In (y, b) (sent q t u) → y.arrival ≡ Spelt m → IsSentInTurn y m
    sent_in_turn y b m i spelt =
        let c = (what_is_sent_is_copied q t u (y, b)).0 i in
        let copied : Spelt c.send.message ≡ Spelt m = sym (ap (λ (z : Item × Bool). z.0.arrival) c.is) ∙ spelt in
        let says : c.send.message ≡ m = cc in
        ⊎_elim
        (λ (h : outcome q t u c.node c.facts ≡ still c.facts).
        let none : (outcome q t u c.node c.facts).sent ≡ [] = ap (λ (z : Outcome). z.sent) h in
        absurd (subst (λ (z : List Send). In c.send z) none c.sent))
        (λ (h : Turns c.node c.facts).
        record {
          node = c.node;
          facts = c.facts;
          there = c.there;
          by = h;
          send = c.send;
          sent_one = subst (λ (z : Outcome). In c.send z.sent) h.is c.sent;
          says = says;
          dst = ap (λ (z : Item × Bool). z.0.dst) c.is;
          to = subst (λ (z : ℕ). In z (goes_to u.net (end_at u.net.ends c.node c.send.iface) c.send.dst)) (sym (ap (λ (z : Item × Bool). z.0.end) c.is)) c.goes;
        })
        (turns c.node c.facts c.there)

    host : (e : ℕ) → e < length u.net.ends → is_group (addr_of u.net e) ≡ false
    host e lt = let x = some_at u.net.ends e lt in ap (λ (z : Option End). is_group (addr_of_end z)) x.1 ∙ bounds.hosts e x.0 x.1

    -- a Resv that is sent says what goes toward a previous hop after the step
    of_lane : (y : Item) (b : Bool) (m : ResvMsg) → (r : IsSentInTurn y (message.Resv m)) → IsOfLane (place r.node) (outcome q t u r.node r.facts).facts r.send m
    of_lane y b m r =
        subst (λ (z : Outcome). IsOfLane (place r.node) z.facts r.send m) (sym r.by.is)
        (what_a_resv_sent_says.says (node_step (place r.node) (place r.node) u.clock moment r.by.input r.facts) (bounds.facts r.node r.facts r.there) r.send m r.sent_one r.says)

    pub resv_in_turn : (y : Item) (b : Bool) (m : ResvMsg) → In (y, b) (sent q t u) → y.arrival ≡ Spelt (message.Resv m) → IsResvSent q u.net u.trees left y m
    resv_in_turn y b m i spelt =
        let r = sent_in_turn y b (message.Resv m) i spelt in
        let after : Facts = (outcome q t u r.node r.facts).facts in
        let o = of_lane y b m r in
        let e = goes_to_end u.net (end_at u.net.ends r.node r.send.iface) r.send.dst y.end r.to in
        let at : end_at u.net.ends r.node o.lane.hop.0 ≡ Some e.0 = ap (end_at u.net.ends r.node) (sym o.iface) ∙ e.1 in
        record {
          node = r.node;
          facts = after;
          after = facts_after_made q t u r.node r.facts r.there;
          lane = o.lane;
          by = o.by;
          asks = o.asks;
          style = o.style;
          session = o.session;
          end = e.0;
          at = at;
          hop = o.from ∙ own_end q u.net u.trees r.node o.lane.hop.0 e.0 at;
          goes = subst (λ (z : Addr). In y.end (goes_to u.net (Some e.0) z)) o.dst (subst (λ z. In y.end (goes_to u.net z r.send.dst)) e.1 r.to);
          to = goes_to_peers u.net (end_at u.net.ends r.node r.send.iface) e.0 r.send.dst y.end e.1 r.to;
          dst = r.dst ∙ o.dst;
          period = o.period;
        }

    module _ (bounds' : AreBounds q left) (ways : HaveWays left) where
      -- a Resv that is sent goes back over a hop of its group, to the end whose address it is sent to
      pub over_way : (y : Item) (m : ResvMsg) (p : IsResvSent q u.net u.trees left y m)
          → (h : LinkHop) × IsPrevious u.net p.node p.lane.session p.lane.hop h × (h.from ≡ y.end) × (h.to ≡ p.end) × (y.dst ≡ addr_of u.net y.end)
      over_way y m p =
          let a = ways p.node p.facts p.lane.session p.lane.hop p.by.0 p.after p.by.1 in
          let h = a.way in
          let there = ends_there u.net bounds.net p.lane.session.group h a.previous.there in
          let of = (interfaces_are_ends u.net).iface_of_end p.node p.lane.hop.0 p.end p.at in
          let to : h.to ≡ p.end = same_end u.net h.to p.end there.1 of.0 (a.previous.node ∙ sym of.1) (a.previous.iface ∙ sym of.2) in
          let linked : In h.to (peers u.net.links h.from) = hop_linked u.net bounds.net p.lane.session.group p.by.0.addr h a.there in
          let back : In h.from (peers u.net.links p.end) = subst (λ (z : ℕ). In h.from (peers u.net.links z)) to (peers_both u.net bounds.net h.from h.to linked) in
          let group : is_group p.lane.hop.1 ≡ false = subst (λ (z : Addr). is_group z ≡ false) a.previous.addr (host h.from there.0) in
          let dst : y.dst ≡ addr_of u.net y.end = p.dst ∙ sym (((where_a_send_goes u.net p.end p.lane.hop.1).one group h.from back a.previous.addr y.end).0 p.goes).1 in
          let from : h.from ≡ y.end = same_by_addr u.net bounds.net h.from y.end there.0 (peer_there u.net bounds.net p.end y.end p.to) (a.previous.addr ∙ sym p.dst ∙ dst) in
          (h, a.previous, from, to, dst)

      pub addressed_back : (y : Item) (b : Bool) (m : ResvMsg) → In (y, b) (sent q t u) → y.arrival ≡ Spelt (message.Resv m) → y.dst ≡ addr_of u.net y.end
      addressed_back y b m i spelt = (over_way y m (resv_in_turn y b m i spelt)).4

      module _ (k : HopKey) (there : In (hop_over k) (hops_of u.net.hops k.session.group)) where
        abbrev pub asker : ℕ
        asker = node_of u.net.ends k.from

        abbrev pub lane : Lane
        lane = lane_of u.net k

        -- a Resv that is sent back over the hop is sent by the node that asks, toward the end that keeps
        same_lane : (y : Item) (m : ResvMsg) (p : IsResvSent q u.net u.trees left y m) → IsOver u.net k y m.session m.hop.addr (ask_style m.ask)
            → (p.node ≡ asker) × (p.lane ≡ lane)
        same_lane y m p o =
            let x = over_way y m p in
            let inside = ends_there u.net bounds.net k.session.group (hop_over k) there in
            let of = (interfaces_are_ends u.net).iface_of_end p.node p.lane.hop.0 p.end p.at in
            let end : p.end ≡ k.from = same_by_addr u.net bounds.net p.end k.from of.0 inside.1 (sym p.hop ∙ o.from) in
            let session : p.lane.session ≡ k.session = sym p.session ∙ o.session in
            let style : p.lane.style ≡ k.style = sym p.style ∙ o.style in
            let from : x.0.from ≡ k.to = x.2 ∙ o.end in
            let to : x.0.to ≡ k.from = x.3 ∙ end in
            let iface : p.lane.hop.0 ≡ iface_of u.net.ends k.from = sym x.1.iface ∙ ap (iface_of u.net.ends) to in
            let addr : p.lane.hop.1 ≡ addr_of u.net k.to = sym x.1.addr ∙ ap (addr_of u.net) from in
            (sym x.1.node ∙ ap (node_of u.net.ends) to, λ i. record { session = session i; style = style i; hop = (iface i, addr i) })

        -- ---- a Resv that is sent asks for what goes toward the hop after the step
        pub resv_asks : (g : Facts) → slice_get left.nodes asker ≡ Some g → (v : Part) → get (toward (place asker) g lane) k.unit ≡ Some v → (y : Item) (b : Bool) (m : ResvMsg)
            → In (y, b) (sent q t u) → y.arrival ≡ Spelt (message.Resv m) → IsOver u.net k y m.session m.hop.addr (ask_style m.ask) → SaysResv u.net (resv_key u.net k) y v
        resv_asks g at v goes y b m i spelt o =
            let p = resv_in_turn y b m i spelt in
            let same = same_lane y m p o in
            let facts : p.facts ≡ g = of_some p.facts g (sym p.after ∙ ap (λ (z : ℕ). slice_get left.nodes z) same.0 ∙ at) in
            let unit : AskedUnit = record { unit = k.unit; names = Some v.senders; flow = v.flow } in
            let asked : IsAskedOf (toward (place p.node) p.facts p.lane) unit =
            record { part = v; there = (λ j. get (toward (place (same.0 j)) (facts j) (same.1 j)) k.unit) ∙ goes; names = refl; flow = refl } in
            let asks = (units_told p.lane.style (toward (place p.node) p.facts p.lane) m.ask unit
            (parts_of_style (place p.node) left.clock p.facts (bounds'.facts p.node p.facts p.after) p.lane) p.asks).1 asked in
            record {
              end = o.end;
              dst = addressed_back y b m i spelt ∙ ap (addr_of u.net) o.end;
              resv = m;
              spelt = spelt;
              session = o.session;
              style = o.style;
              hop = o.from;
              unit = unit;
              asks = asks;
              at = refl;
              names = refl;
              flow = refl;
            }

        -- ---- a ResvTear that is sent back over the hop takes names of units that went toward it and do no more
        pub record IsTornInTurn (m : ResvTearMsg) : Type 0 where
          pub before : Facts
          pub at : slice_get u.nodes asker ≡ Some before
          pub names : Names
          pub lists : tear_names m.tear ≡ Some names
          pub gone : (x : Sender) → has names x ≡ true → IsGone (toward (place asker) before lane) (toward (place asker) (outcome q t u asker before).facts lane) x

        pub torn_in_turn : (y : Item) (b : Bool) (m : ResvTearMsg) → In (y, b) (sent q t u) → y.arrival ≡ Spelt (message.ResvTear m) → IsOver u.net k y m.session m.hop.addr (tear_style m.tear)
            → IsTornInTurn m
        torn_in_turn y b m i spelt o =
            let r = sent_in_turn y b (message.ResvTear m) i spelt in
            let p : NodeConfig = place r.node in
            let facts : Facts = (outcome q t u r.node r.facts).facts in
            let x : IsOfGoneUnits p p r.facts facts r.send m =
            subst (λ (z : Outcome). IsOfGoneUnits p p r.facts z.facts r.send m) (sym r.by.is)
            (why_a_resv_tear_is_sent (node_step p p u.clock moment r.by.input r.facts) (bounds.facts r.node r.facts r.there) r.send m r.sent_one r.says) in
            let after : slice_get left.nodes r.node ≡ Some facts = facts_after_made q t u r.node r.facts r.there in
            -- the hop over which it goes
            let named = (known_and_via.all_by facts x.lane x.some.0).0 (x.via_hop x.some.0 x.some.1) in
            let comes = (known_and_via.via_by facts x.lane.session x.lane.hop named.sender).0 named.among in
            let a = ways r.node facts x.lane.session x.lane.hop named.sender after comes in
            let valid = bounds.net in
            let inside = ends_there u.net valid k.session.group (hop_over k) there in
            let mine = ends_there u.net valid x.lane.session.group a.way a.previous.there in
            let e = goes_to_end u.net (end_at u.net.ends r.node r.send.iface) r.send.dst y.end r.to in
            let at : end_at u.net.ends r.node x.lane.hop.0 ≡ Some e.0 = ap (end_at u.net.ends r.node) (sym x.iface) ∙ e.1 in
            let of = (interfaces_are_ends u.net).iface_of_end r.node x.lane.hop.0 e.0 at in
            let hop_addr : m.hop.addr ≡ own p x.lane.hop.0 = ap (λ (z : ResvTearMsg). z.hop.addr) x.is in
            let end : e.0 ≡ k.from = same_by_addr u.net valid e.0 k.from of.0 inside.1 (sym (own_end q u.net u.trees r.node x.lane.hop.0 e.0 at) ∙ sym hop_addr ∙ o.from) in
            let to : a.way.to ≡ k.from = same_end u.net a.way.to e.0 mine.1 of.0 (a.previous.node ∙ sym of.1) (a.previous.iface ∙ sym of.2) ∙ end in
            let linked : In a.way.to (peers u.net.links a.way.from) = hop_linked u.net valid x.lane.session.group named.sender.addr a.way a.there in
            let back : In a.way.from (peers u.net.links e.0) = subst (λ (z : ℕ). In a.way.from (peers u.net.links z)) (to ∙ sym end) (peers_both u.net valid a.way.from a.way.to linked) in
            let goes : In y.end (goes_to u.net (Some e.0) x.lane.hop.1) = subst (λ (z : Option ℕ × Addr). In y.end (goes_to u.net z.0 z.1)) (λ j. (e.1 j, x.dst j)) r.to in
            let no_group = subst (λ (z : Addr). is_group z ≡ false) a.previous.addr (host a.way.from mine.0) in
            let got = ((where_a_send_goes u.net e.0 x.lane.hop.1).one no_group a.way.from back a.previous.addr y.end).0 goes in
            let from : a.way.from ≡ k.to = same_by_addr u.net valid a.way.from k.to mine.0 inside.0 (a.previous.addr ∙ sym got.1 ∙ ap (addr_of u.net) o.end) in
            -- so it is the key's
            let session : x.lane.session ≡ k.session = sym (ap (λ (z : ResvTearMsg). z.session) x.is) ∙ o.session in
            let style : x.lane.style ≡ k.style = sym (style_of_tear x.lane.style x.names) ∙ sym (ap (λ (z : ResvTearMsg). tear_style z.tear) x.is) ∙ o.style in
            let iface : x.lane.hop.0 ≡ iface_of u.net.ends k.from = sym a.previous.iface ∙ ap (iface_of u.net.ends) to in
            let addr : x.lane.hop.1 ≡ addr_of u.net k.to = sym a.previous.addr ∙ ap (addr_of u.net) from in
            let same : x.lane ≡ lane = (λ j. record { session = session j; style = style j; hop = (iface j, addr j) }) in
            let node : r.node ≡ asker = sym a.previous.node ∙ ap (node_of u.net.ends) to in
            record {
              before = r.facts;
              at = ap (λ (z : ℕ). slice_get u.nodes z) (sym node) ∙ r.there;
              names = x.names;
              lists = ap (λ (z : ResvTearMsg). tear_names z.tear) x.is ∙ names_of_tear x.lane.style x.names;
              gone = λ z h. subst (λ (w : ℕ × Lane). IsGone (toward (place w.0) r.facts w.1) (toward (place w.0) (outcome q t u w.0 r.facts).facts w.1) z) (λ j. (node j, same j)) (x.gone z h);
            }

        takes_told : (m : ResvTearMsg) (v : Part) (names : Names) → tear_names m.tear ≡ Some names → (c : TakesName m v) → has names c.name ≡ true
        takes_told m v names lists c = either (has names c.name) (λ yes. yes) (λ no.
            let bad : true ≡ false = sym (ap (λ (z : Bool). not z) no) ∙ sym (ap (λ (z : Option Names). stays z c.name) lists) ∙ c.goes in absurd (cc))

        -- it takes no name of a part that goes toward the hop after the step
        pub tear_spares : (g : Facts) → slice_get left.nodes asker ≡ Some g → (v : Part) → get (toward (place asker) g lane) k.unit ≡ Some v → (y : Item) (b : Bool) (m : ResvTearMsg)
            → In (y, b) (sent q t u) → y.arrival ≡ Spelt (message.ResvTear m) → IsOver u.net k y m.session m.hop.addr (tear_style m.tear) → TakesName m v → ⊥
        tear_spares g at v goes y b m i spelt o c =
            let r = torn_in_turn y b m i spelt o in
            let x = r.gone c.name (takes_told m v r.names r.lists c) in
            let same : (outcome q t u asker r.before).facts ≡ g = of_some (outcome q t u asker r.before).facts g (sym (facts_after_made q t u asker r.before r.at) ∙ at) in
            let was = parts_of_style (place asker) u.clock r.before (bounds.facts asker r.before r.at) lane x.unit x.part x.was in
            let is = parts_of_style (place asker) left.clock g (bounds'.facts asker g at) lane k.unit v goes in
            let unit : x.unit ≡ k.unit = sym was.1 ∙ common_unit k.style x.part v c.name was.0 is.0 x.named c.was ∙ is.1 in
            let gone : has (toward (place asker) g lane) k.unit ≡ false = (λ j. has (toward (place asker) (sym same j) lane) (sym unit j)) ∙ x.gone in
            let bad : true ≡ false = sym (ap (λ (z : Option Part). is_some z) goes) ∙ gone in
            absurd (cc)

        pub all_ask_back : (g : Facts) → slice_get left.nodes asker ≡ Some g → (v : Part) → get (toward (place asker) g lane) k.unit ≡ Some v → (y : Item) (b : Bool) → In (y, b) (sent q t u)
            → IsLetter u.net k v y → SaysResv u.net (resv_key u.net k) y v
        all_ask_back g at v goes y b i (inl x) = resv_asks g at v goes y b x.0 i x.1 x.2
        all_ask_back g at v goes y b i (inr x) = absurd (tear_spares g at v goes y b x.0 i x.1 x.2 x.3)

        -- ---- where what goes toward the hop is the same before and after, nothing is sent back over it
        pub none_sent_back : (f : Facts) → slice_get u.nodes asker ≡ Some f → toward (place asker) f lane ≡ toward (place asker) (outcome q t u asker f).facts lane → (v : Part) (y : Item) (b : Bool)
            → In (y, b) (sent q t u) → IsLetter u.net k v y → ⊥
        unfolding sent_in_turn resv_in_turn
        none_sent_back f at same v y b i (inl w) =
            let m : ResvMsg = w.0 in
            let spelt = w.1 in
            let o = w.2 in
            let r = sent_in_turn y b (message.Resv m) i spelt in
            let p : NodeConfig = place r.node in
            let here = same_lane y m (resv_in_turn y b m i spelt) o in
            let facts : r.facts ≡ f = of_some r.facts f (sym r.there ∙ ap (λ (z : ℕ). slice_get u.nodes z) here.0 ∙ at) in
            let s = node_step p p u.clock moment r.by.input r.facts in
            let within = bounds.facts r.node r.facts r.there in
            either r.send.refresh
            (λ yes. let z = refreshes_are_marked.waited s within r.send r.sent_one yes in absurd (r.by.timeless z.0 z.1 z.2))
            (λ no.
            let d = of_lane y b m r in
            let l = what_a_resv_sent_says.why s within r.send m r.sent_one r.says no in
            let lane_is : l.0 ≡ lane = (λ j. record {
              session = (sym l.3 ∙ o.session) j;
              style = (sym l.4 ∙ o.style) j;
              hop = ((sym l.1 ∙ d.iface ∙ ap (λ (z : Lane). z.hop.0) here.1) j, (sym l.2 ∙ d.dst ∙ ap (λ (z : Lane). z.hop.1) here.1) j);
            }) in
            let out : facts_then p p moment r.by.input r.facts ≡ (outcome q t u r.node r.facts).facts = ap (λ (z : Outcome). z.facts) (sym r.by.is) in
            l.5 ((λ j. toward (place (here.0 j)) (facts j) (lane_is j)) ∙ same ∙ (λ j. toward (place (sym here.0 j)) (outcome q t u (sym here.0 j) (sym facts j)).facts (sym lane_is j))
            ∙ ap (λ (z : Facts). toward p z l.0) (sym out)))
        none_sent_back f at same v y b i (inr w) =
            let r = torn_in_turn y b w.0 i w.1 w.2 in
            let x = r.gone w.3.name (takes_told w.0 v r.names r.lists w.3) in
            let facts : r.before ≡ f = of_some r.before f (sym r.at ∙ at) in
            let there_still : get (toward (place asker) (outcome q t u asker r.before).facts lane) x.unit ≡ Some x.part =
            (λ j. get (toward (place asker) (outcome q t u asker (facts j)).facts lane) x.unit)
            ∙ ap (λ (z : PartTable). get z x.unit) (sym same) ∙ (λ j. get (toward (place asker) (sym facts j) lane) x.unit)
            ∙ x.was in
            let bad : true ≡ false = sym (ap (λ (z : Option Part). is_some z) there_still) ∙ x.gone in
            absurd (cc)

        -- ---- where it is another, a Resv is sent back over it
        pub record IsAskedBack (v : Part) : Type 0 where
          pub item : Item
          pub new : In item news
          pub says : SaysResv u.net (resv_key u.net k) item v

        asked_now : (f : Facts) → slice_get u.nodes asker ≡ Some f → (h : Turns asker f) → (v : Part) → get (toward (place asker) (outcome q t u asker f).facts lane) k.unit ≡ Some v
            → same_parts (toward (place asker) f lane) (toward (place asker) (settled (place asker) moment f (act (place asker) moment h.input f).facts) lane) ≡ false → IsAskedBack v
        asked_now f at h v goes other = by (ask_of k.style whole) refl
          where
            p : NodeConfig
            p = place asker

            after : Facts
            after = settled p moment f (act p moment h.input f).facts

            whole : PartTable
            whole = toward p after lane

            same : toward p (outcome q t u asker f).facts lane ≡ whole
            same = ap (λ (z : Outcome). toward p z.facts lane) h.is ∙ rule_in_parts.toward_same p p moment h.input f lane

            at' : slice_get left.nodes asker ≡ Some (outcome q t u asker f).facts
            at' = facts_after_made q t u asker f at

            here : get whole k.unit ≡ Some v
            here = ap (λ (z : PartTable). get z k.unit) (sym same) ∙ goes

            by : (o : Option Ask) → ask_of k.style whole ≡ o → IsAskedBack v
            by None e =
                let none : toward p (outcome q t u asker f).facts lane ≡ empty =
                nothing_asked k.style (toward p (outcome q t u asker f).facts lane)
                (parts_of_style p left.clock (outcome q t u asker f).facts (bounds'.facts asker (outcome q t u asker f).facts at') lane)
                (ap (ask_of k.style) same ∙ e) in
                let bad : None ≡ Some v = ap (λ (z : PartTable). get z k.unit) (sym none) ∙ goes in
                absurd (cc)
            by (Some ask) e =
                let c : Change = act p moment h.input f in
                let lane_there : has (lanes after) lane ≡ true = either (has (lanes after) lane) (λ yes. yes)
                (λ no. let bad : None ≡ Some v = ap (λ (z : PartTable). get z k.unit) (sym (nowhere p after lane no)) ∙ here in absurd (cc)) in
                let changed_is : is_changed p p f after lane ≡ true = ap not other in
                let send : Send = resv_send p after lane (cond (is_changed p p f after lane) (confirm_for p after lane c.asked) None) (has c.fired k.session) ask in
                let sends : In send (sent_then p p moment h.input f) =
                send_made p p moment h.input f send h.loud
                (inr (inr (inr (inr (inr (record {
                  lane = lane;
                  there = lane_there;
                  ask = ask;
                  whole = e;
                  why = ap (λ (z : Bool). has c.fired k.session || z) changed_is ∙ or_true (has c.fired k.session);
                  is = refl;
                })))))) in
                let out : In send (outcome q t u asker f).sent = subst (λ (z : Outcome). In send z.sent) (sym h.is) sends in
                let inside = ends_there u.net bounds.net k.session.group (hop_over k) there in
                let end : end_at u.net.ends asker (iface_of u.net.ends k.from) ≡ Some k.from = (interfaces_are_ends u.net).end_of_iface k.from inside.1 in
                let g = in_group u.net.hops k.session.group (hop_over k) there in
                let in_tree : In (hop_over k) (tree u.net.hops g.0.group g.0.source) = subst (λ (z : LinkHop). In z (tree u.net.hops g.0.group g.0.source)) g.3 (to_tree u.net.hops g.0 g.1) in
                let peer : In k.to (peers u.net.links k.from) = peers_both u.net bounds.net k.to k.from (hop_linked u.net bounds.net g.0.group g.0.source (hop_over k) in_tree) in
                let goes_there : In k.to (goes_to u.net (end_at u.net.ends asker (iface_of u.net.ends k.from)) (addr_of u.net k.to)) =
                subst (λ (z : Option ℕ). In k.to (goes_to u.net z (addr_of u.net k.to))) (sym end)
                (((where_a_send_goes u.net k.from (addr_of u.net k.to)).one (host k.to inside.0) k.to peer refl k.to).1 (peer, refl)) in
                let y : Item × Bool = copy_to u.made send k.to in
                let sent_one : In y (sent q t u) = sent_made q t u asker f y at (copies_made u.net u.made asker (outcome q t u asker f).sent send k.to out goes_there) in
                record {
                  item = y.0;
                  new = to_each (λ (z : Item × Bool). z.0) y (sent q t u) sent_one;
                  says = resv_asks (outcome q t u asker f).facts at' v goes y.0 y.1 _ sent_one refl
                      (record { end = refl; session = refl; from = own_end q u.net u.trees asker (iface_of u.net.ends k.from) k.from end; style = style_told k.style whole ask e });
                }

        pub stays_or_asked_back : (f : Facts) → slice_get u.nodes asker ≡ Some f
            → (toward (place asker) f lane ≡ toward (place asker) (outcome q t u asker f).facts lane)
            ⊎ ((v : Part) → get (toward (place asker) (outcome q t u asker f).facts lane) k.unit ≡ Some v → IsAskedBack v)
        stays_or_asked_back f at =
            ⊎_elim (λ (z : outcome q t u asker f ≡ still f). inl (ap (λ (o : Outcome). toward (place asker) o.facts lane) (sym z)))
            (λ (h : Turns asker f).
            let after : Facts = settled (place asker) moment f (act (place asker) moment h.input f).facts in
            either (same_parts (toward (place asker) f lane) (toward (place asker) after lane))
            (λ yes. inl (parts_told (toward (place asker) f lane) (toward (place asker) after lane) yes ∙ sym (rule_in_parts.toward_same (place asker) (place asker) moment h.input f lane)
            ∙ ap (λ (o : Outcome). toward (place asker) o.facts lane) (sym h.is)))
            (λ no. inr (λ v goes. asked_now f at h v goes no)))
            (turns asker f at)

    -- ---- where paths are sound
    module _ (bounds' : AreBounds q left) (sound : ArePathsSound left) where
      abbrev ways : HaveWays left
      ways = ways_of left sound

      pub addressed_in_turn : (y : Item) (b : Bool) (m : ResvMsg) → In (y, b) (sent q t u) → y.arrival ≡ Spelt (message.Resv m) → y.dst ≡ addr_of u.net y.end
      addressed_in_turn = addressed_back bounds' ways

      -- each unit of it is sound, where what nodes keep is
      pub unit_in_turn : ((st : StyleKind) (n : ℕ) (f : Facts) (k : LineKey) (r : ResvState) → slice_get left.nodes n ≡ Some f → get (resvs_of st f) k ≡ Some r → IsSoundResv st left n k r)
          → (y : Item) (b : Bool) (m : ResvMsg) → In (y, b) (sent q t u) → y.arrival ≡ Spelt (message.Resv m) → (v : AskedUnit) → In v (asked_units m.ask) → IsSoundUnit left y m v
      unit_in_turn facts y b m i spelt v asks =
          let p = resv_in_turn y b m i spelt in
          let h = over_way bounds' ways y m p in
          let asked : IsAskedOf (toward (place p.node) p.facts p.lane) v =
          (units_told p.lane.style (toward (place p.node) p.facts p.lane) m.ask v (parts_of_style (place p.node) left.clock p.facts (bounds'.facts p.node p.facts p.after) p.lane) p.asks).0 asks in
          let x = toward_is_at_most_the_want q left bounds' sound p.node p.facts p.after p.lane h.0 h.1
          (named_below left facts p.lane.style p.node p.facts p.lane.session (rank u.net p.lane.session.group h.0) p.after) v.unit asked.part asked.there in
          record {
            names = asked.part.senders;
            named = asked.names;
            sound = subst (λ (z : StyleKind × Session × ℕ × Addr × TokenBucket). IsSoundPart z.0 left z.1 z.2 z.3 v.unit (record { senders = asked.part.senders; flow = z.4 }))
                (λ j. (sym p.style j, sym p.session j, h.2 j, (ap (addr_of u.net) h.3 ∙ sym p.hop) j, sym asked.flow j)) x;
          }

      module _ (k : HopKey) (there : In (hop_over k) (hops_of u.net.hops k.session.group)) where
        abbrev here : Facts → PartTable
        here f = toward (place (node_of u.net.ends k.from)) f (lane_of u.net k)

        abbrev then : Facts → PartTable
        then f = here (outcome q t u (node_of u.net.ends k.from) f).facts

        abbrev pub IsAskedNow : Part → Type 0
        IsAskedNow = IsAskedBack bounds' ways k there

        pub all_ask : (g : Facts) → slice_get left.nodes (node_of u.net.ends k.from) ≡ Some g → (v : Part) → get (here g) k.unit ≡ Some v → (y : Item) (b : Bool) → In (y, b) (sent q t u)
            → IsLetter u.net k v y → SaysResv u.net (resv_key u.net k) y v
        all_ask = all_ask_back bounds' ways k there

        pub none_sent : (f : Facts) → slice_get u.nodes (node_of u.net.ends k.from) ≡ Some f → here f ≡ then f → (v : Part) (y : Item) (b : Bool) → In (y, b) (sent q t u) → IsLetter u.net k v y → ⊥
        none_sent = none_sent_back bounds' ways k there

        pub stays_or_asked : (f : Facts) → slice_get u.nodes (node_of u.net.ends k.from) ≡ Some f → (here f ≡ then f) ⊎ ((v : Part) → get (then f) k.unit ≡ Some v → IsAskedNow v)
        stays_or_asked = stays_or_asked_back bounds' ways k there

    -- ---- a reservation that nothing touches stays
    module _ (hosts : AreHosts u) (paths : ArePathsSound u) (complete : ArePathsComplete u) (resvs : AreResvsSound u) (now : moment ≡ u.clock)
        (known_on : (n : ℕ) (f : Facts) (s : Session) (x : Sender) → slice_get u.nodes n ≡ Some f → has (known f s) x ≡ true → has (known (outcome q t u n f).facts s) x ≡ true) where
      pub kept_on : (k : HopKey) (v : Part) (c : IsKeptOver u k v)
          → ((f : Facts) → slice_get u.nodes (node_of u.net.ends k.to) ≡ Some f → (h : Turns (node_of u.net.ends k.to) f) → Touches h.input k.style (line_key_of u.net (resv_key u.net k)) c.resv → ⊥)
          → IsKeptOver left k v
      kept_on k v c untouched =
          let n : ℕ = node_of u.net.ends k.to in
          let key = line_key_of u.net (resv_key u.net k) in
          let f = resv_found u n k.style key c.resv c.there in
          let g : Facts = (outcome q t u n f.0).facts in
          let after : slice_get left.nodes n ≡ Some g = facts_after_made q t u n f.0 f.1 in
          let ends : get (resvs_of k.style g) key ≡ Some c.resv → IsKeptOver left k v = (λ e. record { resv = c.resv; there = resv_made left n k.style key g after ∙ e; is = c.is }) in
          let s = resvs.facts k.style n f.0 key c.resv f.1 f.2 in
          let of = (interfaces_are_ends u.net).iface_of_end n key.1.0.0 s.end s.at in
          let up = part_at_most_told c.resv.part s.sound.wanted s.sound.below in
          ⊎_elim (λ (z : outcome q t u n f.0 ≡ still f.0). ends (ap (λ (o : Outcome). get (resvs_of k.style o.facts) key) z ∙ f.2))
          (λ (h : Turns n f.0).
          let same : g ≡ facts_then (place n) (place n) moment h.input f.0 = ap (λ (o : Outcome). o.facts) h.is in
          let lives : moment < c.resv.dies = subst (λ (z : ℕ). z < c.resv.dies) (sym now) ((bounds.facts n f.0 f.1).alive.resvs k.style key c.resv f.2).later in
          let names : (x : Sender) → has c.resv.part.senders x ≡ true → has (named_as k.style (known (facts_then (place n) (place n) moment h.input f.0) k.session)) x ≡ true =
          (λ x e.
          let a = name_told k.style u.net (locals_of u) k.session (s.sound.hop ∷ []) x
          (want_names k.style u.net (locals_of u) k.session s.sound.hop k.unit s.sound.wanted s.sound.is x (up.names x e)) in
          let hop = has_hop_in (tree u.net.hops k.session.group a.0.addr) s.sound.hop (and_both _ _ a.2).0 in
          let leaves : In s.sound.hop.from (outward u.net n k.session.group a.0.addr) =
          out_tested u.net n s.sound.hop.from k.session.group a.0.addr (s.sound.hop, hop, refl, ap (node_of u.net.ends) s.sound.from ∙ of.1) in
          let reaches = (the_root_has_no_inward u.net bounds.net).entered n s.sound.hop.from k.session.group a.0.addr leaves in
          let knows : has (known f.0 k.session) a.0 ≡ true = ((previous_hops_are_all_hops u bounds.net hosts paths complete).known n f.0 k.session a.0 f.1).1 (a.1, reaches) in
          let then_knows : has (known (facts_then (place n) (place n) moment h.input f.0) k.session) a.0 ≡ true =
          ap (λ (z : Facts). has (known z k.session) a.0) (sym same) ∙ known_on n f.0 k.session a.0 f.1 knows in
          (known_and_via.named_by k.style (known (facts_then (place n) (place n) moment h.input f.0) k.session) x).1
          (record { sender = a.0; among = then_knows; passes = refl; name = a.3 })) in
          ends
          (ap (λ (z : Facts). get (resvs_of k.style z) key) same
          ∙ what_keeps_a_reservation_fact.whole (node_step (place n) (place n) u.clock moment h.input f.0) (bounds.facts n f.0 f.1) k.style key c.resv f.2 lives (untouched f.0 f.1 h) names))
          (turns n f.0 f.1)
