-- One delivery: what is sent for a request, and where an answer goes on.
use Rattle.std.proofs.Common.{◌≡◌, ℕ, List, [], ◌∷◌, Bool, true, false, Some, ◌⊎◌, inl, inr, ⊎_elim, sym, refl, ap, subst, ◌∙◌}
use Rattle.std.specs.Prelude.{slice_get, map as each}
use Rattle.std.specs.Ordering.{eq_by_cmp}
use Rattle.rsvp_base.specs.declared.addr.Addr.{Addr}
use Rattle.rsvp_base.specs.declared.part.Part.{Part}
use Rattle.rsvp_base.specs.declared.session.Sender.{Sender}
use Rattle.rsvp_base.specs.declared.session.Session.{Session}
use Rattle.rsvp_base.specs.declared.style.StyleKind.{StyleKind}
use Rattle.rsvp_base.specs.declared.style.Unit.{Unit as UnitOf}
use Rattle.rsvp_base.specs.Members.{In}
use Rattle.rsvp_base.specs.Orders.{Names, sessions, units}
use Rattle.rsvp_base.specs.Styles.{name_of, part_unit}
use Rattle.rsvp_base.specs.Table.{empty, get, has, same_rows}
use Rattle.rsvp_base.specs.TokenBucket.{TokenBucket}
use Rattle.rsvp_base.proofs.Counts.{in_found}
use Rattle.rsvp_base.proofs.Members.{in_each, in_right, to_each}
use Rattle.rsvp_base.proofs.Tables.{either, tied_same}
use Rattle.rsvp_messages.specs.declared.message.Message.TheVariants as message
use Rattle.rsvp_messages.specs.declared.message.ResvConfMsg.{ResvConfMsg}
use Rattle.rsvp_messages.specs.declared.message.ResvMsg.{ResvMsg}
use Rattle.rsvp_messages.specs.Proper.{IsProperAsk}
use Rattle.rsvp_messages.specs.Units.{ask_style, asked_units}
use Rattle.style_rules.specs.FlowOrder.{IsAtMost}
use Rattle.style_rules.specs.Merge.{PartTable}
use Rattle.style_rules.specs.Parts.{IsOfStyle}
use Rattle.laws_bounds.specs.SendLaws.{IsResvTear}
use Rattle.laws_bounds.specs.WishLaws.{GoesOn}
use Rattle.laws_bounds.proofs.Asks.{style_told, units_told}
use Rattle.laws_bounds.proofs.Ruling.{rule_in_parts}
use Rattle.laws_bounds.proofs.Tests.{ties}
use Rattle.laws_steps.specs.AcceptingLaws.{came_resv}
use Rattle.router_rules.specs.Bounds.{IsWithinBounds}
use Rattle.router_rules.specs.Facts.{Facts}
use Rattle.router_rules.specs.Inputs.{Arrival, Send, Spelt}
use Rattle.router_rules.specs.Known.{Lane, lanes}
use Rattle.router_rules.specs.NodeConfig.{NodeConfig}
use Rattle.router_rules.specs.Requests.{toward}
use Rattle.router_rules.specs.Rule.{Outcome, rule}
use Rattle.router_rules.specs.Steps.{sent_then}
use Rattle.tree_model.specs.declared.hops.LinkHop.{LinkHop}
use Rattle.tree_model.specs.Goals.{addr_of}
use Rattle.tree_model.specs.Networks.{end_at, iface_of, node_of, node_of_end}
use Rattle.tree_model.specs.Trees.{tree}
use Rattle.tree_model.specs.Wants.{want}
use Rattle.tree_model.proofs.Ifaces.{interfaces_are_ends}
use Rattle.tree_model.proofs.RankLaws.{rank_falls}
use Rattle.network_model.specs.Bounds.{IsProperArrival}
use Rattle.network_model.specs.Links.{copy_to, goes_to}
use Rattle.network_model.specs.Locals.{locals_of}
use Rattle.network_model.specs.Steps.{Deliver, outcome, rest, sent, step, still}
use Rattle.network_model.specs.Worlds.{Item, World, config_of}
use Rattle.network_model.proofs.Changing.{what_is_sent_is_copied}
use Rattle.network_model.proofs.Machines.{in_arrived}
use Rattle.network_model.proofs.NodeLocals.{live_told}
use Rattle.network_model.proofs.Stepping.{copies_made, sent_made}
use Rattle.laws_network.proofs.Known.{of_some}
use Rattle.laws_network.proofs.Standing.{own_end}
use Rattle.settle_paths.proofs.PreviousHops.{ahead, ends_there, one_previous, same_by_addr}
use Rattle.settle_resvs.specs.GoalByIface.{goal_at}
use Rattle.settle_resvs.specs.Said.{HopKey, lane_of}
use Rattle.settle_resvs.proofs.ResvSends.{over_hop}
use Rattle.settle_resvs.proofs.UnderTheGoal.{one_style}
use Rattle.settle_passes.proofs.Deliveries.{came_by_delivery, known_self, same_next}
use Rattle.settle_passes.proofs.Reserving.{turns}
use Rattle.settle_passes.proofs.Turns.{IsAskedNow, Turns, addressed_in_turn, resv_in_turn, stays_or_asked}
use Rattle.settle_confirmations.specs.Requests.{IsForAtLeast, IsOnlySender, arrival_units}
use Rattle.settle_confirmations.proofs.Keeping.{comes_over, covers, elsewhere, facts_are, lane_on, name, no_tear, of_style, then as then_there, within}
use Rattle.settle_confirmations.proofs.Moving.{IsAsking, IsConf, IsDown, IsNext, IsTakenAt, IsUp, arrived_mark, goes_down, leads_next, listed_one, one_listed, only', r', taken_at}
use Rattle.settle_confirmations.proofs.Taken.{IsAnswer, IsPassedOn, answered_or_on, asked, change, sent_kind, some_unit}

pub some_row : (t : PartTable) → (t ≡ empty → ⊥) → (k : UnitOf) × (w : Part) × (get t k ≡ Some w)
some_row t some = by t.rows refl
  where
    by : (rows : List (UnitOf × Part)) → t.rows ≡ rows → (k : UnitOf) × (w : Part) × (get t k ≡ Some w)
    by [] is = absurd (some (same_rows t empty is))
    by (z ∷ zs) is = (z.0, z.1, in_found units t z.0 z.1 (subst (λ (es : List (UnitOf × Part)). In z es) (sym is) (inl refl)))

-- ---- a request that arrives
module _ (q : ℕ) (s : Session) (st : StyleKind) (x : Sender) (e : ℕ) (u : World) (a : IsAsking q s st x e u) (y : Item) (arr : slice_get u.flight 0 ≡ Some y) (v : IsUp u s st x e y) where
  abbrev n : ℕ
  n = node_of u.net.ends y.end

  abbrev i : ℕ
  i = iface_of u.net.ends y.end

  abbrev p : NodeConfig
  p = config_of q u.net u.trees (node_of u.net.ends y.end)

  abbrev m : ResvMsg
  m = v.resv

  abbrev to_it : IsTakenAt q s st x e u a y v.resv
  to_it = taken_at q s st x e u a y arr v

  abbrev f : Facts
  f = (taken_at q s st x e u a y arr v).facts

  abbrev next : World
  next = step q (Deliver 0) u

  abbrev in_bounds : IsWithinBounds p u.clock f
  in_bounds = within q s st x e u a y arr v

  abbrev then : Facts
  then = then_there q s st x e u a y arr v

  abbrev g : Facts
  g = (outcome q (Deliver 0) u n f).facts

  -- ---- what the request makes the node send: a request of the same end over the hop before, or an answer
  pub record IsOnward (z : Item) : Type 0 where
    pub up : IsUp next s st x e z
    pub before : IsNext u.net s x up.hop v.hop
    pub least : (flow : TokenBucket) → IsForAtLeast flow y → IsForAtLeast flow z

  onward : (z : Item) (b : Bool) → In (z, b) (sent q (Deliver 0) u) → (c : Send) → z.arrival ≡ Spelt c.message
      → (o : IsPassedOn p u.clock i m f (goal_at u.net (locals_of u) n) in_bounds to_it.can (addr_of u.net e) v.wish c) → IsOnward z
  onward z b sends c arrival o =
      let net = u.net in
      let spelt : z.arrival ≡ Spelt (message.Resv o.resv) = arrival ∙ ap Spelt o.says in
      let b' = (r' q s st x e u a).paths.bounds in
      let paths' = (r' q s st x e u a).paths.sound in
      let bounds_u = a.reserving.paths.bounds in
      let t = resv_in_turn q (Deliver 0) u bounds_u (turns q s u a.reserving) z b o.resv sends spelt in
      let own_dst = addressed_in_turn q (Deliver 0) u bounds_u (turns q s u a.reserving) b' paths' z b o.resv sends spelt in
      let over = over_hop q next b' paths' z o.resv t own_dst in
      let from = ahead next t.node t.facts paths' t.after t.lane.session t.lane.hop t.by.0 t.by.1 in
      let session : o.resv.session ≡ s =
      either (eq_by_cmp sessions.cmp o.lane.session s) (λ tied. o.session ∙ tied_same sessions o.lane.session s tied)
      (λ apart. absurd (o.changed ((elsewhere q s st x e u a y arr v) o.lane (λ same. let bad : true ≡ false = sym (ties sessions o.lane.session s same) ∙ apart in cc)))) in
      let lane_session : t.lane.session ≡ s = sym t.session ∙ session in
      let live = live_told next t.lane.session t.by.0 from.live in
      let sender : t.by.0 ≡ x = subst (λ (w : Session). IsOnlySender next w x) (sym lane_session) (only' q s st x e u a) t.by.0 live.0 live.1 in
      let way : from.way ≡ over.0 = one_previous net bounds_u.net t.node t.lane.session t.lane.hop from.way over.0 from.previous over.1 in
      let there : In over.0 (tree net.hops s.group x.addr) =
      subst (λ (w : Session × Sender × LinkHop). In w.2 (tree net.hops w.0.group w.1.addr)) (λ j. (lane_session j, sender j, way j)) from.there in
      let unit = some_unit m.ask to_it.can.proper in
      let flies = in_arrived (Deliver 0) u y arr in
      let old = (a.reserving.sound.items y m unit.0 flies v.says unit.1).sound in
      let z_in : In z next.flight = in_right z (rest (Deliver 0) u) (each (λ (w : Item × Bool). w.0) (sent q (Deliver 0) u)) (to_each (λ (w : Item × Bool). w.0) (z, b) (sent q (Deliver 0) u) sends) in
      let proper_z : IsProperAsk o.resv.ask = subst IsProperArrival spelt (b'.flight z z_in).proper in
      let unit_z = some_unit o.resv.ask proper_z in
      let new = ((r' q s st x e u a).sound.items z o.resv unit_z.0 z_in spelt unit_z.1).sound in
      let style : ask_style o.resv.ask ≡ ask_style m.ask =
      one_style net (locals_of u) s a.reserving.fit (ask_style o.resv.ask) (ask_style m.ask) new.hop old.hop unit_z.0.unit unit.0.unit new.wanted old.wanted
      ((λ j. get (want (ask_style o.resv.ask) net (same_locals j) (sym session j) new.hop) unit_z.0.unit) ∙ new.is)
      (ap (λ (w : Session). get (want (ask_style m.ask) net (locals_of u) w old.hop) unit.0.unit) (sym v.session) ∙ old.is) in
      let mine = ((comes_over q s st x e u a y arr v) o.lane o.there).1 in
      let h : LinkHop = mine.way in
      let inside = ends_there net bounds_u.net o.lane.session.group h mine.previous.there in
      let end : end_at net.ends n o.lane.hop.0 ≡ Some h.to =
      (λ j. end_at net.ends (sym mine.previous.node j) (sym mine.previous.iface j)) ∙ (interfaces_are_ends net).end_of_iface h.to inside.1 in
      let of = (interfaces_are_ends net).iface_of_end t.node t.lane.hop.0 t.end t.at in
      let same_ends : t.end ≡ h.to =
      same_by_addr net bounds_u.net t.end h.to of.0 inside.1 (sym t.hop ∙ o.hop ∙ own_end q net u.trees n o.lane.hop.0 h.to end) in
      let node : node_of net.ends over.0.to ≡ n = ap (node_of net.ends) (over.3 ∙ same_ends) ∙ mine.previous.node in
      let next_one : IsNext net s x over.0 v.hop =
      record {
        there = v.there;
        meet = ap (node_of net.ends) v.from ∙ sym node;
        lower = (rank_falls net bounds_u.net.loop_free).falls s.group over.0 v.hop (record { source = x.addr; first = there; second = v.there; meet = ap (node_of net.ends) v.from ∙ sym node });
      } in
      record {
        up = record {
          resv = o.resv;
          says = spelt;
          session = session;
          style = style ∙ v.style;
          wish = o.mark;
          hop = over.0;
          there = there;
          from = over.2;
          to = ap (addr_of net) over.3 ∙ sym t.hop;
          hops = v.hop ∷ v.hops;
          leads = (next_one, arrived_mark q s st x e u a y arr v, leads_next q s st x e u a v.hops v.hop v.leads);
        };
        before = next_one;
        least = λ flow low b i.
            let asks : In b (asked_units o.resv.ask) = subst (λ (w : Arrival). In b (arrival_units w)) spelt i in
            let lane_is : o.lane ≡ (lane_on q s st x e u a y arr v) o.lane.hop =
            (λ j. record {
              session = (sym o.session ∙ session ∙ sym v.session) j;
              style = (sym (style_told o.lane.style (toward p then o.lane) o.resv.ask o.whole) ∙ style) j;
              hop = o.lane.hop;
            }) in
            let k = (units_told o.lane.style (toward p then o.lane) o.resv.ask b ((of_style q s st x e u a y arr v) o.lane) o.whole).0 asks in
            let styled : IsOfStyle (ask_style m.ask) k.part × (part_unit (ask_style m.ask) k.part ≡ b.unit) =
            subst (λ (w : Lane). IsOfStyle w.style k.part × (part_unit w.style k.part ≡ b.unit)) lane_is ((of_style q s st x e u a y arr v) o.lane b.unit k.part k.there) in
            let sound_b = (r' q s st x e u a).sound.items z o.resv b z_in spelt asks in
            let only_b : IsOnlySender next o.resv.session x = subst (λ (w : Session). IsOnlySender next w x) (sym session) (only' q s st x e u a) in
            let same_names : sound_b.names ≡ k.part.senders = of_some sound_b.names k.part.senders (sym sound_b.named ∙ k.names) in
            let named : has k.part.senders (name q s st x e u a y arr v) ≡ true =
            subst (λ (w : Names × StyleKind). has w.0 (name_of w.1 x) ≡ true) (λ j. (same_names j, style j))
            (listed_one next o.resv.session x only_b (ask_style o.resv.ask) z.end o.resv.hop.addr b.unit (record { senders = sound_b.names; flow = b.flow }) sound_b.sound) in
            subst (λ (w : TokenBucket). IsAtMost flow w) (sym k.flow)
            ((covers q s st x e u a y arr v) o.lane.hop (subst (λ (w : Lane). has (lanes then) w ≡ true) lane_is o.there) b.unit k.part
            (subst (λ (w : Lane). get (toward p then w) b.unit ≡ Some k.part) lane_is k.there) styled.0 styled.1 named flow low);
      }
    where
      same_locals : locals_of u ≡ locals_of next
      same_locals = sym ((same_next q 0 u a.reserving.paths.bounds u (known_self q u a.reserving.paths.bounds).same).locals)

  pub new_item : (z : Item) (b : Bool) → In (z, b) (sent q (Deliver 0) u) → IsConf z ⊎ IsOnward z
  new_item z b sends =
      let c = (what_is_sent_is_copied q (Deliver 0) u (z, b)).0 sends in
      let arrival : z.arrival ≡ Spelt c.send.message = ap (λ (w : Item × Bool). w.0.arrival) c.is in
      ⊎_elim
      (λ (h : outcome q (Deliver 0) u c.node c.facts ≡ still c.facts). absurd (subst (λ (w : Outcome). In c.send w.sent) h c.sent))
      (λ (t : Turns q (Deliver 0) u c.node c.facts).
      let d = came_by_delivery q 0 u a.reserving.paths.bounds c.node t.input t.came in
      let is : d.item ≡ y = of_some d.item y (sym d.arrives ∙ arr) in
      let node : c.node ≡ n = sym d.node ∙ sym (ap node_of_end d.there) ∙ ap (λ (w : Item). node_of u.net.ends w.end) is in
      let facts : c.facts ≡ f = of_some c.facts f (sym c.there ∙ ap (λ (w : ℕ). slice_get u.nodes w) node ∙ to_it.node) in
      let by : outcome q (Deliver 0) u c.node c.facts ≡ rule p p u.clock (came_resv p i m) f = (λ j. outcome q (Deliver 0) u (node j) (facts j)) ∙ to_it.is in
      let among : In c.send (sent_then p p u.clock (came_resv p i m) f) = subst (λ (w : Outcome). In c.send w.sent) by c.sent in
      ⊎_elim
      (λ (k : IsResvTear p p f then (change p u.clock i m f (goal_at u.net (locals_of u) n) in_bounds to_it.can (addr_of u.net e) v.wish) c.send). absurd ((no_tear q s st x e u a y arr v) c.send k))
      (λ k. ⊎_elim
      (λ (h : (conf : ResvConfMsg) × (c.send.message ≡ message.ResvConf conf)). inl (h.0, arrival ∙ ap Spelt h.1))
      (λ (o : IsPassedOn p u.clock i m f (goal_at u.net (locals_of u) n) in_bounds to_it.can (addr_of u.net e) v.wish c.send). inr (onward z b sends c.send arrival o)) k)
      (sent_kind p u.clock i m f (goal_at u.net (locals_of u) n) in_bounds to_it.can (addr_of u.net e) v.wish c.send among))
      (turns q s u a.reserving c.node c.facts c.there)

  in_next : (z : Item) (b : Bool) → In (z, b) (sent q (Deliver 0) u) → In z next.flight
  in_next z b sends = in_right z (rest (Deliver 0) u) (each (λ (w : Item × Bool). w.0) (sent q (Deliver 0) u)) (to_each (λ (w : Item × Bool). w.0) (z, b) (sent q (Deliver 0) u) sends)

  -- ---- it is answered over its hop, or goes on over another one
  pub record IsAnsweredThere : Type 0 where
    pub item : Item
    pub flight : In item next.flight
    pub down : IsDown next s st x e item
    pub hop : down.hop ≡ v.hop
    pub least : (flow : TokenBucket) → IsForAtLeast flow y → IsForAtLeast flow item

  pub record GoesOnThere : Type 0 where
    pub item : Item
    pub flight : In item next.flight
    pub onward : IsOnward item

  answer_there : (z : Send) → In z (sent_then p p u.clock (came_resv p i m) f)
      → IsAnswer p u.clock i m f (goal_at u.net (locals_of u) n) in_bounds to_it.can (addr_of u.net e) v.wish z → IsAnsweredThere
  answer_there z sends k =
      let out : In z (outcome q (Deliver 0) u n f).sent = subst (λ (w : Outcome). In z w.sent) (sym to_it.is) sends in
      let down = goes_down q u a.reserving.paths.bounds s.group x.addr v.hop v.there in
      let goes : In v.hop.to (goes_to u.net (end_at u.net.ends n z.iface) z.dst) =
      subst (λ (w : ℕ × Addr). In v.hop.to (goes_to u.net (end_at u.net.ends n w.0) w.1))
      (λ j. (ap (λ (o : Send). o.iface) (sym k.is) j, (v.to ∙ ap (λ (o : Send). o.dst) (sym k.is)) j))
      (subst (λ (w : ℕ). In v.hop.to (goes_to u.net (end_at u.net.ends (node_of u.net.ends w) (iface_of u.net.ends w)) (addr_of u.net v.hop.to))) v.from down) in
      let copy : Item × Bool = copy_to u.made z v.hop.to in
      let one : In copy (sent q (Deliver 0) u) = sent_made q (Deliver 0) u n f copy to_it.node (copies_made u.net u.made n (outcome q (Deliver 0) u n f).sent z v.hop.to out goes) in
      let flies = in_arrived (Deliver 0) u y arr in
      let sound = a.reserving.sound.items y m k.unit flies v.says k.asks in
      let listed : k.listed ≡ sound.names = of_some k.listed sound.names (sym k.lists ∙ sound.named) in
      let only_m : IsOnlySender u m.session x = subst (λ (w : Session). IsOnlySender u w x) (sym v.session) a.only in
      let name = one_listed u m.session x only_m (ask_style m.ask) y.end m.hop.addr k.unit.unit (record { senders = sound.names; flow = k.unit.flow }) sound.sound k.name
      (subst (λ (w : Names). has w k.name ≡ true) listed k.named) in
      let is_name : k.name ≡ name_of st x = name.0 ∙ ap (λ (w : StyleKind). name_of w x) v.style in
      record {
        item = copy.0;
        flight = in_next copy.0 copy.1 one;
        down = record {
          conf = k.conf;
          says = ap (λ (o : Send). Spelt o.message) k.is;
          session = k.session ∙ v.session;
          style = k.style ∙ v.style;
          confirm = k.confirm;
          speaks = λ ns h. k.speaks ns (subst (λ (w : Sender). has ns w ≡ true) (sym is_name) h);
          hop = v.hop;
          there = v.there;
          end = refl;
          dst = ap (λ (o : Send). o.dst) k.is ∙ sym v.to;
          hops = v.hops;
          leads = leads_next q s st x e u a v.hops v.hop v.leads;
        };
        hop = refl;
        least = λ flow low b i.
            let b' = k.flows b (subst (λ (w : Arrival). In b (arrival_units w)) (ap (λ (o : Send). Spelt o.message) k.is) i) in
            subst (λ (w : TokenBucket). IsAtMost flow w) (sym b'.2) (low b'.0 (subst (λ (w : Arrival). In b'.0 (arrival_units w)) (sym v.says) b'.1));
      }

  on_there : GoesOn p p f then (asked p u.clock i m f (goal_at u.net (locals_of u) n) in_bounds to_it.can (addr_of u.net e) v.wish) → GoesOnThere
  on_there k =
      let l : Lane = k.lane in
      let b' = (r' q s st x e u a).paths.bounds in
      let paths' = (r' q s st x e u a).paths.sound in
      let from = ((comes_over q s st x e u a y arr v) l k.there).1 in
      let h : LinkHop = from.way in
      let there = from.previous.there in
      let row = some_row (toward p then l) k.new.some in
      let key : HopKey = record { session = l.session; style = l.style; unit = row.0; from = h.to; to = h.from } in
      let at : slice_get u.nodes (node_of u.net.ends h.to) ≡ Some f = ap (λ (w : ℕ). slice_get u.nodes w) from.previous.node ∙ to_it.node in
      let lane_is : lane_of u.net key ≡ l = (λ j. record { session = l.session; style = l.style; hop = (from.previous.iface j, from.previous.addr j) }) in
      let whole : toward (config_of q u.net u.trees (node_of u.net.ends h.to)) (outcome q (Deliver 0) u (node_of u.net.ends h.to) f).facts (lane_of u.net key) ≡ toward p then l =
      (λ j. toward (config_of q u.net u.trees (from.previous.node j)) (outcome q (Deliver 0) u (from.previous.node j) f).facts (lane_is j))
      ∙ ap (λ (w : Facts). toward p w l) (facts_are q s st x e u a y arr v) ∙ rule_in_parts.toward_same p p u.clock (came_resv p i m) f l in
      ⊎_elim
      (λ (same : toward (config_of q u.net u.trees (node_of u.net.ends h.to)) f (lane_of u.net key)
      ≡ toward (config_of q u.net u.trees (node_of u.net.ends h.to)) (outcome q (Deliver 0) u (node_of u.net.ends h.to) f).facts (lane_of u.net key)).
      absurd (k.new.changed ((λ j. toward (config_of q u.net u.trees (sym from.previous.node j)) f (sym lane_is j)) ∙ same ∙ whole)))
      (λ (now : (w : Part) → get (toward (config_of q u.net u.trees (node_of u.net.ends h.to)) (outcome q (Deliver 0) u (node_of u.net.ends h.to) f).facts (lane_of u.net key)) key.unit ≡ Some w
      → IsAskedNow q (Deliver 0) u a.reserving.paths.bounds (turns q s u a.reserving) b' paths' key there w).
      let o = now row.1 (ap (λ (w : PartTable). get w row.0) whole ∙ row.2) in
      let sends = in_each (λ (w : Item × Bool). w.0) o.item (sent q (Deliver 0) u) o.new in
      let among : In (o.item, sends.0.1) (sent q (Deliver 0) u) = subst (λ (w : Item). In (w, sends.0.1) (sent q (Deliver 0) u)) (sym sends.2) sends.1 in
      ⊎_elim (λ (c : IsConf o.item). let bad : Spelt (message.ResvConf c.0) ≡ Spelt (message.Resv o.says.resv) = sym c.1 ∙ o.says.spelt in absurd (cc))
      (λ (w : IsOnward o.item). record { item = o.item; flight = in_next o.item sends.0.1 among; onward = w })
      (new_item o.item sends.0.1 among))
      (stays_or_asked q (Deliver 0) u a.reserving.paths.bounds (turns q s u a.reserving) b' paths' key there f at)

  pub up_moves : IsAnsweredThere ⊎ GoesOnThere
  up_moves =
      ⊎_elim (λ (k : (z : Send) × In z (sent_then p p u.clock (came_resv p i m) f) × IsAnswer p u.clock i m f (goal_at u.net (locals_of u) n) in_bounds to_it.can (addr_of u.net e) v.wish z).
      inl (answer_there k.0 k.1 k.2))
      (λ (k : GoesOn p p f then (asked p u.clock i m f (goal_at u.net (locals_of u) n) in_bounds to_it.can (addr_of u.net e) v.wish)). inr (on_there k))
      (answered_or_on p u.clock i m f (goal_at u.net (locals_of u) n) in_bounds to_it.can (addr_of u.net e) v.wish)
