-- A receiver asks for several senders with a fixed filter, and for a confirmation: what its node sends are requests of the end by which their paths come.
use Rattle.std.proofs.Common.{◌≡◌, ℕ, ◌+◌, ◌*◌, List, [], ◌∷◌, Bool, true, false, Option, None, Some, ◌⊎◌, inl, inr, ⊎_elim, sym, refl, ap, subst, ◌∙◌}
use Rattle.std.specs.Prelude.{slice_get, is_some, map as each}
use Rattle.rsvp_base.specs.declared.part.Part.{Part}
use Rattle.rsvp_base.specs.declared.session.Sender.{Sender}
use Rattle.rsvp_base.specs.declared.session.Session.{Session}
use Rattle.rsvp_base.specs.declared.style.StyleKind.TheVariants.{Fixed}
use Rattle.rsvp_base.specs.declared.style.Unit.{Unit as UnitOf}
use Rattle.rsvp_base.specs.declared.style.Unit.TheVariants.{Of}
use Rattle.rsvp_base.specs.Members.{In}
use Rattle.rsvp_base.specs.Orders.{Names, units}
use Rattle.rsvp_base.specs.Table.{get, has, keys}
use Rattle.rsvp_base.specs.TokenBucket.{IsSound, TokenBucket}
use Rattle.rsvp_base.proofs.Counts.{found_in, in_found}
use Rattle.rsvp_base.proofs.Members.{in_append, in_each, in_left, in_right}
use Rattle.rsvp_base.proofs.Tables.{same_table}
use Rattle.rsvp_messages.specs.declared.message.Message.TheVariants as message
use Rattle.rsvp_messages.specs.Units.{only}
use Rattle.style_rules.specs.Lines.{LineKey}
use Rattle.style_rules.specs.Merge.{PartTable}
use Rattle.style_rules.proofs.StyleLaws.{in_named}
use Rattle.calm_rounds.specs.Machine.{Happens}
use Rattle.laws_bounds.specs.FactLaws.{ComesBy}
use Rattle.laws_bounds.specs.SendLaws.{ArePartsOf}
use Rattle.laws_bounds.proofs.Asks.{style_told}
use Rattle.laws_bounds.proofs.Ruling.{rule_in_parts}
use Rattle.router_rules.specs.Asking.{ask_of}
use Rattle.router_rules.specs.Calls.{wanted}
use Rattle.router_rules.specs.Facts.{Facts, Want, WantKey, resvs_of}
use Rattle.router_rules.specs.Inputs.{Call, Local, Send, Spelt, WantAs}
use Rattle.router_rules.specs.Known.{Lane}
use Rattle.router_rules.specs.NodeConfig.{NodeConfig, own}
use Rattle.router_rules.specs.Requests.{toward}
use Rattle.router_rules.specs.Rule.{Outcome, rule}
use Rattle.router_rules.specs.Steps.{IsFitList, sent_then}
use Rattle.tree_model.specs.declared.hops.LinkHop.{LinkHop}
use Rattle.tree_model.specs.Goals.{DemandsFit, addr_of}
use Rattle.tree_model.specs.Networks.{node_of}
use Rattle.tree_model.specs.Ranks.{longest}
use Rattle.tree_model.specs.Trees.{hops_of, tree}
use Rattle.tree_model.specs.Wants.{live}
use Rattle.network_model.specs.Bounds.{AreBounds, AreHosts}
use Rattle.network_model.specs.Events.{passes}
use Rattle.network_model.specs.Locals.{locals_of}
use Rattle.network_model.specs.Steps.{At, machine, ms_of, outcome, sent, still}
use Rattle.network_model.specs.Worlds.{Item, World, config_of}
use Rattle.network_model.proofs.Changing.{what_is_sent_is_copied}
use Rattle.network_model.proofs.NodeLocals.{live_told}
use Rattle.network_model.proofs.Stepping.{facts_after_made}
use Rattle.settle_paths.specs.PreviousHops.{IsAhead, IsPrevious}
use Rattle.settle_paths.proofs.PreviousHops.{ahead}
use Rattle.settle_resvs.specs.Said.{HopKey, lane_of, resv_key}
use Rattle.settle_resvs.specs.SoftResvs.{SaysResv, line_key_of}
use Rattle.settle_resvs.proofs.GoalByIface.{each_fits}
use Rattle.settle_resvs.proofs.SoftResvs.{resv_found, resv_made}
use Rattle.settle_resvs.proofs.TowardNames.{parts_of_style}
use Rattle.settle_network.specs.Settled.{HasSettled}
use Rattle.settle_passes.specs.Reserving.{AllAsk, AsksNoLess, IsAskedLast, IsKeptOver, IsReserving, after_want}
use Rattle.settle_passes.proofs.Serving.{begins, settled_is_reserved}
use Rattle.settle_passes.proofs.Turns.{all_ask}
use Rattle.settle_passes.proofs.Wanting.{a_receiver_is_set_up}
use Rattle.settle_passes.proofs.Called.{IsCalled, called, turns}
use Rattle.settle_confirmations.specs.Requests.{ComeByOneEnd, IsAnsweredForOne}
use Rattle.settle_confirmations.proofs.Calling.{IsAskedNow, IsAskedUnit, after, asked_or_same, at_then, covers_unit, facts_are, goes_on_to, live_before, only_asked, resv_same}
use Rattle.settle_confirmations.proofs.Choosing.{answered_for_one}
use Rattle.settle_confirmations.proofs.Leading.{IsLed, IsRising, IsUpFor, StandsOver, key_of}
use Rattle.settle_confirmations.proofs.Saying.{fixed_unit_of, goes_says, lives as lives_over, says_goes, to as to_over}

-- the wants of a fixed filter are of the call's names
of_names : (s : Session) (names : Names) (flow : TokenBucket) (mark : Bool) (x : Sender) (y : Want) → In ((s, Of x), y) (wanted s Fixed names flow mark) → has names x ≡ true
of_names s names flow mark x y i =
    let r = in_each (λ (z : Sender). ((s, Of z), record { style = Fixed; part = record { senders = only z; flow = flow }; confirm = mark })) ((s, Of x), y) (keys names) i in
    let is : Of x ≡ Of r.0 = ap (λ (z : WantKey × Want). z.0.1) r.2 in
    let same : x ≡ r.0 = cc in
    subst (λ (z : Sender). has names z ≡ true) (sym same) (in_named (record { senders = names; flow = flow }) r.0 r.1)

module _ (q n : ℕ) (s : Session) (names : Names) (flow : TokenBucket) (e : ℕ) (w : World) (r : (c : Session) → IsReserving q c w)
    (r' : (c : Session) → IsReserving q c (after_want q n s Fixed names flow true w)) (no_less : AsksNoLess w n s Fixed names flow true) (quiet : w.flight ≡ [])
    (one_end : ComeByOneEnd w n s names e) where
  abbrev call : Local
  call = WantAs s Fixed names flow true

  abbrev asked : World
  asked = after_want q n s Fixed names flow true w

  abbrev p : NodeConfig
  p = config_of q w.net w.trees n

  abbrev news : List Item
  news = each (λ (o : Item × Bool). o.0) (sent q (At n call) w)

  -- ---- what stands behind a hop stays
  kept_then : (k : HopKey) (v : Part) → IsKeptOver w k v → IsKeptOver asked k v
  kept_then k v c =
      let m : ℕ = node_of w.net.ends k.to in
      let key : LineKey = line_key_of w.net (resv_key w.net k) in
      let d = resv_found w m k.style key c.resv c.there in
      let same : get (resvs_of k.style (outcome q (At n call) w m d.0).facts) key ≡ Some c.resv =
      ⊎_elim (λ (h : outcome q (At n call) w m d.0 ≡ still d.0). ap (λ (o : Outcome). get (resvs_of k.style o.facts) key) h ∙ d.2)
      (λ (h : IsCalled q w n call m d.0).
      let at : slice_get w.nodes n ≡ Some d.0 = ap (slice_get w.nodes) h.node ∙ d.1 in
      (λ j. get (resvs_of k.style (outcome q (At n call) w (sym h.node j) d.0).facts) key)
      ∙ ap (λ (o : Facts). get (resvs_of k.style o) key) (facts_are q n s Fixed names flow w r r' no_less d.0 at) ∙ resv_same q n s Fixed names flow w r r' no_less d.0 at k.style key ∙ d.2)
      (called q w n call m d.0) in
      record { resv = c.resv; there = resv_made asked m k.style key (outcome q (At n call) w m d.0).facts (facts_after_made q (At n call) w m d.0 d.1) ∙ same; is = c.is }

  -- ---- an item that its node sends for the call
  record IsOfCall (z : Item) : Type 0 where
    facts : Facts
    at : slice_get w.nodes n ≡ Some facts
    send : Send
    arrival : z.arrival ≡ Spelt send.message
    dst : z.dst ≡ send.dst
    asks : IsAskedNow q n s Fixed names flow w r r' no_less facts at send

  of_call : (z : Item) → In z asked.flight → IsOfCall z
  of_call z i =
      ⊎_elim (λ (old : In z w.flight). absurd (subst (λ (zs : List Item). In z zs) quiet old))
      (λ (new : In z news).
      let t = in_each (λ (o : Item × Bool). o.0) z (sent q (At n call) w) new in
      let k = (what_is_sent_is_copied q (At n call) w (z, t.0.1)).0 (subst (λ (o : Item). In (o, t.0.1) (sent q (At n call) w)) (sym t.2) t.1) in
      ⊎_elim
      (λ (h : outcome q (At n call) w k.node k.facts ≡ still k.facts). absurd (subst (λ (o : Outcome). In k.send o.sent) h k.sent))
      (λ (h : IsCalled q w n call k.node k.facts).
      let at : slice_get w.nodes n ≡ Some k.facts = ap (slice_get w.nodes) h.node ∙ k.there in
      let by : outcome q (At n call) w k.node k.facts ≡ rule p p (w.clock + ms_of (At n call)) (Call call) k.facts =
      h.is ∙ ap (λ (o : ℕ). rule (config_of q w.net w.trees o) (config_of q w.net w.trees o) (w.clock + ms_of (At n call)) (Call call) k.facts) (sym h.node) in
      let among : In k.send (sent_then p p (w.clock + ms_of (At n call)) (Call call) k.facts) = subst (λ (o : Outcome). In k.send o.sent) by k.sent in
      record {
        facts = k.facts;
        at = at;
        send = k.send;
        arrival = ap (λ (o : Item × Bool). o.0.arrival) k.is;
        dst = ap (λ (o : Item × Bool). o.0.dst) k.is;
        asks = only_asked q n s Fixed names flow w r r' no_less k.facts at k.send among;
      })
      (called q w n call k.node k.facts))
      (in_append z w.flight news i)

  module _ (z : Item) (flies : In z asked.flight) (c : IsOfCall z) where
    abbrev f : Facts
    f = c.facts

    abbrev then : Facts
    then = after q n s Fixed names flow w r r' no_less c.facts c.at

    abbrev lane_on : Lane
    lane_on = record { session = s; style = Fixed; hop = c.asks.lane.hop }

    abbrev whole : PartTable
    whole = toward p then lane_on

    spelt : z.arrival ≡ Spelt (message.Resv c.asks.resv)
    spelt = c.arrival ∙ ap Spelt c.asks.says

    lane_is : c.asks.lane ≡ lane_on
    lane_is = λ j. record {
      session = c.asks.session j;
      style = (sym (style_told c.asks.lane.style (toward p then c.asks.lane) c.asks.resv.ask c.asks.whole) ∙ c.asks.style) j;
      hop = c.asks.lane.hop;
    }

    asks_whole : ask_of Fixed whole ≡ Some c.asks.resv.ask
    asks_whole = (λ j. ask_of (sym lane_is j).style (toward p then (sym lane_is j))) ∙ c.asks.whole

    are_parts : ArePartsOf Fixed whole
    are_parts =
        subst (λ (o : PartTable). ArePartsOf Fixed o)
        (ap (λ (o : Facts). toward p o lane_on) (facts_are q n s Fixed names flow w r r' no_less f c.at) ∙ rule_in_parts.toward_same p p (w.clock + ms_of (At n call)) (Call call) f lane_on)
        (parts_of_style p asked.clock (outcome q (At n call) w n f).facts
        ((r' s).paths.bounds.facts n (outcome q (At n call) w n f).facts (at_then q n s Fixed names flow w r r' no_less f c.at)) lane_on)

    -- over the hop by which the paths come
    ahead_of : IsAhead asked n c.asks.lane.session c.asks.lane.hop c.asks.there.0
    ahead_of =
        let g : Facts = (outcome q (At n call) w n f).facts in
        let comes : ComesBy g c.asks.lane.session c.asks.lane.hop c.asks.there.0 =
        record {
          path = c.asks.there.1.path;
          there = ap (λ (o : Facts). get o.paths (c.asks.lane.session, c.asks.there.0)) (facts_are q n s Fixed names flow w r r' no_less f c.at) ∙ c.asks.there.1.there;
          by = c.asks.there.1.by;
        } in
        ahead asked n g (r' s).paths.sound (at_then q n s Fixed names flow w r r' no_less f c.at) c.asks.lane.session c.asks.lane.hop c.asks.there.0 comes

    abbrev h : LinkHop
    h = ahead_of.way

    previous : IsPrevious w.net n s c.asks.lane.hop h
    previous = subst (λ (o : Session). IsPrevious w.net n o c.asks.lane.hop h) c.asks.session ahead_of.previous

    to_hop : z.dst ≡ c.asks.lane.hop.1
    to_hop = c.dst ∙ c.asks.dst

    lane_over : (x : Sender) → lane_of w.net (key_of s x h) ≡ lane_on
    lane_over x = λ j. record { session = s; style = Fixed; hop = (previous.iface j, previous.addr j) }

    lives : (x : Sender) (d : Part) → get whole (Of x) ≡ Some d → In x (live (locals_of asked) s) × In h (tree w.net.hops s.group x.addr)
    lives x d goes = lives_over q s asked (r' s) z flies c.asks.resv spelt c.asks.of_session n c.asks.lane.hop h previous to_hop c.asks.hop whole are_parts asks_whole x d goes

    -- ---- of a sender of the call it asks for no less than the call, over a hop into the end
    into_end : (x : Sender) (d : Part) → get whole (Of x) ≡ Some d → IsAskedUnit q n s Fixed names flow w r r' no_less f c.at lane_on (Of x) → h.to ≡ e
    into_end x d goes k =
        let alive = live_told asked s x (lives x d goes).0 in
        one_end x alive.0 h (of_names s names flow true x k.want k.new) (live_before q n s Fixed names flow w r r' no_less x alive.0 alive.1) (lives x d goes).1 previous.node

    led_then : (x : Sender) (d : Part) → get whole (Of x) ≡ Some d → IsAskedUnit q n s Fixed names flow w r r' no_less f c.at lane_on (Of x) → IsLed asked s names flow e x h d.flow
    led_then x d goes k = record {
      among = of_names s names flow true x k.want k.new;
      there = (lives x d goes).1;
      covers = covers_unit q n s Fixed names flow w r r' no_less f c.at lane_on (Of x) k d goes;
      hops = [];
      leads = into_end x d goes k;
    }

    -- and of another one it asks for what stands already
    stands_then : (x : Sender) (d : Part) → get whole (Of x) ≡ Some d → get (toward p f lane_on) (Of x) ≡ get whole (Of x) → StandsOver asked s x h d asked.flight
    stands_then x d goes same =
        let k : HopKey = key_of s x h in
        let g : Facts = (outcome q (At n call) w n f).facts in
        let at_hop : slice_get w.nodes (node_of w.net.ends h.to) ≡ Some f = ap (slice_get w.nodes) previous.node ∙ c.at in
        let before : get (toward (config_of q w.net w.trees (node_of w.net.ends h.to)) f (lane_of w.net k)) (Of x) ≡ Some d =
        (λ j. get (toward (config_of q w.net w.trees (previous.node j)) f (lane_over x j)) (Of x)) ∙ same ∙ goes in
        let at_g : slice_get asked.nodes (node_of w.net.ends h.to) ≡ Some g = ap (slice_get asked.nodes) previous.node ∙ at_then q n s Fixed names flow w r r' no_less f c.at in
        let behind : get (toward (config_of q w.net w.trees (node_of w.net.ends h.to)) g (lane_of w.net k)) (Of x) ≡ Some d =
        (λ j. get (toward (config_of q w.net w.trees (previous.node j)) g (lane_over x j)) (Of x))
        ∙ ap (λ (o : PartTable). get o (Of x))
        (ap (λ (o : Facts). toward p o lane_on) (facts_are q n s Fixed names flow w r r' no_less f c.at) ∙ rule_in_parts.toward_same p p (w.clock + ms_of (At n call)) (Call call) f lane_on) ∙ goes in
        ⊎_elim
        (λ (t : IsKeptOver w k d × AllAsk w.net k d w.flight). (
          kept_then k d t.0,
          λ y i l.
              ⊎_elim (λ (old : In y w.flight). absurd (subst (λ (zs : List Item). In y zs) quiet old))
              (λ (new : In y news).
              let o = in_each (λ (o : Item × Bool). o.0) y (sent q (At n call) w) new in
              all_ask q (At n call) w (r s).paths.bounds (turns q n call w) (r' s).paths.bounds (r' s).paths.sound k previous.there g at_g d behind y o.0.1
              (subst (λ (b : Item). In (b, o.0.1) (sent q (At n call) w)) (sym o.2) o.1) l)
              (in_append y w.flight news i),
        ))
        (λ (last : IsAskedLast w.net k d w.flight). absurd (subst (λ (zs : List Item). IsAskedLast w.net k d zs) quiet last))
        ((r s).asked k d f refl previous.there at_hop before)

    units_then : (x : Sender) (k : LinkHop) (d : Part) → In k (hops_of w.net.hops s.group) → SaysResv w.net (resv_key w.net (key_of s x k)) z d
        → IsLed asked s names flow e x k d.flow ⊎ StandsOver asked s x k d asked.flight
    units_then x k d hop says =
        let o = says_goes q s asked (r' s) z flies c.asks.resv spelt c.asks.of_session n c.asks.lane.hop h previous to_hop c.asks.hop whole are_parts asks_whole x k d hop says in
        subst (λ (t : LinkHop). IsLed asked s names flow e x t d.flow ⊎ StandsOver asked s x t d asked.flight) (sym o.0)
        (⊎_elim (λ (new : IsAskedUnit q n s Fixed names flow w r r' no_less f c.at lane_on (Of x)). inl (led_then x d o.1 new))
        (λ (same : get (toward p f lane_on) (Of x) ≡ get whole (Of x)). inr (stands_then x d o.1 same))
        (asked_or_same q n s Fixed names flow w r r' no_less f c.at lane_on (Of x)))

    -- ---- a sender of the call is among them, since else nothing would be sent
    record IsAskedThere : Type 0 where
      sender : Sender
      part : Part
      goes : get whole (Of sender) ≡ Some part
      new : IsAskedUnit q n s Fixed names flow w r r' no_less f c.at lane_on (Of sender)

    abbrev AllSame : List (UnitOf × Part) → Type 0
    AllSame rows = (un : UnitOf) (d : Part) → In (un, d) rows → get (toward p f lane_on) un ≡ get whole un

    asked_among : (rows : List (UnitOf × Part)) → ((row : UnitOf × Part) → In row rows → In row whole.rows) → IsAskedThere ⊎ AllSame rows
    asked_among [] all = inr (λ un d j. absurd j)
    asked_among (row ∷ rows) all =
        let goes : get whole row.0 ≡ Some row.1 = in_found units whole row.0 row.1 (all row (inl refl)) in
        let fixed = are_parts row.0 row.1 goes in
        let x = fixed_unit_of row.1 row.0 fixed.0 fixed.1 in
        ⊎_elim
        (λ (k : IsAskedUnit q n s Fixed names flow w r r' no_less f c.at lane_on row.0).
        inl (record { sender = x.0; part = row.1; goes = ap (get whole) (sym x.1) ∙ goes; new = subst (λ (un : UnitOf). IsAskedUnit q n s Fixed names flow w r r' no_less f c.at lane_on un) x.1 k }))
        (λ (same : get (toward p f lane_on) row.0 ≡ get whole row.0).
        ⊎_elim (λ (k : IsAskedThere). inl k)
        (λ (k : AllSame rows). inr (λ un d j.
        ⊎_elim (λ (is : (un, d) ≡ row). subst (λ (o : UnitOf × Part). get (toward p f lane_on) o.0 ≡ get whole o.0) (sym is) same) (λ (l : In (un, d) rows). k un d l) j))
        (asked_among rows (λ o j. all o (inr j))))
        (asked_or_same q n s Fixed names flow w r r' no_less f c.at lane_on row.0)

    asked_there : IsAskedThere
    asked_there =
        ⊎_elim (λ (k : IsAskedThere). k) (λ (all : AllSame whole.rows). absurd (c.asks.changed (ap (toward p f) lane_is ∙ same all ∙ ap (toward p then) (sym lane_is))))
        (asked_among whole.rows (λ row j. j))
      where
        same : AllSame whole.rows → toward p f lane_on ≡ whole
        same all = same_table units (toward p f lane_on) whole (λ un. by un (get whole un) refl (get (toward p f lane_on) un) refl)
          where
            by : (un : UnitOf) (d : Option Part) → get whole un ≡ d → (o : Option Part) → get (toward p f lane_on) un ≡ o → get (toward p f lane_on) un ≡ get whole un
            by un (Some d) goes o was = all un d (found_in units whole un d goes)
            by un None goes None was = was ∙ sym goes
            by un None goes (Some o) was =
                let on = goes_on_to q n s Fixed names flow w r r' no_less f c.at lane_on un (ap is_some was) in
                let bad : false ≡ true = sym (ap is_some goes) ∙ on in
                absurd (cc)

    up_then : IsUpFor asked s names flow e z
    up_then =
        let k = asked_there in
        let end : own p c.asks.lane.hop.0 ≡ addr_of w.net e =
        sym c.asks.hop ∙ to_over q s asked (r' s) z flies c.asks.resv spelt c.asks.of_session n c.asks.lane.hop h previous to_hop c.asks.hop whole are_parts asks_whole
        ∙ ap (addr_of w.net) (into_end k.sender k.part k.goes k.new) in
        record {
          sender = k.sender;
          hop = h;
          part = k.part;
          says = goes_says q s asked (r' s) z flies c.asks.resv spelt c.asks.of_session n c.asks.lane.hop h previous to_hop c.asks.hop whole are_parts asks_whole k.sender k.part k.goes;
          wish = c.asks.wish ∙ ap Some end;
          led = led_then k.sender k.part k.goes k.new;
        }

  rising_then : IsRising q s names flow e asked
  rising_then = record {
    reserving = r' s;
    each = λ z i. inl (up_then z i (of_call z i));
    climbs = λ x h xs zs z v hop is says.
        let flies : In z asked.flight = subst (λ (ys : List Item). In z ys) (sym is) (in_right z xs (z ∷ zs) (inl refl)) in
        ⊎_elim (λ (l : IsLed asked s names flow e x h v.flow). inl l)
        (λ (c : StandsOver asked s x h v asked.flight).
        inr (c.0, λ y j l. c.1 y (subst (λ (ys : List Item). In y ys) (sym is) (in_left y xs (z ∷ zs) j)) l))
        (units_then z flies (of_call z flies) x h v hop says);
  }

  pub answered_then : (y : Item) → In y asked.flight → Happens (machine q) (IsAnsweredForOne s names flow e) (passes q (2 * longest w.net) asked) asked
  answered_then y i = answered_for_one q s names flow e asked rising_then y i (up_then y i (of_call y i))

-- ---- in a settled network
pub a_fixed_filter_is_answered : (q n : ℕ) (s : Session) (names : Names) (flow : TokenBucket) (e : ℕ) (w : World) → AreBounds q w → AreHosts w → HasSettled q w → w.flight ≡ []
    → ComeByOneEnd w n s names e → IsFitList Fixed names → IsSound flow → AsksNoLess w n s Fixed names flow true → DemandsFit w.net (locals_of (after_want q n s Fixed names flow true w))
    → (y : Item) → In y (after_want q n s Fixed names flow true w).flight
    → Happens (machine q) (IsAnsweredForOne s names flow e) (passes q (2 * longest w.net) (after_want q n s Fixed names flow true w)) (after_want q n s Fixed names flow true w)
a_fixed_filter_is_answered q n s names flow e w bounds hosts settled quiet one_end list sound no_less fit y i =
    let start = begins q n s Fixed names flow true w bounds hosts settled quiet list sound no_less fit in
    let r : (c : Session) → IsReserving q c w = settled_is_reserved q w start settled quiet in
    let r' : (c : Session) → IsReserving q c (after_want q n s Fixed names flow true w) =
    (λ c. (a_receiver_is_set_up q n c s Fixed names flow true w (r c) list sound no_less (each_fits w.net (locals_of (after_want q n s Fixed names flow true w)) fit c)).0) in
    answered_then q n s names flow e w r r' no_less quiet one_end y i
