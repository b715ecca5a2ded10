-- One delivery: an answer goes on down, until it comes to the end that asked.
use Rattle.std.proofs.Common.{◌≡◌, ℕ, ◌+◌, ◌<◌, ◌≤◌, List, [], ◌∷◌, ◌++◌, length, Bool, true, false, Option, None, Some, ◌⊎◌, inl, inr, ⊎_elim, arith, sym, refl, ap, subst, ◌∙◌}
use Rattle.std.specs.Prelude.{slice_get, map as each}
use Rattle.rsvp_base.specs.declared.addr.Addr.{Addr}
use Rattle.rsvp_base.specs.declared.iface.Iface.{Iface}
use Rattle.rsvp_base.specs.declared.session.Sender.{Sender}
use Rattle.rsvp_base.specs.declared.session.Session.{Session}
use Rattle.rsvp_base.specs.declared.style.StyleKind.{StyleKind}
use Rattle.rsvp_base.specs.declared.style.Unit.{Unit as UnitOf}
use Rattle.rsvp_base.specs.Members.{In}
use Rattle.rsvp_base.specs.Table.{get}
use Rattle.rsvp_base.specs.TokenBucket.{TokenBucket}
use Rattle.rsvp_base.proofs.Members.{in_any, in_each, in_left, in_right, to_each}
use Rattle.rsvp_base.proofs.Tables.{either}
use Rattle.rsvp_messages.specs.declared.message.Message.TheVariants as message
use Rattle.rsvp_messages.specs.declared.message.ResvConfMsg.{ResvConfMsg}
use Rattle.rsvp_messages.specs.Units.{ask_style}
use Rattle.laws_bounds.specs.MessageLaws.{IsConfOn}
use Rattle.laws_bounds.proofs.Quiet.{steps_without_change}
use Rattle.laws_bounds.proofs.Receiving.{confirmations_by_wish}
use Rattle.laws_bounds.proofs.Tests.{addr_tested, addr_told}
use Rattle.laws_steps.proofs.Speaking.{send_made}
use Rattle.router_rules.specs.declared.answers.Heard.{Heard}
use Rattle.router_rules.specs.declared.answers.Heard.TheVariants as heard
use Rattle.router_rules.specs.declared.answers.Why.TheVariants as why
use Rattle.router_rules.specs.Act.{act, act_spelt, is_mine}
use Rattle.router_rules.specs.Bounds.{IsWithinBounds}
use Rattle.router_rules.specs.Confirming.{confs_heard, confs_on, is_wish, speaks_of}
use Rattle.router_rules.specs.Facts.{Facts, ResvState, resvs_of}
use Rattle.router_rules.specs.Inputs.{Arrival, Change, Came, ConfSend, Input, Send, Spelt, in_order, only_heard}
use Rattle.router_rules.specs.NodeConfig.{NodeConfig, is_addr, is_own, own}
use Rattle.router_rules.specs.Rule.{Outcome, rule}
use Rattle.router_rules.specs.Sends.{conf_send, conf_sends, error_sends}
use Rattle.router_rules.specs.Steps.{sent_then}
use Rattle.style_rules.specs.Lines.{next_hops}
use Rattle.tree_model.specs.declared.hops.End.{End}
use Rattle.tree_model.specs.declared.hops.LinkHop.{LinkHop}
use Rattle.tree_model.specs.Goals.{addr_of, addr_of_end}
use Rattle.tree_model.specs.Networks.{Net, end_at, ends_of, iface_of, node_of}
use Rattle.tree_model.specs.Ranks.{rank}
use Rattle.tree_model.specs.Trees.{tree}
use Rattle.tree_model.specs.Valid.{IsValid}
use Rattle.tree_model.proofs.Ifaces.{interfaces_are_ends}
use Rattle.tree_model.proofs.TreeLaws.{one}
use Rattle.network_model.specs.Links.{copy_to, goes_to}
use Rattle.network_model.specs.Steps.{Deliver, input_at, outcome, rest, sent, step, still}
use Rattle.network_model.specs.Worlds.{Item, World, config_of, ifaces_at, with_iface}
use Rattle.network_model.proofs.Changing.{what_is_sent_is_copied}
use Rattle.network_model.proofs.Machines.{in_arrived, in_flight_after}
use Rattle.network_model.proofs.Quiet.{outcome_by}
use Rattle.network_model.proofs.Stepping.{copies_made, sent_made}
use Rattle.laws_network.proofs.Known.{came_there, node_there, of_some}
use Rattle.laws_network.proofs.Standing.{own_end, place_in, some_at, to_there}
use Rattle.settle_resvs.specs.SoftResvs.{resv_at}
use Rattle.settle_resvs.proofs.SoftResvs.{resv_found}
use Rattle.settle_passes.specs.Reserving.{IsReserving}
use Rattle.settle_passes.proofs.Deliveries.{came_by_delivery, known_self}
use Rattle.settle_passes.proofs.Reserving.{turns}
use Rattle.settle_passes.proofs.Turns.{Turns}
use Rattle.settle_confirmations.specs.Requests.{IsAnswered, IsForAtLeast, arrival_units}
use Rattle.settle_confirmations.proofs.Answering.{IsOnward, new_item}
use Rattle.settle_confirmations.proofs.Moving.{IsAsking, IsConf, IsDown, IsMarked, IsNext, IsUp, Leads, goes_down, leads_next, listed_one, only', r', up_next}

-- ---- an address of a node is that of one of its ends
iface_told : (ends : List End) (es : List ℕ) (on : Iface) → In on (ifaces_at ends es) → (e : ℕ) × (x : End) × In e es × (slice_get ends e ≡ Some x) × (on ≡ x.iface)
iface_told ends [] on i = absurd i
iface_told ends (d ∷ es) on i = by (slice_get ends d) refl i (λ j. iface_told ends es on j)
  where
    by : (o : Option End) → slice_get ends d ≡ o → In on (with_iface o (ifaces_at ends es)) → (In on (ifaces_at ends es) → (e : ℕ) × (x : End) × In e es × (slice_get ends e ≡ Some x) × (on ≡ x.iface))
        → (e : ℕ) × (x : End) × In e (d ∷ es) × (slice_get ends e ≡ Some x) × (on ≡ x.iface)
    by None a j rest = let r = rest j in (r.0, r.1, inr r.2, r.3, r.4)
    by (Some x) a j rest = ⊎_elim (λ (same : on ≡ x.iface). (d, x, inl refl, a, same)) (λ (k : In on (ifaces_at ends es)). let r = rest k in (r.0, r.1, inr r.2, r.3, r.4)) j

pub own_node : (q : ℕ) (net : Net) (trees : List (Addr × Addr)) (n e : ℕ) → IsValid net → e < length net.ends → is_own (config_of q net trees n) (addr_of net e) ≡ true → node_of net.ends e ≡ n
own_node q net trees n e valid lt own =
    let on = in_any (λ (i : Iface). is_addr i.addr (addr_of net e)) (config_of q net trees n).ifaces own in
    let d = iface_told net.ends (ends_of net.ends n) on.0 on.1 in
    let k = place_in d.0 (ends_of net.ends n) d.2 in
    let of = (interfaces_are_ends net).iface_of_end n k.0 d.0 k.1 in
    let x = some_at net.ends e lt in
    let addr : d.1.iface.addr ≡ x.0.iface.addr = ap (λ (z : Iface). z.addr) (sym d.4) ∙ addr_told on.0.addr (addr_of net e) on.2 ∙ ap addr_of_end x.1 in
    ap (node_of net.ends) (sym (valid.one_address d.0 e d.1 x.0 d.3 x.1 addr)) ∙ of.1

-- ---- a ResvConf changes nothing, and only ResvConfs are sent for it
conf_act : (p : NodeConfig) (c i : ℕ) (f : Facts) (m : ResvConfMsg) (mine : Bool)
    → (h : Heard) × (cs : List ConfSend) × (act_spelt p c i (message.ResvConf m) mine f ≡ record (only_heard h f) { errors = []; confs = cs })
conf_act p c i f m false = (heard.Dropped why.NotMine, [], refl)
conf_act p c i f m true = ((confs_heard (is_own p m.confirm) (confs_on m f)).1, (confs_heard (is_own p m.confirm) (confs_on m f)).0, refl)

module _ (q : ℕ) (s : Session) (u : World) (r : IsReserving q s u) where
  -- what a ResvConf that is delivered makes of a node
  conf_rule : (y : Item) → slice_get u.flight 0 ≡ Some y → (k : IsConf y) → (n : ℕ) (f : Facts) → slice_get u.nodes n ≡ Some f → Turns q (Deliver 0) u n f
      → (h : Heard) × (cs : List ConfSend) × (outcome q (Deliver 0) u n f ≡ record { facts = f; sent = error_sends [] ++ conf_sends cs; heard = h })
  conf_rule y arr k n f at t =
      let d = came_by_delivery q 0 u r.paths.bounds n t.input t.came in
      let is : d.item ≡ y = of_some d.item y (sym d.arrives ∙ arr) in
      let p : NodeConfig = config_of q u.net u.trees n in
      let i : ℕ = iface_of u.net.ends d.item.end in
      let input : t.input ≡ Came i d.item.dst (Spelt (message.ResvConf k.0)) = d.is ∙ ap (λ (w : Item). Came i d.item.dst w.arrival) is ∙ ap (Came i d.item.dst) k.1 in
      let now : u.clock ≡ u.clock + 0 = omega arith in
      let within : IsWithinBounds p (u.clock + 0) f = subst (λ (w : ℕ). IsWithinBounds p w f) now (r.paths.bounds.facts n f at) in
      let act_is = conf_act p (u.clock + 0) i f k.0 (is_mine p i d.item.dst (message.ResvConf k.0)) in (
        act_is.0,
        act_is.1,
        t.is ∙ ap (λ (w : Input). rule p p (u.clock + 0) w f) input
            ∙ steps_without_change.whole p (u.clock + 0) (Came i d.item.dst (Spelt (message.ResvConf k.0))) f act_is.0 [] act_is.1 within refl act_is.2,
      )

  -- it changes no fact
  pub conf_leaves : (y : Item) → slice_get u.flight 0 ≡ Some y → IsConf y → (n : ℕ) (f : Facts) → slice_get u.nodes n ≡ Some f → (outcome q (Deliver 0) u n f).facts ≡ f
  conf_leaves y arr k n f at =
      ⊎_elim (λ (h : outcome q (Deliver 0) u n f ≡ still f). ap (λ (o : Outcome). o.facts) h)
      (λ (t : Turns q (Deliver 0) u n f). let made = conf_rule y arr k n f at t in ap (λ (o : Outcome). o.facts) made.2)
      (turns q s u r n f at)

  pub conf_keeps : ((y : Item) → In y u.flight → IsConf y) → (n : ℕ) (f : Facts) → slice_get u.nodes n ≡ Some f → (outcome q (Deliver 0) u n f).facts ≡ f
  conf_keeps all n f at =
      ⊎_elim (λ (h : outcome q (Deliver 0) u n f ≡ still f). ap (λ (o : Outcome). o.facts) h)
      (λ (t : Turns q (Deliver 0) u n f).
      let d = came_by_delivery q 0 u r.paths.bounds n t.input t.came in
      conf_leaves d.item d.arrives (all d.item (in_arrived (Deliver 0) u d.item d.arrives)) n f at)
      (turns q s u r n f at)

  pub conf_item : (y : Item) → slice_get u.flight 0 ≡ Some y → (k : IsConf y) → (z : Item) (b : Bool) → In (z, b) (sent q (Deliver 0) u) → IsConf z
  conf_item y arr k z b sends =
      let c = (what_is_sent_is_copied q (Deliver 0) u (z, b)).0 sends in
      let arrival : z.arrival ≡ Spelt c.send.message = ap (λ (w : Item × Bool). w.0.arrival) c.is in
      ⊎_elim
      (λ (h : outcome q (Deliver 0) u c.node c.facts ≡ still c.facts). absurd (subst (λ (w : Outcome). In c.send w.sent) h c.sent))
      (λ (t : Turns q (Deliver 0) u c.node c.facts).
      let made = conf_rule y arr k c.node c.facts c.there t in
      let among : In c.send (conf_sends made.1) = subst (λ (w : Outcome). In c.send w.sent) made.2 c.sent in
      let one = in_each conf_send c.send (in_order next_hops (λ (w : ConfSend). (w.iface, w.dst)) made.1) among in
      (one.0.conf, arrival ∙ ap (λ (w : Send). Spelt w.message) one.2))
      (turns q s u r c.node c.facts c.there)

  -- ---- one that arrives goes on over a hop behind its own, where the reservation keeps its address and it speaks of a sender of it
  pub record IsPassedDown (y : Item) (h' : LinkHop) : Type 0 where
    pub item : Item
    pub flight : In item (step q (Deliver 0) u).flight
    pub end : item.end ≡ h'.to
    pub dst : item.dst ≡ addr_of u.net h'.to
    pub same : y.arrival ≡ item.arrival

  pub passed_down : (y : Item) → slice_get u.flight 0 ≡ Some y → (k : IsConf y) (h h' : LinkHop) (x : Addr) → y.end ≡ h.to → y.dst ≡ addr_of u.net h.to
      → In h' (tree u.net.hops s.group x) → node_of u.net.ends h'.from ≡ node_of u.net.ends h.to → is_own (config_of q u.net u.trees (node_of u.net.ends y.end)) k.0.confirm ≡ false
      → (unit : UnitOf) (resv : ResvState)
      → resv_at u (node_of u.net.ends h'.from) (ask_style k.0.ask) (k.0.session, ((iface_of u.net.ends h'.from, addr_of u.net h'.to), unit)) ≡ Some resv
      → resv.confirm ≡ Some k.0.confirm → speaks_of k.0.ask resv.part.senders ≡ true → IsPassedDown y h'
  passed_down y arr k h h' x end_is dst_is there meet not_own unit resv resv_is wish speaks =
      let bounds = r.paths.bounds in
      let conf : ResvConfMsg = k.0 in
      let lt : y.end < length u.net.ends = (bounds.flight y (in_arrived (Deliver 0) u y arr)).end in
      let self = known_self q u bounds in
      let f = node_there q u bounds.net u y.end self lt in
      let end = (interfaces_are_ends u.net).end_of_iface y.end lt in
      let dst : y.dst ≡ own (config_of q u.net u.trees (node_of u.net.ends y.end)) (iface_of u.net.ends y.end) =
      dst_is ∙ ap (addr_of u.net) (sym end_is) ∙ sym (own_end q u.net u.trees (node_of u.net.ends y.end) (iface_of u.net.ends y.end) y.end end) in
      let input : Input = Came (iface_of u.net.ends y.end) y.dst (Spelt (message.ResvConf conf)) in
      let place : NodeConfig = config_of q u.net u.trees (node_of u.net.ends y.end) in
      let came : input_at (Deliver 0) u (node_of u.net.ends y.end) ≡ Some (Came (iface_of u.net.ends y.end) y.dst (Spelt (message.ResvConf conf))) =
      came_there q u u self y.end lt (Deliver 0) y arr refl ∙ ap (λ (z : Arrival). Some (Came (iface_of u.net.ends y.end) y.dst z)) k.1 in
      let out : outcome q (Deliver 0) u (node_of u.net.ends y.end) f.0 ≡ rule place place (u.clock + 0) input f.0 = outcome_by q (Deliver 0) u (node_of u.net.ends y.end) f.0 input refl came in
      let mine : is_mine place (iface_of u.net.ends y.end) y.dst (message.ResvConf conf) ≡ true = addr_tested y.dst (own place (iface_of u.net.ends y.end)) dst in
      let at : node_of u.net.ends h'.from ≡ node_of u.net.ends y.end = meet ∙ ap (node_of u.net.ends) (sym end_is) in
      let kept = resv_found u (node_of u.net.ends h'.from) (ask_style conf.ask) (conf.session, ((iface_of u.net.ends h'.from, addr_of u.net h'.to), unit)) resv resv_is in
      let same_facts : kept.0 ≡ f.0 = of_some kept.0 f.0 (sym kept.1 ∙ ap (λ (z : ℕ). slice_get u.nodes z) at ∙ f.1) in
      let told : ConfSend = record { iface = iface_of u.net.ends h'.from; dst = addr_of u.net h'.to; conf = conf } in
      let on : IsConfOn conf f.0 told =
      record {
        hop = (iface_of u.net.ends h'.from, addr_of u.net h'.to);
        unit = unit;
        resv = resv;
        there = ap (λ (z : Facts). get (resvs_of (ask_style conf.ask) z) (conf.session, ((iface_of u.net.ends h'.from, addr_of u.net h'.to), unit))) (sym same_facts) ∙ kept.2;
        wanted = ap (λ (z : Option Addr). is_wish z conf.confirm) wish ∙ addr_tested conf.confirm conf.confirm refl;
        speaks = speaks;
        is = refl;
      } in
      let act_is : act place (u.clock + 0) input f.0 ≡ record (only_heard heard.Taken f.0) { confs = confs_on conf f.0 } =
      ap (λ (z : Bool). act_spelt place (u.clock + 0) (iface_of u.net.ends y.end) (message.ResvConf conf) z f.0) mine ∙ confirmations_by_wish.passed place conf f.0 told not_own on in
      let among : In told (act place (u.clock + 0) input f.0).confs = subst (λ (z : Change). In told z.confs) (sym act_is) ((confirmations_by_wish.on conf f.0 told).1 on) in
      let sends : In (conf_send told) (sent_then place place (u.clock + 0) input f.0) =
      send_made place place (u.clock + 0) input f.0 (conf_send told) refl (inr (inr (inr (inl (record { conf = told; made = in_left told _ _ among; is = refl }))))) in
      let sent_out : In (conf_send told) (outcome q (Deliver 0) u (node_of u.net.ends y.end) f.0).sent = subst (λ (z : Outcome). In (conf_send told) z.sent) (sym out) sends in
      let goes : In h'.to (goes_to u.net (end_at u.net.ends (node_of u.net.ends y.end) (iface_of u.net.ends h'.from)) (addr_of u.net h'.to)) =
      subst (λ (z : ℕ). In h'.to (goes_to u.net (end_at u.net.ends z (iface_of u.net.ends h'.from)) (addr_of u.net h'.to))) at (goes_down q u bounds s.group x h' there) in
      let copy : Item × Bool = copy_to u.made (conf_send told) h'.to in
      let made : In copy (sent q (Deliver 0) u) =
      sent_made q (Deliver 0) u (node_of u.net.ends y.end) f.0 copy f.1
      (copies_made u.net u.made (node_of u.net.ends y.end) (outcome q (Deliver 0) u (node_of u.net.ends y.end) f.0).sent (conf_send told) h'.to sent_out goes) in
      record {
        item = copy.0;
        flight = in_right copy.0 (rest (Deliver 0) u) (each (λ (w : Item × Bool). w.0) (sent q (Deliver 0) u)) (to_each (λ (w : Item × Bool). w.0) copy (sent q (Deliver 0) u) made);
        end = refl;
        dst = refl;
        same = k.1;
      }

module _ (q : ℕ) (s : Session) (st : StyleKind) (x : Sender) (e : ℕ) (u : World) (a : IsAsking q s st x e u) where
  abbrev next : World
  next = step q (Deliver 0) u

  -- ---- all that is in flight after a delivery
  pub asking_next : IsAsking q s st x e next
  asking_next = record { reserving = r' q s st x e u a; only = only' q s st x e u a; each = each_next }
    where
      new_one : (z : Item) (b : Bool) → In (z, b) (sent q (Deliver 0) u) → IsUp next s st x e z ⊎ IsConf z
      new_one z b sends =
          let c = (what_is_sent_is_copied q (Deliver 0) u (z, b)).0 sends in
          ⊎_elim
          (λ (h : outcome q (Deliver 0) u c.node c.facts ≡ still c.facts). absurd (subst (λ (w : Outcome). In c.send w.sent) h c.sent))
          (λ (t : Turns q (Deliver 0) u c.node c.facts).
          let d = came_by_delivery q 0 u a.reserving.paths.bounds c.node t.input t.came in
          ⊎_elim
          (λ (v : IsUp u s st x e d.item).
          ⊎_elim (λ (k : IsConf z). inr k) (λ (o : IsOnward q s st x e u a d.item d.arrives v z). inl o.up) (new_item q s st x e u a d.item d.arrives v z b sends))
          (λ (k : IsConf d.item). inr (conf_item q s u a.reserving d.item d.arrives k z b sends))
          (a.each d.item (in_arrived (Deliver 0) u d.item d.arrives)))
          (turns q s u a.reserving c.node c.facts c.there)

      each_next : (z : Item) → In z next.flight → IsUp next s st x e z ⊎ IsConf z
      each_next z i =
          ⊎_elim
          (λ (old : In z u.flight). ⊎_elim (λ (v : IsUp u s st x e z). inl (up_next q s st x e u a z v)) (λ (k : IsConf z). inr k) (a.each z old))
          (λ (new : (b : Bool) × In (z, b) (sent q (Deliver 0) u)). new_one z new.0 new.1)
          (in_flight_after q (Deliver 0) u z refl i)

  -- ---- the hop at which the marks end goes into the end that asked
  record IsLast (h : LinkHop) : Type 0 where
    hop : LinkHop
    there : In hop (tree u.net.hops s.group x.addr)
    to : hop.to ≡ e
    lower : rank u.net s.group hop ≤ rank u.net s.group h

  last_of_them : (hs : List LinkHop) (h : LinkHop) → In h (tree u.net.hops s.group x.addr) → Leads u s st x e hs h → IsLast h
  last_of_them [] h there l = record { hop = h; there = there; to = l; lower = omega arith }
  last_of_them (h' ∷ hs) h there l =
      let next_one : IsNext u.net s x h h' = l.0 in
      let z = last_of_them hs h' next_one.there l.2 in
      let low = next_one.lower in
      let low' = z.lower in
      record { hop = z.hop; there = z.there; to = z.to; lower = omega (arith, low, low') }

  -- ---- an answer that arrives
  pub record GoesDown (y : Item) (d : IsDown u s st x e y) : Type 0 where
    pub item : Item
    pub flight : In item next.flight
    pub down : IsDown next s st x e item
    pub lower : rank u.net s.group down.hop < rank u.net s.group d.hop
    pub same : y.arrival ≡ item.arrival

  pub down_moves : (flow : TokenBucket) (y : Item) → slice_get u.flight 0 ≡ Some y → (d : IsDown u s st x e y) → IsForAtLeast flow y → IsAnswered s st x flow e (Deliver 0) u ⊎ GoesDown y d
  down_moves flow y arr d least = by d.hops d.leads
    where
      by : (hs : List LinkHop) → Leads u s st x e hs d.hop → IsAnswered s st x flow e (Deliver 0) u ⊎ GoesDown y d
      by [] l =
          inl (record {
            item = y;
            conf = d.conf;
            arrives = arr;
            says = d.says;
            end = d.end ∙ l;
            dst = d.dst ∙ ap (addr_of u.net) l;
            session = d.session;
            style = d.style;
            confirm = d.confirm;
            speaks = d.speaks;
            covers = λ b i. least b (subst (λ (w : Arrival). In b (arrival_units w)) (sym d.says) i);
          })
      by (h' ∷ hs) l =
          let bounds = a.reserving.paths.bounds in
          let next_one : IsNext u.net s x d.hop h' = l.0 in
          let mark : IsMarked u s st (addr_of u.net e) h' = l.1 in
          let place : NodeConfig = config_of q u.net u.trees (node_of u.net.ends y.end) in
          -- it is for another node: else the tree would come to this one twice
          let last = last_of_them hs h' next_one.there l.2 in
          let e_there = to_there u.net bounds.net s.group x.addr last.hop last.there in
          let e_lt : e < length u.net.ends = subst (λ (z : ℕ). z < length u.net.ends) last.to e_there in
          let not_own : is_own place d.conf.confirm ≡ false =
          either (is_own place d.conf.confirm)
          (λ yes.
          let node : node_of u.net.ends e ≡ node_of u.net.ends y.end =
          own_node q u.net u.trees (node_of u.net.ends y.end) e bounds.net e_lt (ap (is_own place) (sym d.confirm) ∙ yes) in
          let same : last.hop ≡ d.hop = one u.net bounds.net s.group x.addr last.hop d.hop last.there d.there (ap (node_of u.net.ends) last.to ∙ node ∙ ap (node_of u.net.ends) d.end) in
          let ranks : rank u.net s.group last.hop ≡ rank u.net s.group d.hop = ap (rank u.net s.group) same in
          let low = last.lower in
          let low' = next_one.lower in
          absurd (omega (arith, low, low', ranks)))
          (λ no. no) in
          -- the mark to which it goes on
          let kept = resv_found u (node_of u.net.ends h'.from) st (s, ((iface_of u.net.ends h'.from, addr_of u.net h'.to), mark.unit)) mark.resv mark.there in
          let fact = a.reserving.sound.facts st (node_of u.net.ends h'.from) kept.0 (s, ((iface_of u.net.ends h'.from, addr_of u.net h'.to), mark.unit)) mark.resv kept.1 kept.2 in
          let on = passed_down q s u a.reserving y arr (d.conf, d.says) d.hop h' x.addr d.end d.dst next_one.there next_one.meet not_own mark.unit mark.resv
          ((λ j. resv_at u (node_of u.net.ends h'.from) (d.style j) (d.session j, ((iface_of u.net.ends h'.from, addr_of u.net h'.to), mark.unit))) ∙ mark.there) (mark.wish ∙ ap Some (sym d.confirm))
          (d.speaks mark.resv.part.senders (listed_one u s x a.only st fact.end (addr_of u.net h'.to) mark.unit mark.resv.part fact.sound)) in
          inr (record {
            item = on.item;
            flight = on.flight;
            down = record {
              conf = d.conf;
              says = sym on.same ∙ d.says;
              session = d.session;
              style = d.style;
              confirm = d.confirm;
              speaks = d.speaks;
              hop = h';
              there = next_one.there;
              end = on.end;
              dst = on.dst;
              hops = hs;
              leads = leads_next q s st x e u a hs h' l.2;
            };
            lower = next_one.lower;
            same = on.same;
          })
