-- What a delivery does to a reservation, where nothing but Paths and Resvs is in flight: a Resv over its hop sets it anew, for a full lifetime, and
-- nothing else touches it.
use Rattle.std.proofs.Common.{◌≡◌, ℕ, ◌+◌, ◌*◌, ◌<◌, length, true, false, Option, None, Some, ◌⊎◌, inl, inr, ⊎_elim, arith, sym, refl, ap, subst, ◌∙◌}
use Rattle.std.specs.Prelude.{slice_get}
use Rattle.std.specs.Ordering.{eq_by_cmp}
use Rattle.rsvp_base.specs.declared.part.Part.{Part}
use Rattle.rsvp_base.specs.declared.session.Sender.{Sender}
use Rattle.rsvp_base.specs.declared.session.Session.{Session}
use Rattle.rsvp_base.specs.declared.style.StyleKind.{StyleKind}
use Rattle.rsvp_base.specs.Members.{In}
use Rattle.rsvp_base.specs.Orders.{Names as NameSet}
use Rattle.rsvp_base.specs.Table.{get, has}
use Rattle.rsvp_base.proofs.Tables.{either, tied_same, tied_self}
use Rattle.router_rules.specs.RsvpMessages.declared.message.Message.{Message}
use Rattle.router_rules.specs.RsvpMessages.declared.message.Message.TheVariants as message
use Rattle.router_rules.specs.RsvpMessages.declared.message.PathMsg.{PathMsg}
use Rattle.router_rules.specs.RsvpMessages.declared.message.ResvMsg.{ResvMsg}
use Rattle.router_rules.specs.RsvpMessages.declared.message.ResvTearMsg.{ResvTearMsg}
use Rattle.router_rules.specs.RsvpMessages.Units.{ask_style}
use Rattle.router_rules.specs.Lines.{LineKey}
use Rattle.router_rules.specs.PartLaws.{same_part}
use Rattle.laws_steps.specs.AcceptingLaws.{IsTakenWhole}
use Rattle.laws_steps.specs.ReservationLaws.{Touches, TouchesBy}
use Rattle.laws_steps.proofs.Asking.{what_keeps_a_reservation_fact}
use Rattle.router_rules.specs.Facts.{Facts, ResvState, resvs_of}
use Rattle.router_rules.specs.Inputs.{Arrival, Came, Input, Spelt, Unspelt}
use Rattle.router_rules.specs.Known.{Lane, known, lane_keys, named_as}
use Rattle.router_rules.specs.NodeConfig.{NodeConfig, lifetime, own}
use Rattle.router_rules.specs.Rule.{Outcome}
use Rattle.router_rules.specs.Steps.{facts_then, node_step}
use Rattle.tree_model.specs.Goals.{addr_of}
use Rattle.tree_model.specs.Networks.{end_at, iface_of, node_of}
use Rattle.tree_model.specs.Trees.{hops_of}
use Rattle.tree_model.proofs.Ifaces.{interfaces_are_ends}
use Rattle.network_model.specs.Bounds.{AreBounds}
use Rattle.network_model.specs.Locals.{locals_of}
use Rattle.network_model.specs.Sound.{IsSoundResv}
use Rattle.network_model.specs.Steps.{Deliver, input_at, outcome, step, still}
use Rattle.network_model.specs.Worlds.{Item, World, config_of}
use Rattle.network_model.proofs.Machines.{in_arrived}
use Rattle.network_model.proofs.Quiet.{IsCame, outcome_by}
use Rattle.network_model.proofs.Stepping.{facts_after_made}
use Rattle.laws_network.proofs.Due.{full_life}
use Rattle.laws_network.proofs.Known.{came_there, end_found, node_there, of_some}
use Rattle.laws_network.proofs.Standing.{own_end}
use Rattle.settle_paths.proofs.PreviousHops.{ends_there}
use Rattle.settle_resvs.specs.GoalByIface.{goal_at}
use Rattle.settle_resvs.specs.Said.{HopKey, IsOver, hop_over, resv_key}
use Rattle.settle_resvs.specs.SoftResvs.{AsksFor, SaysResv, line_key_of, resv_at}
use Rattle.settle_resvs.proofs.SoftResvs.{resv_found, resv_made}
use Rattle.settle_passes.proofs.Deliveries.{came_by_delivery, known_self, known_stays, tear_of_none}
use Rattle.settle_passes.proofs.Turns.{Turns}
use Rattle.settle_senders.proofs.Following.{taken, turns}
use Rattle.settle_senders.proofs.Knowing.{name_known, named_on}
use Rattle.settle_openings.specs.Opening.{IsGoingOn}

-- a Resv that comes over the hop
pub record IsOne (w : World) (k : HopKey) (y : Item) : Type 0 where
  pub resv : ResvMsg
  pub spelt : y.arrival ≡ Spelt (message.Resv resv)
  pub over : IsOver w.net k y resv.session resv.hop.addr (ask_style resv.ask)

module _ (q : ℕ) (u : World) (r : IsGoingOn q u) where
  abbrev next : World
  next = step q (Deliver 0) u

  -- who is known stays known
  pub known_on : (s : Session) (n : ℕ) (f : Facts) (z : Session) (x : Sender) → slice_get u.nodes n ≡ Some f → has (known f z) x ≡ true → has (known (outcome q (Deliver 0) u n f).facts z) x ≡ true
  known_on s n f z x at sure =
      known_stays q 0 u (r.follows s).paths.bounds n f (outcome q (Deliver 0) u n f).facts (z, x) (tear_of_none u (r.follows s).paths.no_tear (z, x)) at (facts_after_made q (Deliver 0) u n f at) sure

  module _ (k : HopKey) (there : In (hop_over k) (hops_of u.net.hops k.session.group)) where
    bounds : AreBounds q u
    bounds = (r.follows k.session).paths.bounds

    lt : k.to < length u.net.ends
    lt = (ends_there u.net bounds.net k.session.group (hop_over k) there).0

    -- a reservation with the part, for a full lifetime
    pub record IsRenewed (v : Part) : Type 0 where
      pub resv : ResvState
      pub kept : resv_at next (node_of u.net.ends k.to) k.style (line_key_of u.net (resv_key u.net k)) ≡ Some resv
      pub is : resv.part ≡ v
      pub dies : resv.dies ≡ u.clock + 21 * q

    -- a Resv that asks for the part is taken
    pub renewed : (y : Item) → slice_get u.flight 0 ≡ Some y → (v : Part) → SaysResv u.net (resv_key u.net k) y v → IsRenewed v
    renewed y arr v says =
        let n : ℕ = node_of u.net.ends k.to in
        let e : ℕ = iface_of u.net.ends k.to in
        let p : NodeConfig = config_of q u.net u.trees n in
        let m : ResvMsg = says.resv in
        let i : In y u.flight = in_arrived (Deliver 0) u y arr in
        let f = node_there q u bounds.net u k.to (known_self q u bounds) lt in
        let end : end_at u.net.ends n e ≡ Some k.to = (interfaces_are_ends u.net).end_of_iface k.to lt in
        let dst : y.dst ≡ own p e = says.dst ∙ sym (own_end q u.net u.trees n e k.to end) in
        let input : Input = Came e (own p e) (Spelt (message.Resv m)) in
        let came : input_at (Deliver 0) u n ≡ Some input = came_there q u u (known_self q u bounds) k.to lt (Deliver 0) y arr says.end ∙ (λ j. Some (Came e (dst j) (says.spelt j))) in
        let w = taken q k.session u (r.follows k.session) y m f.0 i says.spelt says.session (ap (λ (z : ℕ). slice_get u.nodes (node_of u.net.ends z)) says.end ∙ f.1) in
        let w' : IsTakenWhole p p (u.clock + 0) e m f.0 (goal_at u.net (locals_of u) n) = subst
        (λ (z : ℕ). IsTakenWhole (config_of q u.net u.trees (node_of u.net.ends z)) (config_of q u.net u.trees (node_of u.net.ends z)) (u.clock + 0) (iface_of u.net.ends z) m f.0
        (goal_at u.net (locals_of u) (node_of u.net.ends z))) says.end w in
        let x = (r.follows k.session).sound.items y m says.unit i says.spelt says.asks in
        let listed : AsksFor (Some x.names) v.senders = subst (λ (z : Option NameSet). AsksFor z v.senders) x.named says.names in
        let part : v ≡ record { senders = x.names; flow = says.unit.flow } = same_part v (record { senders = x.names; flow = says.unit.flow }) listed says.flow in
        let d = w'.facts says.unit x.names says.asks x.named in
        let g : Facts = (outcome q (Deliver 0) u n f.0).facts in
        let after : slice_get next.nodes n ≡ Some g = facts_after_made q (Deliver 0) u n f.0 f.1 in
        let is : g ≡ facts_then p p (u.clock + 0) input f.0 = ap (λ (o : Outcome). o.facts) (outcome_by q (Deliver 0) u n f.0 input refl came) in
        let now : u.clock + 0 ≡ u.clock = omega arith in
        record {
          resv = d.0;
          kept = resv_made next n k.style (line_key_of u.net (resv_key u.net k)) g after
              ∙ (λ j. get (resvs_of (sym says.style j) (is j)) (sym says.session j, ((e, sym says.hop j), sym says.at j))) ∙ d.1;
          is = d.2 ∙ sym part;
          dies = d.3 ∙ (λ j. now j + lifetime p (r.full.resvs y m i says.spelt j)) ∙ ap (λ (z : ℕ). u.clock + z) (full_life q bounds.period);
        }

    -- a Resv that comes over the hop, or none does
    pub of_item : (y : Item) → IsOne u k y ⊎ (IsOne u k y → ⊥)
    of_item y = by y.arrival refl
      where
        wanted : Lane
        wanted = record { session = k.session; style = k.style; hop = (k.to, addr_of u.net k.from) }

        lane_in : ResvMsg → Lane
        lane_in m = record { session = m.session; style = ask_style m.ask; hop = (y.end, m.hop.addr) }

        other : (m : Message) → y.arrival ≡ Spelt m → ((x : ResvMsg) → m ≡ message.Resv x → ⊥) → IsOne u k y ⊎ (IsOne u k y → ⊥)
        other m e none = inr (λ z. let both : Spelt m ≡ Spelt (message.Resv z.resv) = sym e ∙ z.spelt in none z.resv (cc))

        by : (a : Arrival) → y.arrival ≡ a → IsOne u k y ⊎ (IsOne u k y → ⊥)
        by (Spelt (message.Resv m)) e =
            either (eq_by_cmp lane_keys.cmp (lane_in m) wanted)
            (λ tied.
            let is = tied_same lane_keys (lane_in m) wanted tied in
            inl
            (record {
              resv = m;
              spelt = e;
              over = record {
                end = ap (λ (z : Lane). z.hop.0) is;
                session = ap (λ (z : Lane). z.session) is;
                from = ap (λ (z : Lane). z.hop.1) is;
                style = ap (λ (z : Lane). z.style) is;
              };
            }))
            (λ apart. inr (λ z.
            let o = z.over in
            let both : Spelt (message.Resv m) ≡ Spelt (message.Resv z.resv) = sym e ∙ z.spelt in
            let msg : m ≡ z.resv = cc in
            let is : lane_in z.resv ≡ wanted = (λ j. record { session = o.session j; style = o.style j; hop = (o.end j, o.from j) }) in
            let bad : true ≡ false = sym (ap (λ (d : Lane). eq_by_cmp lane_keys.cmp d wanted) is ∙ tied_self lane_keys wanted)
            ∙ ap (λ (d : ResvMsg). eq_by_cmp lane_keys.cmp (lane_in d) wanted) (sym msg) ∙ apart in
            cc))
        by (Spelt (message.Path m)) e = other (message.Path m) e (λ x z. let bad : message.Path m ≡ message.Resv x = z in cc)
        by (Spelt (message.PathErr m)) e = other (message.PathErr m) e (λ x z. let bad : message.PathErr m ≡ message.Resv x = z in cc)
        by (Spelt (message.ResvErr m)) e = other (message.ResvErr m) e (λ x z. let bad : message.ResvErr m ≡ message.Resv x = z in cc)
        by (Spelt (message.PathTear m)) e = other (message.PathTear m) e (λ x z. let bad : message.PathTear m ≡ message.Resv x = z in cc)
        by (Spelt (message.ResvTear m)) e = other (message.ResvTear m) e (λ x z. let bad : message.ResvTear m ≡ message.Resv x = z in cc)
        by (Spelt (message.ResvConf m)) e = other (message.ResvConf m) e (λ x z. let bad : message.ResvConf m ≡ message.Resv x = z in cc)
        by (Unspelt x) e = inr (λ z. let bad : Unspelt x ≡ Spelt (message.Resv z.resv) = sym e ∙ z.spelt in cc)

    -- what touches the reservation comes over the hop
    touched : (x : ResvState) (i : Input) → (t : IsCame (Deliver 0) u (node_of u.net.ends k.to) i) → Touches i k.style (line_key_of u.net (resv_key u.net k)) x → IsOne u k t.item
    touched x i t touch = by t.item.arrival refl (subst (λ (z : Input). Touches z k.style (line_key_of u.net (resv_key u.net k)) x) t.is touch)
      where
        key : LineKey
        key = line_key_of u.net (resv_key u.net k)

        end : iface_of u.net.ends t.item.end ≡ iface_of u.net.ends k.to → t.item.end ≡ k.to
        end iface = end_found q u u (known_self q u bounds) k.to lt (Deliver 0) i t iface

        no_tear : {A : Type 0} (m : ResvTearMsg) → t.item.arrival ≡ Spelt (message.ResvTear m) → A
        no_tear m e =
            ⊎_elim (λ (z : (p : PathMsg) × (t.item.arrival ≡ Spelt (message.Path p))). let bad : Spelt (message.Path z.0) ≡ Spelt (message.ResvTear m) = sym z.1 ∙ e in absurd (cc))
            (λ (z : (p : ResvMsg) × (t.item.arrival ≡ Spelt (message.Resv p)) × (p.confirm ≡ None)).
            let bad : Spelt (message.Resv z.0) ≡ Spelt (message.ResvTear m) = sym z.1 ∙ e in absurd (cc))
            (r.only t.item (in_arrived (Deliver 0) u t.item t.arrives))

        by_message : (m : Message) → t.item.arrival ≡ Spelt m → TouchesBy (iface_of u.net.ends t.item.end) m k.style key x → IsOne u k t.item
        by_message (message.Resv m) e d = record { resv = m; spelt = e; over = record { end = end d.1; session = d.0; from = d.2; style = d.3 } }
        by_message (message.ResvTear m) e d = no_tear m e
        by_message (message.Path m) e d = absurd d
        by_message (message.PathErr m) e d = absurd d
        by_message (message.ResvErr m) e d = absurd d
        by_message (message.PathTear m) e d = absurd d
        by_message (message.ResvConf m) e d = absurd d

        by : (a : Arrival) → t.item.arrival ≡ a → Touches (Came (iface_of u.net.ends t.item.end) t.item.dst t.item.arrival) k.style key x → IsOne u k t.item
        by (Spelt m) e d = by_message m e (subst (λ (z : Arrival). Touches (Came (iface_of u.net.ends t.item.end) t.item.dst z) k.style key x) e d)
        by (Unspelt w) e d = absurd (subst (λ (z : Arrival). Touches (Came (iface_of u.net.ends t.item.end) t.item.dst z) k.style key x) e d)

    -- where no Resv comes over the hop, it stays as it is
    stays : (x : ResvState) → resv_at u (node_of u.net.ends k.to) k.style (line_key_of u.net (resv_key u.net k)) ≡ Some x
        → ((y : Item) → slice_get u.flight 0 ≡ Some y → IsOne u k y → ⊥) → resv_at next (node_of u.net.ends k.to) k.style (line_key_of u.net (resv_key u.net k)) ≡ Some x
    stays x e none =
        let one = r.follows k.session in
        let n : ℕ = node_of u.net.ends k.to in
        let p : NodeConfig = config_of q u.net u.trees n in
        let key : LineKey = line_key_of u.net (resv_key u.net k) in
        let f = resv_found u n k.style key x e in
        let g : Facts = (outcome q (Deliver 0) u n f.0).facts in
        let after : slice_get next.nodes n ≡ Some g = facts_after_made q (Deliver 0) u n f.0 f.1 in
        let ends : get (resvs_of k.style g) key ≡ Some x → resv_at next n k.style key ≡ Some x = (λ d. resv_made next n k.style key g after ∙ d) in
        ⊎_elim (λ (z : outcome q (Deliver 0) u n f.0 ≡ still f.0). ends (ap (λ (o : Outcome). get (resvs_of k.style o.facts) key) z ∙ f.2))
        (λ (h : Turns q (Deliver 0) u n f.0).
        let same : g ≡ facts_then p p (u.clock + 0) h.input f.0 = ap (λ (o : Outcome). o.facts) h.is in
        let alive = ((bounds.facts n f.0 f.1).alive.resvs k.style key x f.2).later in
        let lives : u.clock + 0 < x.dies = omega (arith, alive) in
        let t = came_by_delivery q 0 u bounds n h.input h.came in
        ends
        (ap (λ (z : Facts). get (resvs_of k.style z) key) same
        ∙ what_keeps_a_reservation_fact.whole (node_step p p u.clock (u.clock + 0) h.input f.0) (bounds.facts n f.0 f.1) k.style key x f.2 lives
        (λ touch. none t.item t.arrives (touched x h.input t touch))
        (λ z d.
        let a = named_on q (Deliver 0) u bounds (turns q k.session u one) (known_on k.session) k.to k.session k.style z
        (one.names.kept k x.part z there (record { resv = x; there = e; is = refl }) d) in
        ap (λ (o : Facts). has (named_as k.style (known o k.session)) z) (sym same) ∙ name_known next k.to k.session k.style z a g after)))
        (turns q k.session u one n f.0 f.1)

    -- ---- so it stays, or a Resv that names all that it does is taken in its place
    pub record IsReplacedBy (x : ResvState) : Type 0 where
      pub item : Item
      pub arrives : slice_get u.flight 0 ≡ Some item
      pub one : IsOne u k item

    pub stays_or_not : (x : ResvState) → resv_at u (node_of u.net.ends k.to) k.style (line_key_of u.net (resv_key u.net k)) ≡ Some x
        → (resv_at next (node_of u.net.ends k.to) k.style (line_key_of u.net (resv_key u.net k)) ≡ Some x) ⊎ IsReplacedBy x
    stays_or_not x e = by (slice_get u.flight 0) refl
      where
        by : (o : Option Item) → slice_get u.flight 0 ≡ o → (resv_at next (node_of u.net.ends k.to) k.style (line_key_of u.net (resv_key u.net k)) ≡ Some x) ⊎ IsReplacedBy x
        by None d = inl (stays x e (λ y arr l. let bad : None ≡ Some y = sym d ∙ arr in cc))
        by (Some y) d =
            ⊎_elim (λ (one : IsOne u k y). inr (record { item = y; arrives = d; one = one }))
            (λ (no : IsOne u k y → ⊥). inl (stays x e (λ z arr l. no (subst (λ (w : Item). IsOne u k w) (of_some z y (sym arr ∙ d)) l)))) (of_item y)

    -- each name of it is kept
    pub name_is_kept : (x : ResvState) (z : Sender) → resv_at u (node_of u.net.ends k.to) k.style (line_key_of u.net (resv_key u.net k)) ≡ Some x → has x.part.senders z ≡ true
        → (x' : ResvState) × (resv_at next (node_of u.net.ends k.to) k.style (line_key_of u.net (resv_key u.net k)) ≡ Some x') × (has x'.part.senders z ≡ true)
    name_is_kept x z e d =
        ⊎_elim (λ (same : resv_at next (node_of u.net.ends k.to) k.style (line_key_of u.net (resv_key u.net k)) ≡ Some x). (x, same, d))
        (λ (new : IsReplacedBy x).
        let named = (r.names.kept k x.part z there (record { resv = x; there = e; is = refl }) d).0 new.item new.one.resv (in_arrived (Deliver 0) u new.item new.arrives) new.one.spelt new.one.over in
        let a = renewed new.item new.arrives named.0 named.1 in
        (a.resv, a.kept, ap (λ (w : Part). has w.senders z) a.is ∙ named.2))
        (stays_or_not x e)

-- ---- a reservation of a node is one over a hop
pub record IsOfHop (w : World) (n : ℕ) (st : StyleKind) (key : LineKey) : Type 0 where
  pub hop : HopKey
  pub there : In (hop_over hop) (hops_of w.net.hops hop.session.group)
  pub session : hop.session ≡ key.0
  pub style : hop.style ≡ st
  pub node : node_of w.net.ends hop.to ≡ n
  pub same : (z : World) → resv_at z (node_of w.net.ends hop.to) hop.style (line_key_of w.net (resv_key w.net hop)) ≡ resv_at z n st key

pub of_hop : (w : World) (n : ℕ) (st : StyleKind) (key : LineKey) (x : ResvState) → IsSoundResv st w n key x → IsOfHop w n st key
of_hop w n st key x s =
    let of = (interfaces_are_ends w.net).iface_of_end n key.1.0.0 s.end s.at in
    record {
      hop = record { session = key.0; style = st; unit = key.1.1; from = s.sound.hop.to; to = s.end };
      there = subst (λ (z : ℕ). In (record { from = z; to = s.sound.hop.to }) (hops_of w.net.hops key.0.group)) s.sound.from s.sound.there;
      session = refl;
      style = refl;
      node = of.1;
      same = λ z j. resv_at z (of.1 j) st (key.0, ((of.2 j, s.sound.to j), key.1.1));
    }
