-- What a delivery does to reservations where each Resv of the session that arrives is taken whole: nothing is refused, no blockade is set, and each
-- node has asked for what goes from it still.
use Rattle.std.proofs.Common.{◌≡◌, ℕ, ◌+◌, ◌<◌, List, [], ◌∷◌, ◌++◌, length, Bool, true, false, Option, None, Some, ◌⊎◌, inl, inr, ⊎_elim, sym, refl, ap, subst, ◌∙◌}
use Rattle.std.specs.Prelude.{slice_get}
use Rattle.std.specs.List.{remove}
use Rattle.std.specs.Ordering.{eq_by_cmp}
use Rattle.rsvp_base.specs.declared.addr.Addr.{Addr}
use Rattle.rsvp_base.specs.declared.part.Part.{Part}
use Rattle.rsvp_base.specs.declared.session.Sender.{Sender}
use Rattle.rsvp_base.specs.declared.session.Session.{Session}
use Rattle.rsvp_base.specs.declared.style.StyleKind.{StyleKind}
use Rattle.rsvp_base.specs.declared.style.StyleKind.TheVariants.{Wild, Fixed, Shared}
use Rattle.rsvp_base.specs.Members.{In}
use Rattle.rsvp_base.specs.Orders.{Names}
use Rattle.rsvp_base.specs.Table.{get}
use Rattle.rsvp_base.specs.TokenBucket.{TokenBucket}
use Rattle.rsvp_base.proofs.Members.{in_append, in_each}
use Rattle.rsvp_base.proofs.Tables.{either, tied_same, tied_self}
use Rattle.rsvp_base.specs.declared.style.Unit.{Unit as UnitOf}
use Rattle.rsvp_messages.specs.declared.message.Message.{Message}
use Rattle.rsvp_messages.specs.declared.message.Message.TheVariants as message
use Rattle.rsvp_messages.specs.declared.message.ResvErrMsg.{ResvErrMsg}
use Rattle.rsvp_messages.specs.declared.message.ResvMsg.{ResvMsg}
use Rattle.rsvp_messages.specs.Units.{AskedUnit, ask_style, asked_units, tear_style}
use Rattle.rsvp_messages.specs.declared.message.ResvTearMsg.{ResvTearMsg}
use Rattle.style_rules.specs.declared.target.Target.TheVariants as target
use Rattle.style_rules.specs.Lines.{LineKey}
use Rattle.style_rules.specs.Merge.{PartTable}
use Rattle.style_rules.specs.PartLaws.{same_part}
use Rattle.style_rules.specs.Targets.{WallKey}
use Rattle.laws_steps.specs.AcceptingLaws.{IsTakenWhole}
use Rattle.laws_steps.specs.BlameLaws.{IsPassedOn, IsRefusal}
use Rattle.laws_steps.specs.ErrorLaws.{IsBlockadeSet}
use Rattle.laws_steps.specs.ReservationLaws.{TakesName, Touches, TouchesBy}
use Rattle.laws_steps.proofs.Blaming.{where_an_error_with_a_flow_comes_from}
use Rattle.laws_steps.proofs.Erring.{where_a_blockade_comes_from}
use Rattle.router_rules.specs.declared.answers.Heard.TheVariants as heard
use Rattle.router_rules.specs.Errors.{blamed_senders, walled_by}
use Rattle.router_rules.specs.Facts.{Blockade, Facts, resvs_of, ResvState}
use Rattle.router_rules.specs.Inputs.{Arrival, Came, Input, Spelt, Unspelt, Wait, Local}
use Rattle.router_rules.specs.Known.{Lane, lane_keys}
use Rattle.router_rules.specs.NodeConfig.{NodeConfig, own}
use Rattle.router_rules.specs.Requests.{toward}
use Rattle.router_rules.specs.Rule.{Outcome, is_silent, rule}
use Rattle.router_rules.specs.Steps.{facts_then, node_step}
use Rattle.tree_model.specs.Goals.{addr_of}
use Rattle.tree_model.specs.Networks.{Net, end_at, iface_of, node_of, node_of_end}
use Rattle.tree_model.specs.Trees.{hops_of}
use Rattle.tree_model.proofs.Ifaces.{interfaces_are_ends}
use Rattle.tree_model.specs.Wants.{Locals}
use Rattle.network_model.specs.Bounds.{AreBounds}
use Rattle.network_model.specs.Sound.{ArePathsSound, AreResvsSound, IsSoundPart, IsSoundResv}
use Rattle.network_model.specs.Steps.{Deliver, input_at, outcome, sent, step, still, At}
use Rattle.network_model.specs.Worlds.{Item, World, config_of}
use Rattle.network_model.proofs.Machines.{in_arrived, in_flight_after, in_rest}
use Rattle.network_model.proofs.Quiet.{FollowsRule, IsCame, outcome_by, outcome_quiet}
use Rattle.network_model.proofs.Stepping.{facts_after_found, facts_after_made}
use Rattle.laws_network.proofs.Known.{came_there, end_found, node_there, of_some}
use Rattle.laws_network.proofs.Sends.{sent_by_rule}
use Rattle.laws_network.proofs.Standing.{own_end, end_of}
use Rattle.laws_network.specs.Known.{IsSameNet}
use Rattle.settle_paths.proofs.PreviousHops.{ends_there}
use Rattle.settle_resvs.specs.GoalByIface.{goal_at}
use Rattle.settle_resvs.specs.Said.{HopKey, IsOver, hop_over, lane_of, resv_key}
use Rattle.settle_resvs.specs.Sessions.{HasNoFlowErrorOf, IsFreeOfBlockadesOf}
use Rattle.settle_resvs.specs.SoftResvs.{AsksFor, SaysResv, line_key_of, ResvKey, resv_at}
use Rattle.settle_resvs.proofs.SoftResvs.{resv_made, IsAsked, WasThere, resv_found, resv_source}
use Rattle.settle_resvs.proofs.SoundResvs.{part_again}
use Rattle.settle_passes.specs.Reserving.{AllAsk, AreAskedFor, IsAskedLast, IsKeptOver, IsLetter}
use Rattle.settle_passes.proofs.Deliveries.{came_by_delivery, known_self, same_next}
use Rattle.settle_passes.proofs.Turns.{IsAskedNow, Turns, all_ask, news, stays_or_asked, unit_in_turn}
use Rattle.settle_passes.proofs.Called.{turns as called_turns}
use Rattle.settle_passes.proofs.SoundParts.{sound_cut}

-- ---- lists of what is in flight
pub all_append : (net : Net) (k : HopKey) (v : Part) (xs ys : List Item) → AllAsk net k v xs → AllAsk net k v ys → AllAsk net k v (xs ++ ys)
all_append net k v xs ys a b y i l = ⊎_elim (λ (x : In y xs). a y x l) (λ (z : In y ys). b y z l) (in_append y xs ys i)

pub last_asked : (net : Net) (k : HopKey) (v : Part) (ys : List Item) (y : Item) → In y ys → SaysResv net (resv_key net k) y v → AllAsk net k v ys → IsAskedLast net k v ys
last_asked net k v [] y i says all = absurd i
last_asked net k v (z ∷ ys) y i says all =
    ⊎_elim (λ (e : y ≡ z). inr (subst (λ (x : Item). SaysResv net (resv_key net k) x v) e says, λ x j l. all x (inr j) l))
    (λ (j : In y ys). inl (last_asked net k v ys y j says (λ x h l. all x (inr h) l))) i

pub last_behind : (net : Net) (k : HopKey) (v : Part) (xs ys : List Item) → IsAskedLast net k v ys → IsAskedLast net k v (xs ++ ys)
last_behind net k v [] ys l = l
last_behind net k v (x ∷ xs) ys l = inl (last_behind net k v xs ys l)

pub last_before : (net : Net) (k : HopKey) (v : Part) (xs ys : List Item) → IsAskedLast net k v xs → AllAsk net k v ys → IsAskedLast net k v (xs ++ ys)
last_before net k v [] ys l all = absurd l
last_before net k v (x ∷ xs) ys l all =
    ⊎_elim (λ (more : IsAskedLast net k v xs). inl (last_before net k v xs ys more all))
    (λ (now : SaysResv net (resv_key net k) x v × AllAsk net k v xs). inr (now.0, all_append net k v xs ys now.1 all)) l

-- ---- what arrives
module _ (q : ℕ) (u : World) (bounds : AreBounds q u) where
  -- a node that gets something gets a datagram
  pub turns : (n : ℕ) (f : Facts) → slice_get u.nodes n ≡ Some f → (outcome q (Deliver 0) u n f ≡ still f) ⊎ Turns q (Deliver 0) u n f
  turns n f at =
      ⊎_elim (λ (z : (input_at (Deliver 0) u n ≡ None) × (outcome q (Deliver 0) u n f ≡ still f)). inl z.1)
      (λ (h : FollowsRule q (Deliver 0) u n f (outcome q (Deliver 0) u n f)).
      let c = came_by_delivery q 0 u bounds n h.input h.came in
      inr (record {
        input = h.input;
        came = h.came;
        loud = ap is_silent c.is;
        timeless = λ ms word e. let bad : Wait ms word ≡ Came (iface_of u.net.ends c.item.end) c.item.dst c.item.arrival = sym e ∙ c.is in cc;
        is = h.is;
      }))
      (outcome_quiet q (Deliver 0) u n f refl)

  module _ (k : HopKey) (there : In (hop_over k) (hops_of u.net.hops k.session.group)) where
    lt : k.to < length u.net.ends
    lt = (ends_there u.net bounds.net k.session.group (hop_over k) there).0

    over_or_not : (y : Item) (c : Session) (a : Addr) (st : StyleKind) → IsOver u.net k y c a st ⊎ (IsOver u.net k y c a st → ⊥)
    over_or_not y c a st =
        either (eq_by_cmp lane_keys.cmp comes wanted)
        (λ tied.
        let is = tied_same lane_keys comes wanted tied in
        inl (record {
          end = ap (λ (z : Lane). z.hop.0) is;
          session = ap (λ (z : Lane). z.session) is;
          from = ap (λ (z : Lane). z.hop.1) is;
          style = ap (λ (z : Lane). z.style) is;
        }))
        (λ apart. inr (λ o.
        let is : comes ≡ wanted = (λ j. record { session = o.session j; style = o.style j; hop = (o.end j, o.from j) }) in
        let bad : true ≡ false = sym (ap (λ (z : Lane). eq_by_cmp lane_keys.cmp z wanted) is ∙ tied_self lane_keys wanted) ∙ apart in
        cc))
      where
        wanted : Lane
        wanted = record { session = k.session; style = k.style; hop = (k.to, addr_of u.net k.from) }

        comes : Lane
        comes = record { session = c; style = st; hop = (y.end, a) }

    -- a Resv that comes over the hop, or none does
    pub of_item : (y : Item) → ((m : ResvMsg) × (y.arrival ≡ Spelt (message.Resv m)) × IsOver u.net k y m.session m.hop.addr (ask_style m.ask))
        ⊎ ((m : ResvMsg) → y.arrival ≡ Spelt (message.Resv m) → IsOver u.net k y m.session m.hop.addr (ask_style m.ask) → ⊥)
    of_item y = by y.arrival refl
      where
        by : (a : Arrival) → y.arrival ≡ a → ((m : ResvMsg) × (y.arrival ≡ Spelt (message.Resv m)) × IsOver u.net k y m.session m.hop.addr (ask_style m.ask))
            ⊎ ((m : ResvMsg) → y.arrival ≡ Spelt (message.Resv m) → IsOver u.net k y m.session m.hop.addr (ask_style m.ask) → ⊥)
        by (Spelt (message.Resv m)) e =
            ⊎_elim (λ (o : IsOver u.net k y m.session m.hop.addr (ask_style m.ask)). inl (m, e, o))
            (λ (no : IsOver u.net k y m.session m.hop.addr (ask_style m.ask) → ⊥).
            inr (λ m' e' o.
            let one : Spelt (message.Resv m) ≡ Spelt (message.Resv m') = sym e ∙ e' in
            let same : m ≡ m' = cc in
            no (subst (λ (z : ResvMsg). IsOver u.net k y z.session z.hop.addr (ask_style z.ask)) (sym same) o)))
            (over_or_not y m.session m.hop.addr (ask_style m.ask))
        by (Spelt (message.Path m)) e = inr (λ m' e' o. let bad : Spelt (message.Path m) ≡ Spelt (message.Resv m') = sym e ∙ e' in cc)
        by (Spelt (message.PathErr m)) e = inr (λ m' e' o. let bad : Spelt (message.PathErr m) ≡ Spelt (message.Resv m') = sym e ∙ e' in cc)
        by (Spelt (message.ResvErr m)) e = inr (λ m' e' o. let bad : Spelt (message.ResvErr m) ≡ Spelt (message.Resv m') = sym e ∙ e' in cc)
        by (Spelt (message.PathTear m)) e = inr (λ m' e' o. let bad : Spelt (message.PathTear m) ≡ Spelt (message.Resv m') = sym e ∙ e' in cc)
        by (Spelt (message.ResvTear m)) e = inr (λ m' e' o. let bad : Spelt (message.ResvTear m) ≡ Spelt (message.Resv m') = sym e ∙ e' in cc)
        by (Spelt (message.ResvConf m)) e = inr (λ m' e' o. let bad : Spelt (message.ResvConf m) ≡ Spelt (message.Resv m') = sym e ∙ e' in cc)
        by (Unspelt x) e = inr (λ m' e' o. let bad : Unspelt x ≡ Spelt (message.Resv m') = sym e ∙ e' in cc)

    -- or a ResvTear does, or none
    pub of_tear_item : (y : Item) → ((m : ResvTearMsg) × (y.arrival ≡ Spelt (message.ResvTear m)) × IsOver u.net k y m.session m.hop.addr (tear_style m.tear))
        ⊎ ((m : ResvTearMsg) → y.arrival ≡ Spelt (message.ResvTear m) → IsOver u.net k y m.session m.hop.addr (tear_style m.tear) → ⊥)
    of_tear_item y = by y.arrival refl
      where
        by : (a : Arrival) → y.arrival ≡ a → ((m : ResvTearMsg) × (y.arrival ≡ Spelt (message.ResvTear m)) × IsOver u.net k y m.session m.hop.addr (tear_style m.tear))
            ⊎ ((m : ResvTearMsg) → y.arrival ≡ Spelt (message.ResvTear m) → IsOver u.net k y m.session m.hop.addr (tear_style m.tear) → ⊥)
        by (Spelt (message.ResvTear m)) e =
            ⊎_elim (λ (o : IsOver u.net k y m.session m.hop.addr (tear_style m.tear)). inl (m, e, o))
            (λ (no : IsOver u.net k y m.session m.hop.addr (tear_style m.tear) → ⊥).
            inr (λ m' e' o.
            let one : Spelt (message.ResvTear m) ≡ Spelt (message.ResvTear m') = sym e ∙ e' in
            let same : m ≡ m' = cc in
            no (subst (λ (z : ResvTearMsg). IsOver u.net k y z.session z.hop.addr (tear_style z.tear)) (sym same) o)))
            (over_or_not y m.session m.hop.addr (tear_style m.tear))
        by (Spelt (message.Path m)) e = inr (λ m' e' o. let bad : Spelt (message.Path m) ≡ Spelt (message.ResvTear m') = sym e ∙ e' in cc)
        by (Spelt (message.Resv m)) e = inr (λ m' e' o. let bad : Spelt (message.Resv m) ≡ Spelt (message.ResvTear m') = sym e ∙ e' in cc)
        by (Spelt (message.PathErr m)) e = inr (λ m' e' o. let bad : Spelt (message.PathErr m) ≡ Spelt (message.ResvTear m') = sym e ∙ e' in cc)
        by (Spelt (message.ResvErr m)) e = inr (λ m' e' o. let bad : Spelt (message.ResvErr m) ≡ Spelt (message.ResvTear m') = sym e ∙ e' in cc)
        by (Spelt (message.PathTear m)) e = inr (λ m' e' o. let bad : Spelt (message.PathTear m) ≡ Spelt (message.ResvTear m') = sym e ∙ e' in cc)
        by (Spelt (message.ResvConf m)) e = inr (λ m' e' o. let bad : Spelt (message.ResvConf m) ≡ Spelt (message.ResvTear m') = sym e ∙ e' in cc)
        by (Unspelt x) e = inr (λ m' e' o. let bad : Unspelt x ≡ Spelt (message.ResvTear m') = sym e ∙ e' in cc)

    -- what touches the part is a letter over the hop
    pub touched : (v : Part) (c : IsKeptOver u k v) (i : Input) → (t : IsCame (Deliver 0) u (node_of u.net.ends k.to) i) → Touches i k.style (line_key_of u.net (resv_key u.net k)) c.resv
        → IsLetter u.net k v t.item
    touched v c i t touch = by t.item.arrival refl (subst (λ (z : Input). Touches z k.style (line_key_of u.net (resv_key u.net k)) c.resv) t.is touch)
      where
        key : LineKey
        key = line_key_of u.net (resv_key u.net k)

        end : iface_of u.net.ends t.item.end ≡ iface_of u.net.ends k.to → t.item.end ≡ k.to
        end iface = end_found q u u (known_self q u bounds) k.to lt (Deliver 0) i t iface

        by_message : (m : Message) → t.item.arrival ≡ Spelt m → TouchesBy (iface_of u.net.ends t.item.end) m k.style key c.resv → IsLetter u.net k v t.item
        by_message (message.Resv m) e x = inl (m, e, record { end = end x.1; session = x.0; from = x.2; style = x.3 })
        by_message (message.ResvTear m) e x =
            inr (m, e, record { end = end x.0.1; session = x.0.0; from = x.0.2; style = x.0.3 }, subst (λ (z : Part). TakesName m z) c.is x.1)
        by_message (message.Path m) e x = absurd x
        by_message (message.PathErr m) e x = absurd x
        by_message (message.ResvErr m) e x = absurd x
        by_message (message.PathTear m) e x = absurd x
        by_message (message.ResvConf m) e x = absurd x

        by : (a : Arrival) → t.item.arrival ≡ a → Touches (Came (iface_of u.net.ends t.item.end) t.item.dst t.item.arrival) k.style key c.resv → IsLetter u.net k v t.item
        by (Spelt m) e x = by_message m e (subst (λ (z : Arrival). Touches (Came (iface_of u.net.ends t.item.end) t.item.dst z) k.style key c.resv) e x)
        by (Unspelt w) e x = absurd (subst (λ (z : Arrival). Touches (Came (iface_of u.net.ends t.item.end) t.item.dst z) k.style key c.resv) e x)

-- ---- reservations stay sound: what a node keeps it kept, or an item asked for it, and each of both is sound by what the other world wants
module _ (q : ℕ) (u : World) (bounds : AreBounds q u) (bounds' : AreBounds q (step q (Deliver 0) u)) where
  abbrev then_world : World
  then_world = step q (Deliver 0) u

  pub kept_sound : (o : World)
      → ((st : StyleKind) (n : ℕ) (f : Facts) (k : LineKey) (r : ResvState) → slice_get u.nodes n ≡ Some f → get (resvs_of st f) k ≡ Some r
      → (e : ℕ) × (end_at u.net.ends n k.1.0.0 ≡ Some e) × IsSoundPart st o k.0 e k.1.0.1 k.1.1 r.part)
      → ((y : Item) (m : ResvMsg) (v : AskedUnit) → In y u.flight → y.arrival ≡ Spelt (message.Resv m) → In v (asked_units m.ask)
      → (ns : Names) × (v.names ≡ Some ns) × IsSoundPart (ask_style m.ask) o m.session y.end m.hop.addr v.unit (record { senders = ns; flow = v.flow }))
      → (st : StyleKind) (n : ℕ) (g : Facts) (k : LineKey) (x : ResvState) → slice_get then_world.nodes n ≡ Some g → get (resvs_of st g) k ≡ Some x
      → (e : ℕ) × (end_at u.net.ends n k.1.0.0 ≡ Some e) × IsSoundPart st o k.0 e k.1.0.1 k.1.1 x.part
  kept_sound o facts items st n g k x at h =
      let e = end_of q u.net u.trees n k.1.0.0 ((bounds'.facts n g at).shapes.resvs st k x h).iface in
      let of = (interfaces_are_ends u.net).iface_of_end n k.1.0.0 e.0 e.1 in
      let spot : ResvKey = record { session = k.0; style = st; unit = k.1.1; next = k.1.0.1; to = e.0 } in
      let found : resv_at then_world (node_of u.net.ends e.0) st (line_key_of u.net spot) ≡ Some x =
      ap (λ (z : ℕ). resv_at then_world z st (line_key_of u.net spot)) of.1 ∙ ap (λ (z : ℕ). resv_at then_world n st (k.0, ((z, k.1.0.1), k.1.1))) of.2 ∙ resv_made then_world n st k g at ∙ h in
      let good : IsSoundPart st o k.0 e.0 k.1.0.1 k.1.1 x.part =
      ⊎_elim
      (λ (old : WasThere u.net spot u x).
      let f = resv_found u (node_of u.net.ends e.0) st (line_key_of u.net spot) old.resv old.there in
      let y = facts st (node_of u.net.ends e.0) f.0 (line_key_of u.net spot) old.resv f.1 f.2 in
      let end : y.0 ≡ e.0 = of_some y.0 e.0 (sym y.1 ∙ (interfaces_are_ends u.net).end_of_iface e.0 of.0) in
      sound_cut st o k.0 e.0 k.1.0.1 k.1.1 x.part old.resv.part (record { names = old.left.names; flow = old.left.flow; named = old.left.named })
      (subst (λ (z : ℕ). IsSoundPart st o k.0 z k.1.0.1 k.1.1 old.resv.part) end y.2))
      (λ (new : IsAsked u.net spot (Deliver 0) u x).
      let y = items new.item new.says.resv new.says.unit (in_arrived (Deliver 0) u new.item new.arrives) new.says.spelt new.says.asks in
      let listed : AsksFor (Some y.0) new.part.senders = subst (λ (z : Option Names). AsksFor z new.part.senders) y.1 new.says.names in
      let part : new.part ≡ record { senders = y.0; flow = new.says.unit.flow } = same_part new.part (record { senders = y.0; flow = new.says.unit.flow }) listed new.says.flow in
      sound_cut st o k.0 e.0 k.1.0.1 k.1.1 x.part new.part new.cut
      (subst (λ (z : StyleKind × Session × ℕ × Addr × UnitOf × Part). IsSoundPart z.0 o z.1 z.2 z.3 z.4 z.5)
      (λ i. (new.says.style i, new.says.session i, new.says.end i, new.says.hop i, new.says.at i, sym part i)) y.2))
      (resv_source q u spot of.0 (Deliver 0) u refl (known_self q u bounds) x found) in
      (e.0, e.1, good)

  pub resvs_next : ArePathsSound then_world → AreResvsSound u → AreResvsSound then_world
  resvs_next paths' sound = record {
    facts = facts_sound;
    items = λ y m v i spelt asks.
        ⊎_elim
        (λ (old : In y u.flight).
        let x = sound.items y m v old spelt asks in
        record {
          names = x.names;
          named = x.named;
          sound = part_again (ask_style m.ask) u then_world m.session y.end m.hop.addr v.unit (record { senders = x.names; flow = v.flow }) refl (sym same.locals) x.sound;
        })
        (λ (new : (b : Bool) × In (y, b) (sent q (Deliver 0) u)).
        unit_in_turn q (Deliver 0) u bounds (turns q u bounds) bounds' paths' facts_sound y new.0 m new.1 spelt v asks)
        (in_flight_after q (Deliver 0) u y refl i);
  }
    where
      same : IsSameNet u then_world
      same = same_next q 0 u bounds u (known_self q u bounds).same

      facts_sound : (st : StyleKind) (n : ℕ) (g : Facts) (k : LineKey) (x : ResvState) → slice_get then_world.nodes n ≡ Some g → get (resvs_of st g) k ≡ Some x
          → IsSoundResv st then_world n k x
      facts_sound st n g k x at h =
          let s = kept_sound u (λ kind n' f k' r a e. let y = sound.facts kind n' f k' r a e in (y.end, y.at, y.sound))
          (λ y m v i spelt asks. let z = sound.items y m v i spelt asks in (z.names, z.named, z.sound)) st n g k x at h in
          record { end = s.0; at = s.1; sound = part_again st u then_world k.0 s.0 k.1.0.1 k.1.1 x.part refl (sym same.locals) s.2 }

-- ---- where each Resv of the session that arrives is taken whole
module _ (q : ℕ) (s : Session) (u : World) (bounds : AreBounds q u) (l : Locals)
    (taken : (y : Item) (m : ResvMsg) (f : Facts) → In y u.flight → y.arrival ≡ Spelt (message.Resv m) → m.session ≡ s → slice_get u.nodes (node_of u.net.ends y.end) ≡ Some f
    → IsTakenWhole (config_of q u.net u.trees (node_of u.net.ends y.end)) (config_of q u.net u.trees (node_of u.net.ends y.end)) (u.clock + 0) (iface_of u.net.ends y.end) m f
    (goal_at u.net l (node_of u.net.ends y.end))) where
  abbrev next : World
  next = step q (Deliver 0) u

  -- ---- so nothing of it is refused
  no_refusal : (n : ℕ) (f : Facts) (i : Input) → slice_get u.nodes n ≡ Some f → input_at (Deliver 0) u n ≡ Some i → (at : ℕ) (m : ResvMsg)
      → i ≡ Came at (own (config_of q u.net u.trees n) at) (Spelt (message.Resv m)) → m.session ≡ s
      → (rule (config_of q u.net u.trees n) (config_of q u.net u.trees n) (u.clock + 0) i f).heard ≡ heard.Taken
  no_refusal n f i there came at m is of =
      let t = came_by_delivery q 0 u bounds n i came in
      let same_input : Came (iface_of u.net.ends t.item.end) t.item.dst t.item.arrival ≡ Came at (own (config_of q u.net u.trees n) at) (Spelt (message.Resv m)) = sym t.is ∙ is in
      let iface : iface_of u.net.ends t.item.end ≡ at = cc in
      let spelt : t.item.arrival ≡ Spelt (message.Resv m) = cc in
      let node : node_of u.net.ends t.item.end ≡ n = ap node_of_end t.there ∙ t.node in
      let w = taken t.item m f (in_arrived (Deliver 0) u t.item t.arrives) spelt of (ap (λ (z : ℕ). slice_get u.nodes z) node ∙ there) in
      let w' : IsTakenWhole (config_of q u.net u.trees n) (config_of q u.net u.trees n) (u.clock + 0) at m f (goal_at u.net l n) =
      subst (λ (z : ℕ × ℕ). IsTakenWhole (config_of q u.net u.trees z.0) (config_of q u.net u.trees z.0) (u.clock + 0) z.1 m f (goal_at u.net l z.0)) (λ j. (node j, iface j)) w in
      ap (λ (z : Input). (rule (config_of q u.net u.trees n) (config_of q u.net u.trees n) (u.clock + 0) z f).heard) is ∙ w'.heard_it

  pub no_error_next : HasNoFlowErrorOf s u → HasNoFlowErrorOf s next
  no_error_next no_error y m i spelt of = by m.blame.flow refl
    where
      by : (o : Option TokenBucket) → m.blame.flow ≡ o → m.blame.flow ≡ None
      by None e = e
      by (Some flow) e =
          ⊎_elim (λ (old : In y u.flight). no_error y m old spelt of)
          (λ (new : (b : Bool) × In (y, b) (sent q (Deliver 0) u)).
          let d = sent_by_rule q (Deliver 0) u y new.0 (message.ResvErr m) refl new.1 spelt in
          let p : NodeConfig = config_of q u.net u.trees d.node in
          ⊎_elim
          (λ (x : IsRefusal p p (u.clock + 0) d.by.input d.facts d.send).
          absurd (x.not_taken (no_refusal d.node d.facts d.by.input d.there d.by.came x.at x.resv x.came (sym (x.session m d.says) ∙ of))))
          (λ (x : IsPassedOn p d.by.input d.facts d.send m).
          let t = came_by_delivery q 0 u bounds d.node d.by.input d.by.came in
          let input : Came (iface_of u.net.ends t.item.end) t.item.dst t.item.arrival ≡ Came x.at (own p x.at) (Spelt (message.ResvErr x.error)) = sym t.is ∙ x.came in
          let said : t.item.arrival ≡ Spelt (message.ResvErr x.error) = cc in
          x.flow ∙ no_error t.item x.error (in_arrived (Deliver 0) u t.item t.arrives) said (sym x.session ∙ of))
          (where_an_error_with_a_flow_comes_from.source (node_step p p u.clock (u.clock + 0) d.by.input d.facts) (bounds.facts d.node d.facts d.there) d.send m flow d.sent d.says e))
          (in_flight_after q (Deliver 0) u y refl i)

  -- ---- and no blockade of it is set
  walled_session : (e : ℕ) (m : ResvErrMsg) (st : StyleKind) (k : WallKey) → In k (walled_by e m st) → k.0 ≡ m.session
  walled_session e m Wild k i = ⊎_elim (λ (is : k ≡ (m.session, target.Hop e m.hop.addr)). ap (λ (z : WallKey). z.0) is) (λ (n : ⊥). absurd n) i
  walled_session e m Fixed k i = let x = in_each (λ (z : Sender). (m.session, target.Sender z)) k (blamed_senders m.blame.senders) i in ap (λ (z : WallKey). z.0) x.2
  walled_session e m Shared k i = let x = in_each (λ (z : Sender). (m.session, target.Sender z)) k (blamed_senders m.blame.senders) i in ap (λ (z : WallKey). z.0) x.2

  pub free_next : HasNoFlowErrorOf s u → IsFreeOfBlockadesOf s u → IsFreeOfBlockadesOf s next
  free_next no_error free n g at t = by (get g.walls (s, t)) refl
    where
      by : (o : Option Blockade) → get g.walls (s, t) ≡ o → get g.walls (s, t) ≡ None
      by None e = e
      by (Some b) e =
          let f = facts_after_found q (Deliver 0) u n g at in
          let p : NodeConfig = config_of q u.net u.trees n in
          let now : get (outcome q (Deliver 0) u n f.0).facts.walls (s, t) ≡ Some b = ap (λ (z : Facts). get z.walls (s, t)) (sym f.2) ∙ e in
          let none : get f.0.walls (s, t) ≡ None = free n f.0 f.1 t in
          ⊎_elim
          (λ (z : (input_at (Deliver 0) u n ≡ None) × (outcome q (Deliver 0) u n f.0 ≡ still f.0)).
          let bad : None ≡ Some b = sym none ∙ sym (ap (λ (o : Outcome). get o.facts.walls (s, t)) z.1) ∙ now in absurd (cc))
          (λ (h : FollowsRule q (Deliver 0) u n f.0 (outcome q (Deliver 0) u n f.0)).
          ⊎_elim
          (λ (old : get f.0.walls (s, t) ≡ Some b). let bad : None ≡ Some b = sym none ∙ old in absurd (cc))
          (λ (set : IsBlockadeSet p (u.clock + 0) h.input f.0 (s, t) b).
          let c = came_by_delivery q 0 u bounds n h.input h.came in
          let input : Came (iface_of u.net.ends c.item.end) c.item.dst c.item.arrival ≡ Came set.at (own p set.at) (Spelt (message.ResvErr set.error)) = sym c.is ∙ set.came in
          let said : c.item.arrival ≡ Spelt (message.ResvErr set.error) = cc in
          let bad : None ≡ Some set.flow =
          sym (no_error c.item set.error (in_arrived (Deliver 0) u c.item c.arrives) said (sym (walled_session set.at set.error set.error.blame.style (s, t) set.target))) ∙ set.says in
          absurd (cc))
          (where_a_blockade_comes_from (node_step p p u.clock (u.clock + 0) h.input f.0) (bounds.facts n f.0 f.1) (s, t) b (sym (ap (λ (o : Outcome). get o.facts.walls (s, t)) h.is) ∙ now)))
          (outcome_quiet q (Deliver 0) u n f.0 refl)

  -- ---- what stands behind a hop, where each unit in flight lists names
  module _ (listed : (y : Item) (m : ResvMsg) (v : AskedUnit) → In y u.flight → y.arrival ≡ Spelt (message.Resv m) → In v (asked_units m.ask) → (ns : Names) × (v.names ≡ Some ns)) where
    module _ (k : HopKey) (v : Part) (of : k.session ≡ s) (there : In (hop_over k) (hops_of u.net.hops k.session.group)) where
      -- a Resv that asks for the part is taken
      pub asked_is_kept : (y : Item) → slice_get u.flight 0 ≡ Some y → SaysResv u.net (resv_key u.net k) y v → IsKeptOver next k v
      asked_is_kept y arr says =
          let n : ℕ = node_of u.net.ends k.to in
          let e : ℕ = iface_of u.net.ends k.to in
          let p : NodeConfig = config_of q u.net u.trees n in
          let m : ResvMsg = says.resv in
          let f = node_there q u bounds.net u k.to (known_self q u bounds) (lt q u bounds k there) in
          let end : end_at u.net.ends n e ≡ Some k.to = (interfaces_are_ends u.net).end_of_iface k.to (lt q u bounds k there) in
          let dst : y.dst ≡ own p e = says.dst ∙ sym (own_end q u.net u.trees n e k.to end) in
          let input : Input = Came e (own p e) (Spelt (message.Resv m)) in
          let came : input_at (Deliver 0) u n ≡ Some input = came_there q u u (known_self q u bounds) k.to (lt q u bounds k there) (Deliver 0) y arr says.end
          ∙ (λ j. Some (Came e (dst j) (says.spelt j))) in
          let w = taken y m f.0 (in_arrived (Deliver 0) u y arr) says.spelt (says.session ∙ of) (ap (λ (z : ℕ). slice_get u.nodes (node_of u.net.ends z)) says.end ∙ f.1) in
          let w' : IsTakenWhole p p (u.clock + 0) e m f.0 (goal_at u.net l n) = subst
          (λ (z : ℕ). IsTakenWhole (config_of q u.net u.trees (node_of u.net.ends z)) (config_of q u.net u.trees (node_of u.net.ends z)) (u.clock + 0) (iface_of u.net.ends z) m f.0
          (goal_at u.net l (node_of u.net.ends z))) says.end w in
          let x = listed y m says.unit (in_arrived (Deliver 0) u y arr) says.spelt says.asks in
          let asks_for : AsksFor (Some x.0) v.senders = subst (λ (z : Option Names). AsksFor z v.senders) x.1 says.names in
          let part : v ≡ record { senders = x.0; flow = says.unit.flow } = same_part v (record { senders = x.0; flow = says.unit.flow }) asks_for says.flow in
          let d = w'.facts says.unit x.0 says.asks x.1 in
          let g : Facts = (outcome q (Deliver 0) u n f.0).facts in
          let after : slice_get next.nodes n ≡ Some g = facts_after_made q (Deliver 0) u n f.0 f.1 in
          let is : g ≡ facts_then p p (u.clock + 0) input f.0 = ap (λ (o : Outcome). o.facts) (outcome_by q (Deliver 0) u n f.0 input refl came) in
          record {
            resv = d.0;
            there = resv_made next n k.style (line_key_of u.net (resv_key u.net k)) g after
                ∙ (λ j. get (resvs_of (sym says.style j) (is j)) (sym says.session j, ((e, sym says.hop j), sym says.at j))) ∙ d.1;
            is = d.2 ∙ sym part;
          }

    -- and a reservation stays that nothing touches
    module _ (bounds' : AreBounds q next) (paths' : ArePathsSound next)
        (stays : (k : HopKey) (v : Part) → In (hop_over k) (hops_of u.net.hops k.session.group) → (c : IsKeptOver u k v)
        → ((f : Facts) → slice_get u.nodes (node_of u.net.ends k.to) ≡ Some f → (h : Turns q (Deliver 0) u (node_of u.net.ends k.to) f)
        → Touches h.input k.style (line_key_of u.net (resv_key u.net k)) c.resv → ⊥)
        → IsKeptOver next k v) where
      -- the part stays where what arrives asks for it, if it is a letter over the hop
      kept_next : (k : HopKey) (v : Part) (of : k.session ≡ s) (there : In (hop_over k) (hops_of u.net.hops k.session.group)) → IsKeptOver u k v
          → ((y : Item) → slice_get u.flight 0 ≡ Some y → IsLetter u.net k v y → SaysResv u.net (resv_key u.net k) y v) → IsKeptOver next k v
      kept_next k v of there c all = by (slice_get u.flight 0) refl
        where
          on : ((y : Item) → slice_get u.flight 0 ≡ Some y → IsLetter u.net k v y → ⊥) → IsKeptOver next k v
          on none =
              stays k v there c
              (λ f at h touch. let t = came_by_delivery q 0 u bounds (node_of u.net.ends k.to) h.input h.came in none t.item t.arrives (touched q u bounds k there v c h.input t touch))

          by : (o : Option Item) → slice_get u.flight 0 ≡ o → IsKeptOver next k v
          by None e = on (λ y arr l. let bad : None ≡ Some y = sym e ∙ arr in cc)
          by (Some y) e =
              ⊎_elim (λ (x : (m : ResvMsg) × (y.arrival ≡ Spelt (message.Resv m)) × IsOver u.net k y m.session m.hop.addr (ask_style m.ask)). asked_is_kept k v of there y e (all y e (inl x)))
              (λ (no : (m : ResvMsg) → y.arrival ≡ Spelt (message.Resv m) → IsOver u.net k y m.session m.hop.addr (ask_style m.ask) → ⊥).
              on (λ z arr l.
              let is : z ≡ y = of_some z y (sym arr ∙ e) in
              let says = all z arr l in
              no says.resv (ap (λ (w : Item). w.arrival) (sym is) ∙ says.spelt)
              (record { end = ap (λ (w : Item). w.end) (sym is) ∙ says.end; session = says.session; from = says.hop; style = says.style })))
              (of_item q u bounds k there y)

      -- ---- each node has asked for what goes from it
      pub asked_next : AreAskedFor q s u → AreAskedFor q s next
      asked_next asked k v g of there at goes =
          let n : ℕ = node_of u.net.ends k.from in
          let p : NodeConfig = config_of q u.net u.trees n in
          let f = facts_after_found q (Deliver 0) u n g at in
          let goes' : get (toward p (outcome q (Deliver 0) u n f.0).facts (lane_of u.net k)) k.unit ≡ Some v = ap (λ (z : Facts). get (toward p z (lane_of u.net k)) k.unit) (sym f.2) ∙ goes in
          let new : List Item = news q (Deliver 0) u in
          let all_new : AllAsk u.net k v new =
          (λ y i l.
          let x = in_each (λ (z : Item × Bool). z.0) y (sent q (Deliver 0) u) i in
          all_ask q (Deliver 0) u bounds (turns q u bounds) bounds' paths' k there g at v goes y x.0.1 (subst (λ (z : Item). In (z, x.0.1) (sent q (Deliver 0) u)) (sym x.2) x.1) l) in
          ⊎_elim
          (λ (stays : toward p f.0 (lane_of u.net k) ≡ toward p (outcome q (Deliver 0) u n f.0).facts (lane_of u.net k)).
          ⊎_elim
          (λ (c : IsKeptOver u k v × AllAsk u.net k v u.flight).
          inl (
            kept_next k v of there c.0 (λ y arr l. c.1 y (in_arrived (Deliver 0) u y arr) l),
            all_append u.net k v (remove u.flight 0) new (λ y i l. c.1 y (in_rest (Deliver 0) u y refl i) l) all_new,
          ))
          (λ (last : IsAskedLast u.net k v u.flight). by_flight k v of there new all_new u.flight refl last)
          (asked k v f.0 of there f.1 (ap (λ (z : PartTable). get z k.unit) stays ∙ goes')))
          (λ (now : (x : Part) → get (toward p (outcome q (Deliver 0) u n f.0).facts (lane_of u.net k)) k.unit ≡ Some x
          → IsAskedNow q (Deliver 0) u bounds (turns q u bounds) bounds' paths' k there x).
          let x = now v goes' in inr (last_behind u.net k v (remove u.flight 0) new (last_asked u.net k v new x.item x.new x.says all_new)))
          (stays_or_asked q (Deliver 0) u bounds (turns q u bounds) bounds' paths' k there f.0 f.1)
        where
          by_flight : (k : HopKey) (v : Part) (of : k.session ≡ s) (there : In (hop_over k) (hops_of u.net.hops k.session.group)) (new : List Item) → AllAsk u.net k v new
              → (ys : List Item) → u.flight ≡ ys → IsAskedLast u.net k v ys
              → (IsKeptOver next k v × AllAsk u.net k v (remove u.flight 0 ++ new)) ⊎ IsAskedLast u.net k v (remove u.flight 0 ++ new)
          by_flight k v of there new all [] e last = absurd last
          by_flight k v of there new all (z ∷ zs) e last =
              let flight : zs ≡ remove u.flight 0 = ap (λ (ys : List Item). remove ys 0) (sym e) in
              subst (λ (ys : List Item). (IsKeptOver next k v × AllAsk u.net k v (ys ++ new)) ⊎ IsAskedLast u.net k v (ys ++ new)) flight
              (⊎_elim (λ (more : IsAskedLast u.net k v zs). inr (last_before u.net k v zs new more all))
              (λ (now : SaysResv u.net (resv_key u.net k) z v × AllAsk u.net k v zs).
              inl (asked_is_kept k v of there z (ap (λ (ys : List Item). slice_get ys 0) e) now.0, all_append u.net k v zs new now.1 all)) last)

-- ---- and a call leaves that each node has asked for what goes from it, where reservations stay
module _ (q n : ℕ) (call : Local) (w : World) (bounds : AreBounds q w) (bounds' : AreBounds q (step q (At n call) w)) (sound' : ArePathsSound (step q (At n call) w)) where
  abbrev asked : World
  asked = step q (At n call) w

  pub asked_then : (s : Session) → ((k : HopKey) (v : Part) → In (hop_over k) (hops_of w.net.hops k.session.group) → IsKeptOver w k v → IsKeptOver asked k v)
      → AreAskedFor q s w → AreAskedFor q s asked
  asked_then s kept_then before k v g of there at goes =
      let m : ℕ = node_of w.net.ends k.from in
      let p : NodeConfig = config_of q w.net w.trees m in
      let f = facts_after_found q (At n call) w m g at in
      let goes' : get (toward p (outcome q (At n call) w m f.0).facts (lane_of w.net k)) k.unit ≡ Some v = ap (λ (z : Facts). get (toward p z (lane_of w.net k)) k.unit) (sym f.2) ∙ goes in
      let new_ones : List Item = news q (At n call) w in
      let all_new : AllAsk w.net k v new_ones =
      (λ y i l.
      let x = in_each (λ (z : Item × Bool). z.0) y (sent q (At n call) w) i in
      all_ask q (At n call) w bounds (called_turns q n call w) bounds' sound' k there g at v goes y x.0.1 (subst (λ (z : Item). In (z, x.0.1) (sent q (At n call) w)) (sym x.2) x.1) l) in
      ⊎_elim
      (λ (stays : toward p f.0 (lane_of w.net k) ≡ toward p (outcome q (At n call) w m f.0).facts (lane_of w.net k)).
      ⊎_elim
      (λ (x : IsKeptOver w k v × AllAsk w.net k v w.flight). inl (kept_then k v there x.0, all_append w.net k v w.flight new_ones x.1 all_new))
      (λ (last : IsAskedLast w.net k v w.flight). inr (last_before w.net k v w.flight new_ones last all_new))
      (before k v f.0 of there f.1 (ap (λ (z : PartTable). get z k.unit) stays ∙ goes')))
      (λ (now : (x : Part) → get (toward p (outcome q (At n call) w m f.0).facts (lane_of w.net k)) k.unit ≡ Some x
      → IsAskedNow q (At n call) w bounds (called_turns q n call w) bounds' sound' k there x).
      let x = now v goes' in inr (last_behind w.net k v w.flight new_ones (last_asked w.net k v new_ones x.item x.new x.says all_new)))
      (stays_or_asked q (At n call) w bounds (called_turns q n call w) bounds' sound' k there f.0 f.1)
