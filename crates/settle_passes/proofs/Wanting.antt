-- A receiver asks: its node says so at once, and all else stays. And how it begins, in a settled network.
use Rattle.std.proofs.Common.{◌≡◌, ℕ, ◌+◌, List, [], Bool, true, false, Option, None, Some, ◌⊎◌, inl, ⊎_elim, arith, sym, refl, ap, subst, ◌∙◌}
use Rattle.std.specs.Prelude.{slice_get, is_some}
use Rattle.std.specs.Ordering.{eq_by_cmp}
use Rattle.rsvp_base.specs.declared.addr.Addr.{Addr}
use Rattle.rsvp_base.specs.declared.part.Part.{Part}
use Rattle.rsvp_base.specs.declared.session.Sender.{Sender}
use Rattle.rsvp_base.specs.declared.session.Session.{Session}
use Rattle.rsvp_base.specs.declared.style.StyleKind.{StyleKind}
use Rattle.rsvp_base.specs.declared.style.StyleKind.TheVariants.{Wild, Fixed, Shared}
use Rattle.rsvp_base.specs.declared.style.Unit.{Unit as UnitOf}
use Rattle.rsvp_base.specs.declared.style.Unit.TheVariants.{One, Of}
use Rattle.rsvp_base.specs.Members.{In}
use Rattle.rsvp_base.specs.Orders.{Names, styles}
use Rattle.rsvp_base.specs.Table.{empty, get, keys}
use Rattle.rsvp_base.specs.TokenBucket.{IsSound, TokenBucket}
use Rattle.rsvp_base.proofs.Members.{in_each}
use Rattle.rsvp_base.proofs.Tables.{either, tied_same, tied_self}
use Rattle.rsvp_messages.specs.Units.{ask_style, only}
use Rattle.style_rules.specs.Lines.{LineKey}
use Rattle.style_rules.specs.Merge.{PartTable}
use Rattle.style_rules.specs.PartLaws.{part_at_most_itself}
use Rattle.style_rules.specs.Parts.{IsPartAtMost}
use Rattle.laws_bounds.proofs.Calling.{call_refusals, calls_leave}
use Rattle.laws_bounds.proofs.Framing.{wants_then}
use Rattle.laws_steps.specs.ReservationLaws.{Touches}
use Rattle.router_rules.specs.declared.answers.LocalErr.{LocalErr}
use Rattle.router_rules.specs.Calls.{call_refusal, unless, wanted, wants_with}
use Rattle.router_rules.specs.Facts.{Facts, ResvState, Want, WantKey, resvs_of, table_of}
use Rattle.router_rules.specs.Inputs.{Call, Input, Local, WantAs}
use Rattle.router_rules.specs.NodeConfig.{NodeConfig}
use Rattle.router_rules.specs.Requests.{toward}
use Rattle.router_rules.specs.Rule.{Outcome}
use Rattle.router_rules.specs.Steps.{IsFitList, facts_then}
use Rattle.tree_model.specs.declared.hops.LinkHop.{LinkHop}
use Rattle.tree_model.specs.Goals.{addr_of}
use Rattle.tree_model.specs.Networks.{iface_of, node_of}
use Rattle.tree_model.specs.Ranks.{longest}
use Rattle.tree_model.specs.Trees.{hops_of}
use Rattle.tree_model.specs.Wants.{want}
use Rattle.tree_model.specs.declared.locals.LocalWant.{LocalWant}
use Rattle.tree_model.proofs.RankLaws.{rank_falls}
use Rattle.network_model.specs.Locals.{locals_of, want_at}
use Rattle.network_model.specs.Sound.{AreResvsSound, IsSoundPart, IsSoundResv}
use Rattle.network_model.specs.Steps.{At, ms_of, outcome, sent, still}
use Rattle.network_model.specs.Worlds.{Item, World, config_of}
use Rattle.network_model.proofs.NodeLocals.{node_wants, want_of_node}
use Rattle.network_model.proofs.Quiet.{at_node_found}
use Rattle.network_model.proofs.Stepping.{facts_after_found, facts_after_made}
use Rattle.laws_network.proofs.Known.{has_some, of_some}
use Rattle.settle_resvs.specs.Said.{HopKey, hop_over, lane_of, resv_key}
use Rattle.settle_resvs.specs.Sessions.{AreExactOf, IsFreeOfBlockadesOf, SessionFits}
use Rattle.settle_resvs.specs.SoftResvs.{line_key_of}
use Rattle.settle_resvs.proofs.ExactResvs.{toward_at}
use Rattle.settle_resvs.proofs.SoftResvs.{resv_made}
use Rattle.settle_resvs.proofs.WantStyles.{want_parts}
use Rattle.settle_passes.specs.Calls.{HasItsPaths}
use Rattle.settle_passes.specs.Passes.{after_passes}
use Rattle.settle_passes.specs.Reserving.{AsksNoLess, HasReserved, IsKeptOver, IsReserving, after_want}
use Rattle.settle_passes.proofs.Growing.{HasNoLess, sound_grows}
use Rattle.settle_passes.proofs.Rising.{reservations_are_set_up}
use Rattle.settle_passes.proofs.Turns.{Turns, addressed_in_turn, kept_on, unit_in_turn}
use Rattle.settle_passes.proofs.Called.{IsCalled, called, free_then, in_flight_then, known_on, no_error_then, paths_then, resvs_same, senders_then, spares_senders, turns}
use Rattle.settle_passes.proofs.Arriving.{asked_then}

-- the wants of a call are of its session and style, and marked as it says
pub wanted_told : (s : Session) (st : StyleKind) (names : Names) (flow : TokenBucket) (mark : Bool) (k : WantKey) (y : Want) → In (k, y) (wanted s st names flow mark)
    → (k.0 ≡ s) × (y.style ≡ st) × (y.confirm ≡ mark)
wanted_told s Wild names flow mark k y i =
    ⊎_elim (λ (e : (k, y) ≡ ((s, One), record { style = Wild; part = record { senders = empty; flow = flow }; confirm = mark })).
    (ap (λ (z : WantKey × Want). z.0.0) e, ap (λ (z : WantKey × Want). z.1.style) e, ap (λ (z : WantKey × Want). z.1.confirm) e)) (λ (no : ⊥). absurd no) i
wanted_told s Fixed names flow mark k y i =
    let r = in_each (λ (z : Sender). ((s, Of z), record { style = Fixed; part = record { senders = only z; flow = flow }; confirm = mark })) (k, y) (keys names) i in
    (ap (λ (z : WantKey × Want). z.0.0) r.2, ap (λ (z : WantKey × Want). z.1.style) r.2, ap (λ (z : WantKey × Want). z.1.confirm) r.2)
wanted_told s Shared names flow mark k y i =
    ⊎_elim (λ (e : (k, y) ≡ ((s, One), record { style = Shared; part = record { senders = names; flow = flow }; confirm = mark })).
    (ap (λ (z : WantKey × Want). z.0.0) e, ap (λ (z : WantKey × Want). z.1.style) e, ap (λ (z : WantKey × Want). z.1.confirm) e)) (λ (no : ⊥). absurd no) i

module _ (q n : ℕ) (c : Session) (st : StyleKind) (names : Names) (flow : TokenBucket) (confirm : Bool) (w : World) (start : HasItsPaths q w) (fit : IsFitList st names × IsSound flow) where
  abbrev call : Local
  call = WantAs c st names flow confirm

  abbrev asked : World
  asked = after_want q n c st names flow confirm w

  turned : (m : ℕ) (f : Facts) → slice_get w.nodes m ≡ Some f → (outcome q (At n call) w m f ≡ still f) ⊎ Turns q (At n call) w m f
  turned = turns q n call w

  pub paths : HasItsPaths q asked
  paths = paths_then q n call w refl fit start

  -- ---- where the call asks for no less, all wants do
  module _ (no_less : AsksNoLess w n c st names flow confirm) where
    wanted_then : (m : ℕ) (f : Facts) → slice_get w.nodes m ≡ Some f → IsCalled q w n call m f → (k : WantKey) (x : Want) → get f.wants k ≡ Some x → (o : Option LocalErr)
        → call_refusal (config_of q w.net w.trees m) call f ≡ o
        → (y : Want) × (get (unless o (wants_with call f.wants) f.wants) k ≡ Some y) × (y.style ≡ x.style) × IsPartAtMost x.part y.part
    wanted_then m f at h k x e (Some why) refused = (x, e, refl, part_at_most_itself x.part)
    wanted_then m f at h k x e None taken = by (get (wants_with call f.wants) k) refl
      where
        by : (o : Option Want) → get (wants_with call f.wants) k ≡ o → (y : Want) × (get (wants_with call f.wants) k ≡ Some y) × (y.style ≡ x.style) × IsPartAtMost x.part y.part
        by None g =
            let beside = calls_leave.wanted_beside c st names flow confirm f.wants k
            (λ y i. let bad : None ≡ Some y = sym g ∙ calls_leave.wanted_there c st names flow confirm f.wants k y i in cc) in
            let bad : None ≡ Some x = sym g ∙ beside ∙ e in
            absurd (cc)
        by (Some y) g =
            ⊎_elim
            (λ (old : get f.wants k ≡ Some y).
            let is : y ≡ x = of_some y x (sym old ∙ e) in
            (y, g, ap (λ (z : Want). z.style) is, subst (λ (z : Want). IsPartAtMost x.part z.part) (sym is) (part_at_most_itself x.part)))
            (λ (new : In (k, y) (wanted c st names flow confirm)).
            let told = wanted_told c st names flow confirm k y new in
            let there : get f.wants (c, k.1) ≡ Some x = ap (λ (z : Session). get f.wants (z, k.1)) (sym told.0) ∙ e in
            let one : x.style ≡ st = either (eq_by_cmp styles.cmp x.style st) (λ tied. tied_same styles x.style st tied)
            (λ apart. absurd (((call_refusals.wants (config_of q w.net w.trees m) f c st names flow confirm).0 taken).0
            (record {
              unit = k.1;
              want = x;
              there = there;
              other = λ same_style. let bad : true ≡ false = sym (ap (λ (z : StyleKind). eq_by_cmp styles.cmp z st) same_style ∙ tied_self styles st) ∙ apart in cc;
            }))) in
            (y, g, told.1 ∙ sym one, no_less f k x y (ap (λ (z : ℕ). slice_get w.nodes z) h.node ∙ at) e new))
            (calls_leave.wanted_source c st names flow confirm f.wants k y g)

    want_then : (m : ℕ) (f : Facts) → slice_get w.nodes m ≡ Some f → (k : WantKey) (x : Want) → get f.wants k ≡ Some x
        → (y : Want) × (get (outcome q (At n call) w m f).facts.wants k ≡ Some y) × (y.style ≡ x.style) × IsPartAtMost x.part y.part
    want_then m f at k x e =
        ⊎_elim (λ (z : outcome q (At n call) w m f ≡ still f). (x, ap (λ (o : Outcome). get o.facts.wants k) z ∙ e, refl, part_at_most_itself x.part))
        (λ (h : IsCalled q w n call m f).
        let p : NodeConfig = config_of q w.net w.trees m in
        let d : ℕ = w.clock + ms_of (At n call) in
        let y = wanted_then m f at h k x e (call_refusal p call f) refl in
        let marks = wants_then p p d (Call call) f in
        let z = has_some (get (facts_then p p d (Call call) f).wants k) (marks.there k ∙ ap (λ (o : Option Want). is_some o) y.1) in
        let b = marks.source k z.0 z.1 in
        let is : b.0 ≡ y.0 = of_some b.0 y.0 (sym b.1 ∙ y.1) in (
          z.0,
          ap (λ (o : Outcome). get o.facts.wants k) h.is ∙ z.1,
          b.2.style ∙ ap (λ (v : Want). v.style) is ∙ y.2,
          subst (λ (v : Part). IsPartAtMost x.part v) (sym (b.2.part ∙ ap (λ (v : Want). v.part) is)) y.3,
        ))
        (called q w n call m f)

    pub more : (x : LocalWant) → In x (locals_of w).wants → HasNoLess (locals_of asked).wants x
    more x i =
        let r = want_of_node w x i in
        let d = want_then x.node r.0 r.3 r.1 r.2 r.4 in
        record {
          want = want_at x.node (r.1, d.0);
          among = node_wants asked x.node (outcome q (At n call) w x.node r.0).facts r.1 d.0 (facts_after_made q (At n call) w x.node r.0 r.3) d.1;
          node = refl;
          session = ap (λ (z : LocalWant). z.session) (sym r.5);
          style = d.2 ∙ ap (λ (z : LocalWant). z.style) (sym r.5);
          part = subst (λ (z : Part). IsPartAtMost z d.0.part) (ap (λ (z : LocalWant). z.part) (sym r.5)) d.3;
        }

    -- ---- so what is sound stays so
    pub sound_on : (st' : StyleKind) (s : Session) (e : ℕ) (next : Addr) (u : UnitOf) (p : Part) → IsSoundPart st' w s e next u p → IsSoundPart st' asked s e next u p
    sound_on st' s e next u p h =
        sound_grows st' w asked refl start.bounds.net.loop_free (want_parts q w start.bounds) (want_parts q asked paths.bounds)
        (sym (senders_then q n call w (spares_senders q n call w refl))) more s e next u p h

    resv_sound : AreResvsSound w → (st' : StyleKind) (m : ℕ) (g : Facts) (k : LineKey) (x : ResvState) → slice_get asked.nodes m ≡ Some g → get (resvs_of st' g) k ≡ Some x
        → IsSoundResv st' asked m k x
    resv_sound sound st' m g k x at h =
        let f = facts_after_found q (At n call) w m g at in
        let old : get (resvs_of st' f.0) k ≡ Some x = ap (λ (z : _). get (table_of st' z) k) (sym (resvs_same q n call w refl start.bounds m f.0 f.1) ∙ ap (λ (z : Facts). z.resvs) (sym f.2)) ∙ h in
        let y = sound.facts st' m f.0 k x f.1 old in
        record { end = y.end; at = y.at; sound = sound_on st' k.0 y.end k.1.0.1 k.1.1 x.part y.sound }

    resvs_then : AreResvsSound w → AreResvsSound asked
    resvs_then sound = record {
      facts = resv_sound sound;
      items = λ y m v i spelt asks.
          ⊎_elim
          (λ (old : In y w.flight).
          let x = sound.items y m v old spelt asks in
          record { names = x.names; named = x.named; sound = sound_on (ask_style m.ask) m.session y.end m.hop.addr v.unit (record { senders = x.names; flow = v.flow }) x.sound })
          (λ (now : (b : Bool) × In (y, b) (sent q (At n call) w)).
          unit_in_turn q (At n call) w start.bounds turned paths.bounds paths.sound (resv_sound sound) y now.0 m now.1 spelt v asks) (in_flight_then q n call w y i);
    }

  -- ---- reservations that are set up
  module _ (s : Session) (r : IsReserving q s w) (resvs : AreResvsSound asked) (fits : SessionFits asked.net (locals_of asked) s) where
    kept_then : (k : HopKey) (v : Part) → IsKeptOver w k v → IsKeptOver asked k v
    kept_then k v x =
        let now : w.clock + 0 ≡ w.clock = omega arith in
        kept_on q (At n call) w start.bounds turned start.hosts start.sound start.complete r.sound now (known_on q n call w (spares_senders q n call w refl)) k v x
        (λ f at h touch. subst (λ (z : Input). Touches z k.style (line_key_of w.net (resv_key w.net k)) x.resv)
        (at_node_found n (node_of w.net.ends k.to) (Call call) h.input h.came).1 touch)

    pub reserving_then : IsReserving q s asked
    reserving_then = record {
      paths = paths;
      sound = resvs;
      fit = fits;
      free = free_then q n call w s r.free;
      no_error = no_error_then q n call w start.bounds s r.no_error;
      addressed = λ y m i spelt.
          ⊎_elim (λ (old : In y w.flight). r.addressed y m old spelt)
          (λ (new : (b : Bool) × In (y, b) (sent q (At n call) w)). addressed_in_turn q (At n call) w start.bounds turned paths.bounds paths.sound y new.0 m new.1 spelt)
          (in_flight_then q n call w y i);
      asked = asked_then q n call w start.bounds paths.bounds paths.sound s (λ k v there x. kept_then k v x) r.asked;
    }

pub a_receiver_is_set_up : (q n : ℕ) (s c : Session) (st : StyleKind) (names : Names) (flow : TokenBucket) (confirm : Bool) (w : World) → IsReserving q s w → IsFitList st names → IsSound flow
    → AsksNoLess w n c st names flow confirm → SessionFits w.net (locals_of (after_want q n c st names flow confirm w)) s
    → IsReserving q s (after_want q n c st names flow confirm w) × HasReserved s (after_passes q (longest w.net) (after_want q n c st names flow confirm w))
a_receiver_is_set_up q n s c st names flow confirm w r list sound no_less fits =
    let resvs = resvs_then q n c st names flow confirm w r.paths (list, sound) no_less r.sound in
    let then_is = reserving_then q n c st names flow confirm w r.paths (list, sound) s r resvs fits in
    (then_is, reservations_are_set_up q s (after_want q n c st names flow confirm w) then_is)

-- ---- a network in which nothing is in flight, and in which the reservations of the session are exact
pub a_settled_session_is_reserved : (q : ℕ) (s : Session) (w : World) → HasItsPaths q w → AreResvsSound w → SessionFits w.net (locals_of w) s → IsFreeOfBlockadesOf s w → AreExactOf s w → w.flight ≡ []
    → IsReserving q s w
a_settled_session_is_reserved q s w paths sound fit free exact quiet = record {
  paths = paths;
  sound = sound;
  fit = fit;
  free = free;
  no_error = λ y m i spelt of. absurd (nothing y i);
  addressed = λ y m i spelt. absurd (nothing y i);
  asked = λ k v f of there at goes.
      let h : LinkHop = hop_over k in
      let most = (rank_falls w.net paths.bounds.net.loop_free).hops k.session.group h there in
      let is : toward (config_of q w.net w.trees (node_of w.net.ends k.from)) f (lane_of w.net k) ≡ want k.style w.net (locals_of w) k.session h =
      toward_at q s (longest w.net) w
      (record {
        ready = record { bounds = paths.bounds; locals = paths.hosts; fit = fit; sound = paths.sound; complete = paths.complete; resvs = sound };
        free = free;
        addressed = λ y m i born spelt. absurd (nothing y i);
      })
      (λ st' h' there' near. exact st' h' there') (node_of w.net.ends k.from) f at (lane_of w.net k) of h (record { there = there; node = refl; iface = refl; addr = refl }) (omega (arith, most.1)) in
      let x = exact k.style h (subst (λ (z : Session). In h (hops_of w.net.hops z.group)) of there) in
      let r = x.wanted k.unit v (ap (λ (z : Session). get (want k.style w.net (locals_of w) z h) k.unit) (sym of) ∙ ap (λ (z : PartTable). get z k.unit) (sym is) ∙ goes) in
      inl (
        record {
          resv = r.0;
          there = resv_made w (node_of w.net.ends k.to) k.style (line_key_of w.net (resv_key w.net k)) x.facts x.node
              ∙ ap (λ (z : Session). get (resvs_of k.style x.facts) (z, ((iface_of w.net.ends k.to, addr_of w.net k.from), k.unit))) of ∙ r.1;
          is = r.2;
        },
        λ y i l. absurd (nothing y i),
      );
}
  where
    nothing : (y : Item) → In y w.flight → ⊥
    nothing y i = subst (λ (z : List Item). In y z) quiet i
