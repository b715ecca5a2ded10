-- Reservations that recede: one delivery keeps what is on its way in line with what is asked for, and what is asked for no more is torn
-- down.
use Rattle.std.proofs.Common.{◌≡◌, ℕ, ◌+◌, ◌<◌, List, [], ◌∷◌, ◌++◌, length, Bool, Option, None, Some, ◌⊎◌, inl, inr, ⊎_elim, arith, sym, refl, ap, subst, ◌∙◌, append_assoc}
use Rattle.std.specs.Prelude.{slice_get, not}
use Rattle.std.specs.List.{remove}
use Rattle.rsvp_base.specs.declared.part.Part.{Part}
use Rattle.rsvp_base.specs.declared.session.Session.{Session}
use Rattle.rsvp_base.specs.declared.style.StyleKind.{StyleKind}
use Rattle.rsvp_base.specs.Members.{In}
use Rattle.rsvp_base.specs.Orders.{Names}
use Rattle.rsvp_base.specs.Table.{get, has}
use Rattle.rsvp_messages.specs.declared.message.Message.TheVariants as message
use Rattle.rsvp_messages.specs.declared.message.ResvMsg.{ResvMsg}
use Rattle.rsvp_messages.specs.Units.{tear_style, AskedUnit, asked_units}
use Rattle.style_rules.specs.Lines.{LineKey}
use Rattle.laws_steps.specs.AcceptingLaws.{IsTakenWhole}
use Rattle.laws_steps.specs.ReservationLaws.{Touches}
use Rattle.router_rules.specs.Facts.{Facts, ResvState, resvs_of}
use Rattle.router_rules.specs.Inputs.{Came, Input, Spelt}
use Rattle.router_rules.specs.Known.{Lane, names_via}
use Rattle.router_rules.specs.NodeConfig.{NodeConfig, own}
use Rattle.router_rules.specs.Requests.{toward}
use Rattle.router_rules.specs.Rule.{Outcome}
use Rattle.router_rules.specs.Steps.{facts_then}
use Rattle.tree_model.specs.Goals.{addr_of}
use Rattle.tree_model.specs.Networks.{end_at, iface_of, node_of}
use Rattle.tree_model.specs.Trees.{hops_of}
use Rattle.tree_model.proofs.Ifaces.{interfaces_are_ends}
use Rattle.network_model.specs.Bounds.{AreBounds}
use Rattle.network_model.specs.Locals.{locals_of}
use Rattle.network_model.specs.Sound.{ArePathsSound, ArePathsComplete}
use Rattle.network_model.specs.Steps.{Deliver, input_at, outcome, sent, step, still}
use Rattle.network_model.specs.Worlds.{Item, World, config_of}
use Rattle.network_model.proofs.Machines.{in_arrived, in_flight_after, in_rest}
use Rattle.network_model.proofs.Quiet.{outcome_by}
use Rattle.network_model.proofs.Stepping.{facts_after_found, facts_after_made}
use Rattle.laws_network.specs.Known.{IsSameNet}
use Rattle.laws_network.proofs.Known.{came_there, node_there, of_some}
use Rattle.laws_network.proofs.Standing.{own_end}
use Rattle.settle_paths.proofs.PreviousHops.{ends_there, via_is}
use Rattle.settle_resvs.specs.GoalByIface.{goal_at}
use Rattle.settle_resvs.specs.Said.{HopKey, hop_over, lane_of, resv_key}
use Rattle.settle_resvs.specs.Sessions.{HasNoFlowErrorOf, IsFreeOfBlockadesOf, SessionFits}
use Rattle.settle_resvs.specs.SoftResvs.{SaysResv, line_key_of, resv_at}
use Rattle.settle_resvs.proofs.SoftResvs.{IsAsked, WasThere, resv_made, resv_source}
use Rattle.settle_resvs.proofs.SoundResvs.{part_again}
use Rattle.settle_passes.specs.Reserving.{AreAskedFor, IsKeptOver}
use Rattle.settle_passes.proofs.Deliveries.{bounds_next, hosts_next, known_self, known_stays, live_back, no_tear_next, path_at_next, same_next, sound_next, tear_of_none}
use Rattle.settle_passes.proofs.Fitting.{as_before}
use Rattle.rsvp_messages.specs.declared.message.ResvTearMsg.{ResvTearMsg}
use Rattle.router_rules.specs.Asking.{stays}
use Rattle.settle_passes.specs.Calls.{HasItsPaths}
use Rattle.settle_passes.proofs.Turns.{Turns, addressed_in_turn, news}
use Rattle.settle_passes.proofs.Arriving.{kept_sound, asked_is_kept, asked_next, free_next, no_error_next, turns as turns_of}
use Rattle.settle_paths.specs.PreviousHops.{IsPrevious}
use Rattle.settle_releases.proofs.Within.{WantedMore, AreKeptWithin}
use Rattle.settle_releases.proofs.Accepting.{AreResvsWithin, kept_on, taken_within, within_after}
use Rattle.settle_releases.proofs.Tears.{nothing_left}
use Rattle.tree_model.specs.Wants.{Locals, names}
use Rattle.settle_releases.proofs.TakenBack.{AllWithin, AreTakenBack, AsksWithin, ComesWithin, IsForgotten, IsHeldWithin, IsTearBack, IsTornLater, IsWithinLast, NoneAsks}
use Rattle.settle_releases.proofs.TakenBack.{comes_within, gone_before_or_now, held_within, none_append, none_asks, torn_later}

-- ---- a network in which the reservations of a session follow what is wanted, while no more is wanted than before, which fits
pub record IsReceding (q : ℕ) (s : Session) (before : List Facts) (w : World) : Type 0 where
  pub paths : HasItsPaths q w
  pub more : WantedMore before w
  pub within : AreResvsWithin before w
  pub fit : SessionFits w.net (locals_of (as_before before w)) s
  pub free : IsFreeOfBlockadesOf s w
  pub no_error : HasNoFlowErrorOf s w
  pub addressed : (y : Item) (m : ResvMsg) → In y w.flight → y.arrival ≡ Spelt (message.Resv m) → y.dst ≡ addr_of w.net y.end
  pub asked : AreAskedFor q s w
  pub torn : AreTakenBack q s w

-- ---- one delivery
module _ (q : ℕ) (s : Session) (before : List Facts) (u : World) (r : IsReceding q s before u) where
  abbrev next : World
  next = step q (Deliver 0) u

  abbrev was : Locals
  was = locals_of (as_before before u)

  bounds : AreBounds q u
  bounds = r.paths.bounds

  bounds' : AreBounds q next
  bounds' = bounds_next q 0 u bounds

  paths' : ArePathsSound next
  paths' = sound_next q 0 u bounds r.paths.sound

  same : IsSameNet u next
  same = same_next q 0 u bounds u (known_self q u bounds).same

  -- a node that gets something gets a datagram
  pub turns : (n : ℕ) (f : Facts) → slice_get u.nodes n ≡ Some f → (outcome q (Deliver 0) u n f ≡ still f) ⊎ Turns q (Deliver 0) u n f
  turns = turns_of q u bounds

  more_next : WantedMore before next
  more_next = record {
    senders = r.more.senders ∙ ap (λ (z : Locals). z.senders) (sym same.locals);
    parts = r.more.parts;
    wants = λ x i. r.more.wants x (subst (λ (z : Locals). In x z.wants) same.locals i);
  }

  -- ---- reservations stay within what was wanted
  facts_within : AreKeptWithin before next
  facts_within st n g k x at h =
      let y = kept_sound q u bounds bounds' (as_before before u) (λ kind n' f k' x' a e. let y = r.within.facts kind n' f k' x' a e in (y.end, y.at, y.sound))
      (λ y m v i spelt asks. let z = r.within.items y m v i spelt asks in (z.names, z.named, z.sound)) st n g k x at h in
      record { end = y.0; at = y.1; sound = part_again st (as_before before u) (as_before before next) k.0 y.0 k.1.0.1 k.1.1 x.part refl refl y.2 }

  within_next : AreResvsWithin before next
  within_next = within_after q (Deliver 0) u bounds turns before bounds' paths' more_next facts_within r.within (λ y i. in_flight_after q (Deliver 0) u y refl i)

  -- ---- a Resv of the session that arrives is taken whole
  pub taken : (y : Item) (m : ResvMsg) (f : Facts) → In y u.flight → y.arrival ≡ Spelt (message.Resv m) → m.session ≡ s → slice_get u.nodes (node_of u.net.ends y.end) ≡ Some f
      → IsTakenWhole (config_of q u.net u.trees (node_of u.net.ends y.end)) (config_of q u.net u.trees (node_of u.net.ends y.end)) (u.clock + 0) (iface_of u.net.ends y.end) m f
      (goal_at u.net was (node_of u.net.ends y.end))
  taken y m f i spelt of at =
      let p : NodeConfig = config_of q u.net u.trees (node_of u.net.ends y.end) in
      let now : u.clock ≡ u.clock + 0 = omega arith in
      subst (λ (z : ℕ). IsTakenWhole p p z (iface_of u.net.ends y.end) m f (goal_at u.net was (node_of u.net.ends y.end))) now
      (taken_within q s before u bounds r.paths.hosts r.paths.sound r.paths.complete r.more r.within r.fit y m i spelt of f at)

  -- ---- a reservation stays that nothing touches
  stays_there : (k : HopKey) (v : Part) → In (hop_over k) (hops_of u.net.hops k.session.group) → (c : IsKeptOver u k v)
      → ((f : Facts) → slice_get u.nodes (node_of u.net.ends k.to) ≡ Some f → (h : Turns q (Deliver 0) u (node_of u.net.ends k.to) f)
      → Touches h.input k.style (line_key_of u.net (resv_key u.net k)) c.resv → ⊥)
      → IsKeptOver next k v
  stays_there k v there c untouched =
      let now : u.clock + 0 ≡ u.clock = omega arith in
      kept_on q (Deliver 0) u bounds turns before r.paths.hosts r.paths.sound r.paths.complete r.more r.within now
      (λ n f z x at sure. known_stays q 0 u bounds n f (outcome q (Deliver 0) u n f).facts (z, x) (tear_of_none u r.paths.no_tear (z, x)) at (facts_after_made q (Deliver 0) u n f at) sure)
      k v c untouched

  listed : (y : Item) (m : ResvMsg) (v : AskedUnit) → In y u.flight → y.arrival ≡ Spelt (message.Resv m) → In v (asked_units m.ask) → (ns : Names) × (v.names ≡ Some ns)
  listed y m v i spelt asks = let x = r.within.items y m v i spelt asks in (x.names, x.named)

  complete_next : ArePathsComplete next
  complete_next k t h live there =
      path_at_next q 0 u bounds r.paths.hosts r.paths.no_tear paths' k t h (live_back q 0 u bounds k t live) there (r.paths.complete k t h (live_back q 0 u bounds k t live) there)

  -- ---- what goes no more is taken back
  module _ (k : HopKey) (of : k.session ≡ s) (there : In (hop_over k) (hops_of u.net.hops k.session.group)) where
    abbrev stands : World → Option ResvState
    stands w = resv_at w (node_of u.net.ends k.to) k.style (line_key_of u.net (resv_key u.net k))

    keeps : k.to < length u.net.ends
    keeps = (ends_there u.net bounds.net k.session.group (hop_over k) there).0

    source : (x : ResvState) → stands next ≡ Some x → WasThere u.net (resv_key u.net k) u x ⊎ IsAsked u.net (resv_key u.net k) (Deliver 0) u x
    source x h = resv_source q u (resv_key u.net k) keeps (Deliver 0) u refl (known_self q u bounds) x h

    -- what stands behind the hop has no other names still
    held_next : (ns : Names) → IsHeldWithin u k ns → ((y : Item) (v : Part) → slice_get u.flight 0 ≡ Some y → SaysResv u.net (resv_key u.net k) y v → AsksWithin u.net k ns y) → IsHeldWithin next k ns
    held_next ns held all x h =
        ⊎_elim
        (λ (old : WasThere u.net (resv_key u.net k) u x). (λ z i. held old.resv old.there z (old.left.names z i)))
        (λ (new : IsAsked u.net (resv_key u.net k) (Deliver 0) u x).
        let a = all new.item new.part new.arrives new.says in
        let c = asked_is_kept q s u bounds was taken listed k a.0 of there new.item new.arrives a.1 in
        held_within next k a.0 ns a.2 c x h)
        (source x h)

    comes_next : (ns : Names) (y : Item) (ys : List Item) → slice_get u.flight 0 ≡ Some y → ComesWithin u k ns (y ∷ ys) → ComesWithin next k ns ys
    comes_next ns y ys arr c =
        ⊎_elim
        (λ (a : IsHeldWithin u k ns × AllWithin u.net k ns (y ∷ ys)).
        inl (held_next ns a.0 (λ z v at says. a.1 z v (inl (of_some z y (sym at ∙ arr))) says), λ z v i says. a.1 z v (inr i) says))
        (λ (b : IsWithinLast u.net k ns ys ⊎ (AsksWithin u.net k ns y × AllWithin u.net k ns ys)).
        ⊎_elim (λ (more : IsWithinLast u.net k ns ys). inr more)
        (λ (now : AsksWithin u.net k ns y × AllWithin u.net k ns ys). inl (
          held_within next k now.0.0 ns now.0.2 (asked_is_kept q s u bounds was taken listed k now.0.0 of there y arr now.0.1),
          now.1,
        )) b) c

    comes_on : (ns : Names) (ys : List Item) → u.flight ≡ ys → ComesWithin u k ns ys → ComesWithin next k ns (remove u.flight 0)
    comes_on ns [] e c =
        let none : remove u.flight 0 ≡ [] = ap (λ (zs : List Item). remove zs 0) e in
        subst (λ (zs : List Item). ComesWithin next k ns zs) (sym none)
        (⊎_elim
        (λ (a : IsHeldWithin u k ns × AllWithin u.net k ns []).
        inl (held_next ns a.0 (λ z v at says. let bad : None ≡ Some z = sym (ap (λ (zs : List Item). slice_get zs 0) e) ∙ at in absurd (cc)), λ z v i says. absurd i))
        (λ (b : ⊥). absurd b) c)
    comes_on ns (y ∷ ys) e c =
        let rest : remove u.flight 0 ≡ ys = ap (λ (zs : List Item). remove zs 0) e in
        subst (λ (zs : List Item). ComesWithin next k ns zs) (sym rest) (comes_next ns y ys (ap (λ (zs : List Item). slice_get zs 0) e) c)

    -- nothing stands there where nothing did and nothing asks for it, or where a ResvTear of all its names comes
    none_next : stands u ≡ None → NoneAsks u.net k u.flight → stands next ≡ None
    none_next none quiet = by (stands next) refl
      where
        by : (o : Option ResvState) → stands next ≡ o → stands next ≡ None
        by None e = e
        by (Some x) e =
            ⊎_elim (λ (old : WasThere u.net (resv_key u.net k) u x). let bad : None ≡ Some old.resv = sym none ∙ old.there in absurd (cc))
            (λ (new : IsAsked u.net (resv_key u.net k) (Deliver 0) u x). absurd (quiet new.item new.part (in_arrived (Deliver 0) u new.item new.arrives) new.says)) (source x e)

    torn_next : (ns : Names) (y : Item) → slice_get u.flight 0 ≡ Some y → IsTearBack u.net k y ns → IsHeldWithin u k ns → stands next ≡ None
    torn_next ns y arr tears held = by (stands next) refl
      where
        n : ℕ
        n = node_of u.net.ends k.to

        e : ℕ
        e = iface_of u.net.ends k.to

        by : (o : Option ResvState) → stands next ≡ o → stands next ≡ None
        by None h = h
        by (Some x) h =
            let p : NodeConfig = config_of q u.net u.trees n in
            let m : ResvTearMsg = tears.tear in
            let key : LineKey = line_key_of u.net (resv_key u.net k) in
            let f = node_there q u bounds.net u k.to (known_self q u bounds) keeps in
            let end : end_at u.net.ends n e ≡ Some k.to = (interfaces_are_ends u.net).end_of_iface k.to keeps in
            let dst : y.dst ≡ own p e = tears.dst ∙ sym (own_end q u.net u.trees n e k.to end) in
            let input : Input = Came e (own p e) (Spelt (message.ResvTear m)) in
            let came : input_at (Deliver 0) u n ≡ Some input = came_there q u u (known_self q u bounds) k.to keeps (Deliver 0) y arr tears.over.end ∙ (λ j. Some (Came e (dst j) (tears.spelt j))) in
            let is : (outcome q (Deliver 0) u n f.0).facts ≡ facts_then p p (u.clock + 0) input f.0 = ap (λ (o : Outcome). o.facts) (outcome_by q (Deliver 0) u n f.0 input refl came) in
            let after : slice_get next.nodes n ≡ Some (outcome q (Deliver 0) u n f.0).facts = facts_after_made q (Deliver 0) u n f.0 f.1 in
            let stood : get (resvs_of k.style (outcome q (Deliver 0) u n f.0).facts) key ≡ Some x = sym (resv_made next n k.style key (outcome q (Deliver 0) u n f.0).facts after) ∙ h in
            let left_one : get (resvs_of (tear_style m.tear) (facts_then p p (u.clock + 0) input f.0)) key ≡ Some x = (λ j. get (resvs_of (tears.over.style j) (sym is j)) key) ∙ stood in
            let was_there : (z : ResvState) → get (resvs_of (tear_style m.tear) f.0) key ≡ Some z → get (resvs_of k.style f.0) key ≡ Some z =
            (λ z g. ap (λ (st : StyleKind). get (resvs_of st f.0) key) (sym tears.over.style) ∙ g) in
            absurd (nothing_left p (u.clock + 0) e m f.0 key tears.over.session refl tears.over.from
            (λ z g. ((bounds.facts n f.0 f.1).shapes.resvs k.style key z (was_there z g)).style.named)
            (λ z g w i.
            ap (λ (o : Option Names). stays o w) tears.lists
            ∙ ap not (held z (resv_made u n k.style key f.0 f.1 ∙ was_there z g) w i))
            x left_one)

    -- what is on its way still
    later_next : (new : List Item) → next.flight ≡ remove u.flight 0 ++ new → NoneAsks u.net k new → IsTornLater u k → IsForgotten next k ⊎ IsTornLater next k
    later_next new flight quiet l = by l.front l.is l.within
      where
        by : (front : List Item) → u.flight ≡ front ++ l.item ∷ l.back → ComesWithin u k l.names front → IsForgotten next k ⊎ IsTornLater next k
        by [] is within =
            let arr : slice_get u.flight 0 ≡ Some l.item = ap (λ (zs : List Item). slice_get zs 0) is in
            let rest : remove u.flight 0 ≡ l.back = ap (λ (zs : List Item). remove zs 0) is in
            let held : IsHeldWithin u k l.names = ⊎_elim (λ (a : IsHeldWithin u k l.names × AllWithin u.net k l.names []). a.0) (λ (b : ⊥). absurd b) within in
            inl (record {
              none = torn_next l.names l.item arr l.tears held;
              quiet = subst (λ (zs : List Item). NoneAsks u.net k zs) (sym (flight ∙ ap (λ (zs : List Item). zs ++ new) rest)) (none_append u.net k l.back new l.quiet quiet);
            })
        by (y ∷ ys) is within =
            let arr : slice_get u.flight 0 ≡ Some y = ap (λ (zs : List Item). slice_get zs 0) is in
            let rest : remove u.flight 0 ≡ ys ++ l.item ∷ l.back = ap (λ (zs : List Item). remove zs 0) is in
            inr (record {
              front = ys;
              item = l.item;
              back = l.back ++ new;
              is = flight ∙ ap (λ (zs : List Item). zs ++ new) rest ∙ append_assoc ys (l.item ∷ l.back) new;
              names = l.names;
              tears = l.tears;
              within = comes_next l.names y ys arr within;
              quiet = none_append u.net k l.back new l.quiet quiet;
            })

  taken_back_next : AreTakenBack q s next
  taken_back_next k g of there at none =
      let n : ℕ = node_of u.net.ends k.from in
      let l : Lane = lane_of u.net k in
      let f = facts_after_found q (Deliver 0) u n g at in
      let after : Facts = (outcome q (Deliver 0) u n f.0).facts in
      let none' : get (toward (config_of q u.net u.trees n) after l) k.unit ≡ None = ap (λ (z : Facts). get (toward (config_of q u.net u.trees n) z l) k.unit) (sym f.2) ∙ none in
      let new : List Item = news q (Deliver 0) u in
      let quiet : NoneAsks u.net k new = none_asks q (Deliver 0) u bounds turns bounds' paths' k there g at none in
      let previous : IsPrevious u.net n k.session l.hop (hop_over k) = record { there = there; node = refl; iface = refl; addr = refl } in
      let via : names_via f.0 l ≡ names_via after l =
      via_is u bounds.net r.paths.sound r.paths.complete n f.0 f.1 l (hop_over k) previous
      ∙ ap (λ (z : Locals). names k.style u.net z k.session (hop_over k ∷ [])) (sym same.locals)
      ∙ sym (via_is next bounds'.net paths' complete_next n after (facts_after_made q (Deliver 0) u n f.0 f.1) l (hop_over k) previous) in
      gone_before_or_now q (Deliver 0) u bounds turns bounds' paths' k there next f.0 f.1 none' (λ z i. ap (λ (w : Names). has w z) (sym via) ∙ i)
      (λ e.
      ⊎_elim
      (λ (x : IsForgotten u k).
      inl (record {
        none = none_next k of there x.none x.quiet;
        quiet = none_append u.net k (remove u.flight 0) new (λ y v i says. x.quiet y v (in_rest (Deliver 0) u y refl i) says) quiet;
      }))
      (λ (x : IsTornLater u k). later_next k of there new refl quiet x)
      (r.torn k f.0 of there f.1 e))
      (λ v e x.
      inr (torn_later next k x.names (remove u.flight 0) new x.item refl x.new x.tears
      (comes_on k of there x.names u.flight refl (comes_within u k v x.names x.less u.flight (r.asked k v f.0 of there f.1 e))) quiet))

  pub receding_next : IsReceding q s before next
  receding_next = record {
    paths = record { bounds = bounds'; hosts = hosts_next q 0 u bounds r.paths.hosts; sound = paths'; complete = complete_next; no_tear = no_tear_next q 0 u bounds r.paths.no_tear };
    more = more_next;
    within = within_next;
    fit = r.fit;
    free = free_next q s u bounds was taken r.no_error r.free;
    no_error = no_error_next q s u bounds was taken r.no_error;
    addressed = λ y m i spelt.
        ⊎_elim (λ (old : In y u.flight). r.addressed y m old spelt)
        (λ (new : (b : Bool) × In (y, b) (sent q (Deliver 0) u)). addressed_in_turn q (Deliver 0) u bounds turns bounds' paths' y new.0 m new.1 spelt) (in_flight_after q (Deliver 0) u y refl i);
    asked = asked_next q s u bounds was taken listed bounds' paths' stays_there r.asked;
    torn = taken_back_next;
  }
