-- Resvs that ask for no more than was wanted before: each is taken whole, and what goes on asks for no more either.
use Rattle.std.proofs.Common.{◌≡◌, ℕ, ◌<◌, List, [], ◌∷◌, length, true, Some, inl, arith, sym, refl, ap, subst, ◌∙◌, Bool, ◌⊎◌, ⊎_elim}
use Rattle.std.specs.Prelude.{slice_get}
use Rattle.rsvp_base.specs.declared.addr.Addr.{Addr}
use Rattle.rsvp_base.specs.declared.part.Part.{Part}
use Rattle.rsvp_base.specs.declared.session.Sender.{Sender}
use Rattle.rsvp_base.specs.declared.session.Session.{Session}
use Rattle.rsvp_base.specs.Members.{In}
use Rattle.rsvp_base.specs.declared.style.Unit.TheVariants.{One}
use Rattle.rsvp_base.specs.Orders.{senders, Names}
use Rattle.rsvp_base.specs.Table.{get, has, kept}
use Rattle.rsvp_base.specs.TokenBucket.{TokenBucket}
use Rattle.rsvp_base.proofs.Members.{to_each}
use Rattle.rsvp_base.proofs.SetLaws.{and_both, and_made, has-kept}
use Rattle.rsvp_messages.specs.declared.ask.Ask.{Ask}
use Rattle.rsvp_messages.specs.declared.ask.Ask.TheVariants as ask
use Rattle.rsvp_messages.specs.declared.message.Message.TheVariants as message
use Rattle.rsvp_messages.specs.declared.message.ResvMsg.{ResvMsg}
use Rattle.rsvp_messages.specs.Proper.{IsProperAsk}
use Rattle.rsvp_messages.specs.Units.{AskedUnit, ask_style, asked_units, fixed_unit}
use Rattle.style_rules.specs.CutLaws.{name_some}
use Rattle.style_rules.specs.PartLaws.{part_at_most_told}
use Rattle.laws_bounds.proofs.Knowing.{known_and_via}
use Rattle.laws_steps.specs.AcceptingLaws.{CanBeTaken, IsPlaced, IsTakenWhole}
use Rattle.laws_steps.proofs.Admitting.{what_is_accepted}
use Rattle.router_rules.specs.Asking.{Asker, asker_of, matched}
use Rattle.router_rules.specs.Facts.{Facts, resvs_of}
use Rattle.router_rules.specs.Inputs.{Spelt}
use Rattle.router_rules.specs.Known.{known, named_as}
use Rattle.router_rules.specs.NodeConfig.{NodeConfig, goes_out}
use Rattle.router_rules.specs.Rule.{Outcome}
use Rattle.router_rules.specs.Steps.{facts_then, node_step}
use Rattle.tree_model.specs.declared.hops.LinkHop.{LinkHop}
use Rattle.tree_model.specs.declared.locals.LocalWant.{LocalWant}
use Rattle.tree_model.specs.Goals.{addr_of}
use Rattle.tree_model.specs.Networks.{node_of, iface_of}
use Rattle.tree_model.specs.Trees.{tree, outward}
use Rattle.tree_model.specs.Wants.{Locals, names}
use Rattle.tree_model.proofs.Following.{has_hop_in, in_tree}
use Rattle.tree_model.proofs.Ifaces.{interfaces_are_ends}
use Rattle.tree_model.proofs.TreeLaws.{out_tested, the_root_has_no_inward}
use Rattle.tree_model.proofs.WantLaws.{name_told, want_names}
use Rattle.network_model.specs.Bounds.{AreBounds, AreHosts, IsProperArrival}
use Rattle.network_model.specs.Locals.{locals_of, want_at}
use Rattle.network_model.specs.Sound.{ArePathsComplete, ArePathsSound, IsSoundPart, IsSoundUnit}
use Rattle.network_model.specs.Steps.{Step, outcome, sent, still}
use Rattle.network_model.specs.Worlds.{Item, World, config_of}
use Rattle.network_model.proofs.NodeLocals.{node_wants}
use Rattle.laws_network.proofs.Standing.{goes_out_made}
use Rattle.settle_resvs.specs.GoalByIface.{goal_at}
use Rattle.settle_resvs.specs.Sessions.{Carries, SessionFits}
use Rattle.settle_resvs.proofs.GoalByIface.{session_can_be_held}
use Rattle.settle_resvs.proofs.UnderTheGoal.{has_place, sound_under, want_needs}
use Rattle.settle_paths.proofs.PreviousHops.{previous_hops_are_all_hops}
use Rattle.rsvp_base.specs.declared.style.StyleKind.{StyleKind}
use Rattle.laws_bounds.specs.SendLaws.{IsAskedOf}
use Rattle.laws_bounds.proofs.Asks.{units_told}
use Rattle.laws_steps.specs.ReservationLaws.{Touches}
use Rattle.laws_steps.proofs.Asking.{what_keeps_a_reservation_fact}
use Rattle.router_rules.specs.Requests.{toward}
use Rattle.tree_model.specs.Ranks.{rank}
use Rattle.network_model.proofs.Stepping.{facts_after_made}
use Rattle.settle_resvs.specs.Said.{HopKey, resv_key}
use Rattle.settle_resvs.specs.SoftResvs.{line_key_of}
use Rattle.settle_resvs.proofs.ResvSends.{over_hop}
use Rattle.settle_resvs.proofs.SoftResvs.{resv_found, resv_made}
use Rattle.settle_resvs.proofs.SoundResvs.{part_again}
use Rattle.settle_resvs.proofs.TowardNames.{parts_of_style}
use Rattle.settle_passes.specs.Reserving.{IsKeptOver}
use Rattle.settle_passes.proofs.Fitting.{as_before}
use Rattle.settle_passes.proofs.Turns.{Turns, addressed_in_turn, left, moment, place, resv_in_turn}
use Rattle.settle_passes.proofs.Growing.{HasNoLess}
use Rattle.settle_releases.proofs.Within.{WantedMore, named_within, same_names, toward_is_at_most_what_was_wanted, AreKeptWithin}

-- what nodes keep, and each unit of a Resv in flight, is at most what was wanted before
pub record AreResvsWithin (before : List Facts) (w : World) : Type 0 where
  pub facts : AreKeptWithin before w
  pub items : (y : Item) (m : ResvMsg) (u : AskedUnit) → In y w.flight → y.arrival ≡ Spelt (message.Resv m) → In u (asked_units m.ask) → IsSoundUnit (as_before before w) y m u

-- a proper Resv asks for something
pub some_unit : (a : Ask) → IsProperAsk a → (v : AskedUnit) × In v (asked_units a)
some_unit (ask.Wild scope flow) h = (record { unit = One; names = scope; flow = flow }, inl refl)
some_unit (ask.Shared part) h = (record { unit = One; names = Some part.senders; flow = part.flow }, inl refl)
some_unit (ask.Fixed list) h = by list.rows refl h.some
  where
    by : (rows : List (Sender × TokenBucket)) → list.rows ≡ rows → 0 < length list.rows → (v : AskedUnit) × In v (asked_units (ask.Fixed list))
    by [] e lt = let none = ap length e in absurd (omega (arith, none, lt))
    by (x ∷ xs) e lt = (fixed_unit x, to_each fixed_unit x list.rows (subst (λ (z : List (Sender × TokenBucket)). In x z) (sym e) (inl refl)))

-- ---- a Resv that arrives where what nodes keep and ask for is within what was wanted before, which fitted, and whose names match
module _ (q : ℕ) (s : Session) (before : List Facts) (u : World) (bounds : AreBounds q u) (wanted : (x : LocalWant) → In x (locals_of u).wants → HasNoLess (locals_of (as_before before u)).wants x)
    (fit : SessionFits u.net (locals_of (as_before before u)) s) (within : AreResvsWithin before u) (y : Item) (m : ResvMsg) (i : In y u.flight) (spelt : y.arrival ≡ Spelt (message.Resv m))
    (of : m.session ≡ s) (f : Facts) (at : slice_get u.nodes (node_of u.net.ends y.end) ≡ Some f)
    (matches : (v : AskedUnit) (j : In v (asked_units m.ask)) (x : Sender) → has (within.items y m v i spelt j).names x ≡ true
    → has (matched (config_of q u.net u.trees (node_of u.net.ends y.end)) f (asker_of (config_of q u.net u.trees (node_of u.net.ends y.end)) u.clock (iface_of u.net.ends y.end) m)) x ≡ true) where
  abbrev locals_before : Locals
  locals_before = locals_of (as_before before u)

  abbrev node : ℕ
  node = node_of u.net.ends y.end

  abbrev config : NodeConfig
  config = config_of q u.net u.trees node

  abbrev asker : Asker
  asker = asker_of config u.clock (iface_of u.net.ends y.end) m

  placed : (v : AskedUnit) → In v (asked_units m.ask) → IsPlaced config asker f (goal_at u.net locals_before node) v
  placed v j =
      let x = within.items y m v i spelt j in
      let part : Part = record { senders = x.names; flow = v.flow } in
      record {
        names = x.names;
        listed = x.named;
        some = name_some x.names x.sound.some;
        match = λ z e. matches v j z e;
        place = has_place (as_before before u) asker y.end v.unit part x.sound refl;
      }

  proper : IsProperAsk m.ask
  proper = let p = (bounds.flight y i).proper in subst IsProperArrival spelt p

  fits : SessionFits u.net locals_before m.session
  fits = subst (SessionFits u.net locals_before) (sym of) fit

  -- the end carries the session
  carries : Carries u.net locals_before m.session y.end
  carries =
      let v = some_unit m.ask proper in
      let x = within.items y m v.0 i spelt v.1 in
      record { hop = x.sound.hop; there = x.sound.there; from = x.sound.from; style = ask_style m.ask; unit = v.0.unit; part = x.sound.wanted; wanted = x.sound.is }

  -- someone wants something of the session in the style
  wants : (w : LocalWant) × In w locals_before.wants × (w.session ≡ m.session) × (w.style ≡ ask_style m.ask)
  wants =
      let v = some_unit m.ask proper in
      let x = within.items y m v.0 i spelt v.1 in
      let b = want_needs (ask_style m.ask) u.net locals_before m.session x.sound.hop v.0.unit x.sound.wanted x.sound.is in
      (b.want, b.there, b.session, b.style)

  can_be_taken : CanBeTaken config u.clock (iface_of u.net.ends y.end) m f (goal_at u.net locals_before node)
  can_be_taken = record {
    proper = proper;
    lines_held = session_can_be_held q u.net u.trees locals_before m.session y.end bounds.net fits carries;
    there = sound_under (as_before before u) node f (λ st k r h. within.facts st node f k r at h);
    units = placed;
    resv_style = λ st k r h same.
        let x = (within.facts st node f k r at h).sound in
        let b = want_needs st u.net locals_before k.0 x.hop k.1.1 x.wanted x.is in
        sym b.style ∙ fits.one_style b.want wants.0 b.there wants.1 (b.session ∙ same) wants.2 ∙ wants.3;
    want_style = λ v w h.
        let b = wanted (want_at node ((m.session, v), w)) (node_wants u node f (m.session, v) w at h) in
        sym b.style ∙ fits.one_style b.want wants.0 b.among wants.1 b.session wants.2 ∙ wants.3;
  }

  pub taken_as_matched : IsTakenWhole config config u.clock (iface_of u.net.ends y.end) m f (goal_at u.net locals_before node)
  taken_as_matched = what_is_accepted.whole config config u.clock u.clock (iface_of u.net.ends y.end) m f (goal_at u.net locals_before node) (bounds.facts node f at) can_be_taken

-- ---- where paths are there its names match, as somebody sends of each
module _ (q : ℕ) (s : Session) (before : List Facts) (u : World) (bounds : AreBounds q u) (hosts : AreHosts u) (sound : ArePathsSound u) (complete : ArePathsComplete u) (more : WantedMore before u)
    (within : AreResvsWithin before u) (fit : SessionFits u.net (locals_of (as_before before u)) s) (y : Item) (m : ResvMsg) (i : In y u.flight) (spelt : y.arrival ≡ Spelt (message.Resv m))
    (of : m.session ≡ s) (f : Facts) (at : slice_get u.nodes (node_of u.net.ends y.end) ≡ Some f) where
  abbrev n : ℕ
  n = node_of u.net.ends y.end

  abbrev here : NodeConfig
  here = config_of q u.net u.trees n

  abbrev asks : Asker
  asks = asker_of here u.clock (iface_of u.net.ends y.end) m

  abbrev was : Locals
  was = locals_of (as_before before u)

  -- a name over a hop out of the end matches: its sender is known, and its tree goes out there
  matches : (h : LinkHop) → h.from ≡ y.end → (x : Sender) → has (names (ask_style m.ask) u.net (locals_of u) m.session (h ∷ [])) x ≡ true → has (matched here f asks) x ≡ true
  matches h from x e =
      let a = name_told (ask_style m.ask) u.net (locals_of u) m.session (h ∷ []) x e in
      let there = has_hop_in (tree u.net.hops m.session.group a.0.addr) h (and_both _ _ a.2).0 in
      let leaves : In y.end (outward u.net n m.session.group a.0.addr) = out_tested u.net n y.end m.session.group a.0.addr (h, there, from, refl) in
      let reaches = (the_root_has_no_inward u.net bounds.net).entered n y.end m.session.group a.0.addr leaves in
      let knows : has (known f m.session) a.0 ≡ true = ((previous_hops_are_all_hops u bounds.net hosts sound complete).known n f m.session a.0 at).1 (a.1, reaches) in
      let r = in_tree u.net.hops m.session.group a.0.addr h there in
      let routed : In (m.session.group, a.0.addr) u.trees = subst (λ (z : Addr × Addr). In z u.trees) (λ j. (r.2 j, r.3 j)) (bounds.routed r.0 r.1) in
      let out : goes_out here m.session (iface_of u.net.ends y.end) a.0 ≡ true = goes_out_made q u.net u.trees n m.session y.end a.0 routed leaves in
      (known_and_via.named_by (ask_style m.ask) (kept (goes_out here m.session (iface_of u.net.ends y.end)) (known f m.session)) x).1
      (record { sender = a.0; among = has-kept senders (goes_out here m.session (iface_of u.net.ends y.end)) (known f m.session) a.0 ∙ and_made _ _ knows out; passes = refl; name = a.3 })

  pub taken_within : IsTakenWhole here here u.clock (iface_of u.net.ends y.end) m f (goal_at u.net was n)
  taken_within =
      taken_as_matched q s before u bounds more.wants fit within y m i spelt of f at
      (λ v j z e.
      let x = within.items y m v i spelt j in
      let up = part_at_most_told (record { senders = x.names; flow = v.flow }) x.sound.wanted x.sound.below in
      matches x.sound.hop x.sound.from z
      (ap (λ (ns : Names). has ns z) (sym (same_names before u more (ask_style m.ask) m.session (x.sound.hop ∷ [])))
      ∙ want_names (ask_style m.ask) u.net was m.session x.sound.hop v.unit x.sound.wanted x.sound.is z (up.names z e)))

-- ---- a step by which a node follows its rule at most, without time going by
module _ (q : ℕ) (t : Step) (u : World) (bounds : AreBounds q u) (turns : (n : ℕ) (f : Facts) → slice_get u.nodes n ≡ Some f → (outcome q t u n f ≡ still f) ⊎ Turns q t u n f) where
  -- each unit of a Resv that is sent is within what was wanted, where what nodes keep is
  pub unit_within : (before : List Facts) → AreBounds q (left q t u) → ArePathsSound (left q t u) → WantedMore before (left q t u) → AreKeptWithin before (left q t u)
      → (y : Item) (b : Bool) (m : ResvMsg) → In (y, b) (sent q t u) → y.arrival ≡ Spelt (message.Resv m) → (v : AskedUnit) → In v (asked_units m.ask)
      → IsSoundUnit (as_before before (left q t u)) y m v
  unit_within before bounds' sound more facts y b m i spelt v asks =
      let p = resv_in_turn q t u bounds turns y b m i spelt in
      let h = over_hop q (left q t u) bounds' sound y m p (addressed_in_turn q t u bounds turns bounds' sound y b m i spelt) in
      let parts = parts_of_style (place q t u p.node) (left q t u).clock p.facts (bounds'.facts p.node p.facts p.after) p.lane in
      let asked : IsAskedOf (toward (place q t u p.node) p.facts p.lane) v = (units_told p.lane.style (toward (place q t u p.node) p.facts p.lane) m.ask v parts p.asks).0 asks in
      let x = toward_is_at_most_what_was_wanted q before (left q t u) bounds' sound more p.node p.facts p.after p.lane h.0 h.1
      (named_within before (left q t u) facts p.lane.style p.node p.facts p.lane.session (rank u.net p.lane.session.group h.0) p.after) v.unit asked.part asked.there in
      record {
        names = asked.part.senders;
        named = asked.names;
        sound = subst (λ (z : StyleKind × Session × ℕ × Addr × TokenBucket). IsSoundPart z.0 (as_before before (left q t u)) z.1 z.2 z.3 v.unit (record { senders = asked.part.senders; flow = z.4 }))
            (λ j. (sym p.style j, sym p.session j, h.2 j, (ap (addr_of u.net) h.3 ∙ sym p.hop) j, sym asked.flow j)) x;
      }

  -- so all is within what was wanted, where what nodes keep is and what was in flight was
  pub within_after : (before : List Facts) → AreBounds q (left q t u) → ArePathsSound (left q t u) → WantedMore before (left q t u) → AreKeptWithin before (left q t u)
      → AreResvsWithin before u → ((y : Item) → In y (left q t u).flight → In y u.flight ⊎ ((b : Bool) × In (y, b) (sent q t u))) → AreResvsWithin before (left q t u)
  within_after before bounds' sound more facts within split = record {
    facts = facts;
    items = λ y m v i spelt asks.
        ⊎_elim
        (λ (old : In y u.flight).
        let x = within.items y m v old spelt asks in
        record {
          names = x.names;
          named = x.named;
          sound = part_again (ask_style m.ask) (as_before before u) (as_before before (left q t u)) m.session y.end m.hop.addr v.unit (record { senders = x.names; flow = v.flow }) refl refl x.sound;
        })
        (λ (new : (b : Bool) × In (y, b) (sent q t u)). unit_within before bounds' sound more facts y new.0 m new.1 spelt v asks) (split y i);
  }

  -- a reservation that nothing touches stays
  module _ (before : List Facts) (hosts : AreHosts u) (paths : ArePathsSound u) (complete : ArePathsComplete u) (more : WantedMore before u) (within : AreResvsWithin before u)
      (now : moment q t u ≡ u.clock)
      (known_on : (n : ℕ) (f : Facts) (s : Session) (x : Sender) → slice_get u.nodes n ≡ Some f → has (known f s) x ≡ true → has (known (outcome q t u n f).facts s) x ≡ true) where
    pub kept_on : (k : HopKey) (v : Part) (c : IsKeptOver u k v)
        → ((f : Facts) → slice_get u.nodes (node_of u.net.ends k.to) ≡ Some f → (h : Turns q t u (node_of u.net.ends k.to) f)
        → Touches h.input k.style (line_key_of u.net (resv_key u.net k)) c.resv → ⊥)
        → IsKeptOver (left q t u) k v
    kept_on k v c untouched =
        let n : ℕ = node_of u.net.ends k.to in
        let p : NodeConfig = place q t u n in
        let key = line_key_of u.net (resv_key u.net k) in
        let f = resv_found u n k.style key c.resv c.there in
        let g : Facts = (outcome q t u n f.0).facts in
        let after : slice_get (left q t u).nodes n ≡ Some g = facts_after_made q t u n f.0 f.1 in
        let ends : get (resvs_of k.style g) key ≡ Some c.resv → IsKeptOver (left q t u) k v =
        (λ e. record { resv = c.resv; there = resv_made (left q t u) n k.style key g after ∙ e; is = c.is }) in
        let s = within.facts k.style n f.0 key c.resv f.1 f.2 in
        let of = (interfaces_are_ends u.net).iface_of_end n key.1.0.0 s.end s.at in
        let up = part_at_most_told c.resv.part s.sound.wanted s.sound.below in
        ⊎_elim (λ (z : outcome q t u n f.0 ≡ still f.0). ends (ap (λ (o : Outcome). get (resvs_of k.style o.facts) key) z ∙ f.2))
        (λ (h : Turns q t u n f.0).
        let same : g ≡ facts_then p p (moment q t u) h.input f.0 = ap (λ (o : Outcome). o.facts) h.is in
        let lives : moment q t u < c.resv.dies = subst (λ (z : ℕ). z < c.resv.dies) (sym now) ((bounds.facts n f.0 f.1).alive.resvs k.style key c.resv f.2).later in
        let names : (x : Sender) → has c.resv.part.senders x ≡ true → has (named_as k.style (known (facts_then p p (moment q t u) h.input f.0) k.session)) x ≡ true =
        (λ x e.
        let a = name_told k.style u.net (locals_of u) k.session (s.sound.hop ∷ []) x
        (ap (λ (ns : Names). has ns x) (sym (same_names before u more k.style k.session (s.sound.hop ∷ [])))
        ∙ want_names k.style u.net (locals_of (as_before before u)) k.session s.sound.hop k.unit s.sound.wanted s.sound.is x (up.names x e)) in
        let hop = has_hop_in (tree u.net.hops k.session.group a.0.addr) s.sound.hop (and_both _ _ a.2).0 in
        let leaves : In s.sound.hop.from (outward u.net n k.session.group a.0.addr) =
        out_tested u.net n s.sound.hop.from k.session.group a.0.addr (s.sound.hop, hop, refl, ap (node_of u.net.ends) s.sound.from ∙ of.1) in
        let reaches = (the_root_has_no_inward u.net bounds.net).entered n s.sound.hop.from k.session.group a.0.addr leaves in
        let knows : has (known f.0 k.session) a.0 ≡ true = ((previous_hops_are_all_hops u bounds.net hosts paths complete).known n f.0 k.session a.0 f.1).1 (a.1, reaches) in
        let then_knows : has (known (facts_then p p (moment q t u) h.input f.0) k.session) a.0 ≡ true =
        ap (λ (z : Facts). has (known z k.session) a.0) (sym same) ∙ known_on n f.0 k.session a.0 f.1 knows in
        (known_and_via.named_by k.style (known (facts_then p p (moment q t u) h.input f.0) k.session) x).1
        (record { sender = a.0; among = then_knows; passes = refl; name = a.3 })) in
        ends
        (ap (λ (z : Facts). get (resvs_of k.style z) key) same
        ∙ what_keeps_a_reservation_fact.whole (node_step p p u.clock (moment q t u) h.input f.0) (bounds.facts n f.0 f.1) k.style key c.resv f.2 lives (untouched f.0 f.1 h) names))
        (turns n f.0 f.1)
