-- Each Resv of a session that arrives is taken whole, where paths are sound and complete, reservations are sound and the session fits.
use Rattle.std.proofs.Common.{◌≡◌, ℕ, ◌+◌, ◌<◌, ◌≤◌, List, [], ◌∷◌, length, true, Some, inl, arith, sym, refl, ap, subst, ◌∙◌}
use Rattle.std.specs.Prelude.{slice_get, map as each}
use Rattle.std.specs.Option.{option_map}
use Rattle.rsvp_base.specs.declared.addr.Addr.{Addr}
use Rattle.rsvp_base.specs.declared.part.Part.{Part}
use Rattle.rsvp_base.specs.declared.session.Sender.{Sender}
use Rattle.rsvp_base.specs.declared.session.Session.{Session}
use Rattle.rsvp_base.specs.Members.{In}
use Rattle.rsvp_base.specs.declared.style.Unit.TheVariants.{One}
use Rattle.rsvp_base.specs.Orders.{senders, sessions}
use Rattle.rsvp_base.specs.Sets.{set_of}
use Rattle.rsvp_base.specs.Table.{Table, get, has, kept, keys}
use Rattle.rsvp_base.specs.TokenBucket.{TokenBucket}
use Rattle.rsvp_base.proofs.Members.{to_each}
use Rattle.rsvp_base.proofs.SetLaws.{and_both, and_made, has-kept}
use Rattle.rsvp_messages.specs.declared.ask.Ask.{Ask}
use Rattle.rsvp_messages.specs.declared.ask.Ask.TheVariants as ask
use Rattle.rsvp_messages.specs.declared.message.Message.TheVariants as message
use Rattle.rsvp_messages.specs.declared.message.ResvMsg.{ResvMsg}
use Rattle.rsvp_messages.specs.Proper.{IsProperAsk}
use Rattle.rsvp_messages.specs.Units.{AskedUnit, ask_style, asked_units, fixed_unit}
use Rattle.style_rules.specs.CutLaws.{name_some}
use Rattle.style_rules.specs.PartLaws.{part_at_most_told}
use Rattle.calm_rounds.specs.Hold.{Hold}
use Rattle.calm_rounds.specs.Rounds.{Rounds}
use Rattle.calm_rounds.proofs.Holding.{hold_map, hold_both, hold_later, hold_start}
use Rattle.laws_bounds.proofs.Knowing.{known_and_via}
use Rattle.laws_steps.specs.AcceptingLaws.{CanBeTaken, IsPlaced}
use Rattle.laws_steps.proofs.Admitting.{what_is_accepted}
use Rattle.router_rules.specs.Asking.{Asker, asker_of, matched}
use Rattle.router_rules.specs.Facts.{Facts, resvs_of, sender_keys}
use Rattle.router_rules.specs.Inputs.{Came, Input, Spelt}
use Rattle.router_rules.specs.Known.{known}
use Rattle.router_rules.specs.NodeConfig.{NodeConfig, goes_out, own}
use Rattle.router_rules.specs.Rule.{Outcome}
use Rattle.router_rules.specs.Steps.{facts_then}
use Rattle.tree_model.specs.declared.hops.LinkHop.{LinkHop}
use Rattle.tree_model.specs.declared.locals.LocalSender.{LocalSender}
use Rattle.tree_model.specs.declared.locals.LocalWant.{LocalWant}
use Rattle.tree_model.specs.Goals.{addr_of}
use Rattle.tree_model.specs.Networks.{Net, node_of, node_of_end, end_at, iface_of, owner}
use Rattle.tree_model.specs.Trees.{tree, outward}
use Rattle.tree_model.specs.Wants.{Locals, live, names}
use Rattle.tree_model.proofs.Following.{has_hop_in, in_tree}
use Rattle.tree_model.proofs.Ifaces.{interfaces_are_ends}
use Rattle.tree_model.proofs.TreeLaws.{out_tested, the_root_has_no_inward}
use Rattle.tree_model.proofs.WantLaws.{name_told, want_names}
use Rattle.network_model.specs.Bounds.{AreBounds, AreHosts, IsProperArrival}
use Rattle.network_model.specs.Locals.{locals_of, want_at}
use Rattle.network_model.specs.Sound.{ArePathsComplete, ArePathsSound, AreResvsSound}
use Rattle.network_model.specs.Steps.{Step, input_at, is_quiet, ms_of, machine}
use Rattle.network_model.specs.Worlds.{Item, World, config_of}
use Rattle.network_model.proofs.Machines.{in_arrived}
use Rattle.network_model.proofs.NodeLocals.{node_wants}
use Rattle.network_model.proofs.Quiet.{arrival_takes_no_time, input_came, outcome_by}
use Rattle.laws_network.specs.Known.{IsSameNet, IsKnown}
use Rattle.laws_network.proofs.Known.{known_hold}
use Rattle.laws_network.proofs.Standing.{goes_out_made, own_end, some_at}
use Rattle.settle_resvs.specs.GoalByIface.{goal_at}
use Rattle.settle_resvs.specs.Sessions.{Carries, SessionFits, TakesAllOf}
use Rattle.settle_resvs.proofs.GoalByIface.{session_can_be_held}
use Rattle.settle_resvs.proofs.UnderTheGoal.{has_place, sound_under, want_needs}
use Rattle.settle_paths.proofs.LiveSenders.{senders_found}
use Rattle.settle_paths.proofs.PreviousHops.{previous_hops_are_all_hops}
use Rattle.settle_resvs.proofs.SoundResvs.{firm_hold}
use Rattle.settle_resvs.proofs.SoundUnits.{IsAddressed, addressed}

-- ---- worlds in which paths are sound and complete, reservations sound, and the session fits
pub record IsReady (q : ℕ) (s : Session) (u : World) : Type 0 where
  pub bounds : AreBounds q u
  pub locals : AreHosts u
  pub fit : SessionFits u.net (locals_of u) s
  pub sound : ArePathsSound u
  pub complete : ArePathsComplete u
  pub resvs : AreResvsSound u

-- an ask that is proper asks for something
some_unit : (a : Ask) → IsProperAsk a → (v : AskedUnit) × In v (asked_units a)
some_unit (ask.Wild scope flow) h = (record { unit = One; names = scope; flow = flow }, inl refl)
some_unit (ask.Shared part) h = (record { unit = One; names = Some part.senders; flow = part.flow }, inl refl)
some_unit (ask.Fixed list) h = by list.rows refl h.some
  where
    by : (rows : List (Sender × TokenBucket)) → list.rows ≡ rows → 0 < length list.rows → (v : AskedUnit) × In v (asked_units (ask.Fixed list))
    by [] e lt = let none = ap length e in absurd (omega (arith, none, lt))
    by (x ∷ xs) e lt = (fixed_unit x, to_each fixed_unit x list.rows (subst (λ (z : List (Sender × TokenBucket)). In x z) (sym e) (inl refl)))

module _ (q : ℕ) (s : Session) (u : World) (ready : IsReady q s u) (y : Item) (m : ResvMsg) (i : In y u.flight) (spelt : y.arrival ≡ Spelt (message.Resv m)) (of : m.session ≡ s) (f : Facts)
    (at : slice_get u.nodes (node_of u.net.ends y.end) ≡ Some f) where
  abbrev n : ℕ
  n = node_of u.net.ends y.end

  abbrev place : NodeConfig
  place = config_of q u.net u.trees n

  abbrev asks : Asker
  asks = asker_of place u.clock (iface_of u.net.ends y.end) m

  -- a name over a hop out of the end matches: its sender is known, and its tree goes out there
  matches : (h : LinkHop) → h.from ≡ y.end → (x : Sender) → has (names (ask_style m.ask) u.net (locals_of u) m.session (h ∷ [])) x ≡ true → has (matched place f asks) x ≡ true
  matches h from x e =
      let a = name_told (ask_style m.ask) u.net (locals_of u) m.session (h ∷ []) x e in
      let there = has_hop_in (tree u.net.hops m.session.group a.0.addr) h (and_both _ _ a.2).0 in
      let leaves : In y.end (outward u.net n m.session.group a.0.addr) = out_tested u.net n y.end m.session.group a.0.addr (h, there, from, refl) in
      let reaches = (the_root_has_no_inward u.net ready.bounds.net).entered n y.end m.session.group a.0.addr leaves in
      let knows : has (known f m.session) a.0 ≡ true = ((previous_hops_are_all_hops u ready.bounds.net ready.locals ready.sound ready.complete).known n f m.session a.0 at).1 (a.1, reaches) in
      let r = in_tree u.net.hops m.session.group a.0.addr h there in
      let routed : In (m.session.group, a.0.addr) u.trees = subst (λ (z : Addr × Addr). In z u.trees) (λ j. (r.2 j, r.3 j)) (ready.bounds.routed r.0 r.1) in
      let out : goes_out place m.session (iface_of u.net.ends y.end) a.0 ≡ true = goes_out_made q u.net u.trees n m.session y.end a.0 routed leaves in
      (known_and_via.named_by (ask_style m.ask) (kept (goes_out place m.session (iface_of u.net.ends y.end)) (known f m.session)) x).1
      (record { sender = a.0; among = has-kept senders (goes_out place m.session (iface_of u.net.ends y.end)) (known f m.session) a.0 ∙ and_made _ _ knows out; passes = refl; name = a.3 })

  placed : (v : AskedUnit) → In v (asked_units m.ask) → IsPlaced place asks f (goal_at u.net (locals_of u) n) v
  placed v j =
      let s = ready.resvs.items y m v i spelt j in
      let part : Part = record { senders = s.names; flow = v.flow } in
      let up = part_at_most_told part s.sound.wanted s.sound.below in
      record {
        names = s.names;
        listed = s.named;
        some = name_some s.names s.sound.some;
        match = λ x e. matches s.sound.hop s.sound.from x (want_names (ask_style m.ask) u.net (locals_of u) m.session s.sound.hop v.unit s.sound.wanted s.sound.is x (up.names x e));
        place = has_place u asks y.end v.unit part s.sound refl;
      }

  proper : IsProperAsk m.ask
  proper = let p = (ready.bounds.flight y i).proper in subst IsProperArrival spelt p

  fits : SessionFits u.net (locals_of u) m.session
  fits = subst (SessionFits u.net (locals_of u)) (sym of) ready.fit

  -- the end carries the session
  carries : Carries u.net (locals_of u) m.session y.end
  carries =
      let v = some_unit m.ask proper in
      let s = ready.resvs.items y m v.0 i spelt v.1 in
      record { hop = s.sound.hop; there = s.sound.there; from = s.sound.from; style = ask_style m.ask; unit = v.0.unit; part = s.sound.wanted; wanted = s.sound.is }

  -- someone wants something of the session in the style
  wants : (w : LocalWant) × In w (locals_of u).wants × (w.session ≡ m.session) × (w.style ≡ ask_style m.ask)
  wants =
      let v = some_unit m.ask proper in
      let s = ready.resvs.items y m v.0 i spelt v.1 in
      let b = want_needs (ask_style m.ask) u.net (locals_of u) m.session s.sound.hop v.0.unit s.sound.wanted s.sound.is in
      (b.want, b.there, b.session, b.style)

  pub can_be_taken : CanBeTaken place u.clock (iface_of u.net.ends y.end) m f (goal_at u.net (locals_of u) n)
  can_be_taken = record {
    proper = proper;
    lines_held = session_can_be_held q u.net u.trees (locals_of u) m.session y.end ready.bounds.net fits carries;
    there = sound_under u n f (λ st k r h. ready.resvs.facts st n f k r at h);
    units = placed;
    resv_style = λ st k r h same.
        let s = (ready.resvs.facts st n f k r at h).sound in
        let b = want_needs st u.net (locals_of u) k.0 s.hop k.1.1 s.wanted s.is in
        sym b.style ∙ fits.one_style b.want wants.0 b.there wants.1 (b.session ∙ same) wants.2 ∙ wants.3;
    want_style = λ v w h.
        fits.one_style (want_at n ((m.session, v), w)) wants.0 (node_wants u n f (m.session, v) w at h) wants.1 refl wants.2 ∙ wants.3;
  }

-- ---- so it is taken
pub takes_all : (q : ℕ) (s : Session) (t : Step) (u : World) → is_quiet t ≡ true → IsReady q s u
    → ((y : Item) (m : ResvMsg) → In y u.flight → y.arrival ≡ Spelt (message.Resv m) → y.dst ≡ addr_of u.net y.end)
    → TakesAllOf s q t u
takes_all q s t u quiet ready addressed y m f v arr spelt of at asked =
    let i : In y u.flight = in_arrived t u y arr in
    let n : ℕ = node_of u.net.ends y.end in
    let e : ℕ = iface_of u.net.ends y.end in
    let p : NodeConfig = config_of q u.net u.trees n in
    let lt = (ready.bounds.flight y i).end in
    let x = some_at u.net.ends y.end lt in
    let node : x.0.node ≡ n = sym (ap node_of_end x.1) in
    let end : end_at u.net.ends n e ≡ Some y.end = (interfaces_are_ends u.net).end_of_iface y.end lt in
    let dst : y.dst ≡ own p e = addressed y m i spelt ∙ sym (own_end q u.net u.trees n e y.end end) in
    let input : Input = Came e (own p e) (Spelt (message.Resv m)) in
    let came : input_at t u n ≡ Some input = ap (λ (z : ℕ). input_at t u z) (sym node) ∙ input_came t u y x.0 arr x.1 ∙ (λ j. Some (Came e (dst j) (spelt j))) in
    let ms : u.clock + ms_of t ≡ u.clock = (let z = arrival_takes_no_time t u y arr in omega arith) in
    let is = outcome_by q t u n f input quiet came in
    let can = can_be_taken q s u ready y m i spelt of f at in
    let taken = what_is_accepted.whole p p u.clock u.clock e m f (goal_at u.net (locals_of u) n) (ready.bounds.facts n f at) can in
    let unit = can.units v asked in
    let r = taken.facts v unit.names asked unit.listed in (
      r.0,
      ap (λ (o : Outcome). get (resvs_of (ask_style m.ask) o.facts) (m.session, ((e, m.hop.addr), v.unit))) is
          ∙ (λ j. get (resvs_of (ask_style m.ask) (facts_then p p (ms j) input f)) (m.session, ((e, m.hop.addr), v.unit))) ∙ r.1,
      unit.listed ∙ ap (λ (z : Part). Some z.senders) (sym r.2),
      ap (λ (z : Part). z.flow) (sym r.2),
    )

-- ---- worlds that stay ready
-- what local senders keep stays where the same is asked
pub locals_again : (o u : World) → IsSameNet o u → AreHosts o → AreHosts u
locals_again o u same l = record {
  placed = λ n f k t at h. let g = was n f at in ap (λ (z : Net). owner z.ends k.1.addr) same.net ∙ l.placed n g.0 k t g.1 (ap (λ (z : Table sender_keys TokenBucket). get z k) g.2 ∙ h);
  groups = λ n f k t at h. let g = was n f at in l.groups n g.0 k t g.1 (ap (λ (z : Table sender_keys TokenBucket). get z k) g.2 ∙ h);
  few_senders = λ s. subst (λ (z : Locals). length (live z s) ≤ 16) (sym same.locals) (l.few_senders s);
  few_sessions = subst (λ (z : Locals). length (keys (set_of {o = sessions} (each (λ (x : LocalSender). x.session) z.senders))) ≤ 32) (sym same.locals) l.few_sessions;
}
  where
    was : (n : ℕ) (f : Facts) → slice_get u.nodes n ≡ Some f → (g : Facts) × (slice_get o.nodes n ≡ Some g) × (g.senders ≡ f.senders)
    was n f at = senders_found o n f.senders (sym (same.senders n) ∙ ap (option_map (λ (z : Facts). z.senders)) at)

-- a session that fits does so where the same is asked
pub fits_again : (s : Session) (o u : World) → IsSameNet o u → SessionFits o.net (locals_of o) s → SessionFits u.net (locals_of u) s
fits_again s o u same fit = subst (λ (z : Net × Locals). SessionFits z.0 z.1 s) (λ i. (sym same.net i, sym same.locals i)) fit

abbrev pub IsSettledSoFar : World → Type 0
IsSettledSoFar u = ArePathsSound u × (ArePathsComplete u × AreResvsSound u)

pub ready_hold : (q : ℕ) (s : Session) (w : World) (rs : List (List Step)) → Rounds (machine q) rs w → AreHosts w → SessionFits w.net (locals_of w) s → Hold (machine q) 0 rs w (AreBounds q)
    → Hold (machine q) 0 rs w IsSettledSoFar → Hold (machine q) 0 rs w (IsReady q s)
ready_hold q s w rs calm locals fit bounds so_far =
    hold_map (machine q) (λ u. IsKnown q w u × IsSettledSoFar u) (IsReady q s)
    (λ u h. record {
      bounds = h.0.bounds;
      locals = locals_again w u h.0.same locals;
      fit = fits_again s w u h.0.same fit;
      sound = h.1.0;
      complete = h.1.1.0;
      resvs = h.1.1.1;
    }) 0 rs w
    (hold_both (machine q) (IsKnown q w) IsSettledSoFar 0 rs w (known_hold q w rs calm bounds) so_far)

-- each arrival of the session is taken, one round on, when Resvs go to the end whose address they are sent to
pub arrivals_are_taken : (q : ℕ) (s : Session) (w : World) (rs : List (List Step)) → Rounds (machine q) rs w → AreHosts w → SessionFits w.net (locals_of w) s → Hold (machine q) 0 rs w (AreBounds q)
    → Hold (machine q) 0 rs w IsSettledSoFar
    → Hold (machine q) 1 rs w (λ u. (t : Step) → is_quiet t ≡ true → TakesAllOf s q t u)
arrivals_are_taken q s w rs calm locals fit bounds so_far =
    let ready = ready_hold q s w rs calm locals fit bounds so_far in
    let valid = (hold_start (machine q) (AreBounds q) rs w bounds).net in
    let firm = firm_hold q w rs calm bounds (hold_map (machine q) IsSettledSoFar ArePathsSound (λ u h. h.0) 0 rs w so_far) in
    hold_map (machine q) (λ u. IsReady q s u × IsAddressed 0 u) (λ u. (t : Step) → is_quiet t ≡ true → TakesAllOf s q t u)
    (λ u h t quiet. takes_all q s t u quiet h.0 (λ y m i spelt. h.1 y m i (omega arith) spelt)) 1 rs w
    (hold_both (machine q) (IsReady q s) (IsAddressed 0) 1 rs w (hold_later (machine q) (IsReady q s) 0 1 rs w (omega arith) ready) (addressed q w valid rs w calm firm))
