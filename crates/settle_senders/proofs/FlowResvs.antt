-- A Path with another flow changes no reservation: what goes toward a hop depends on who sends and by which hops paths come, and not on their flows.
-- So Paths alone are in flight when a host says another flow in a settled network in which nothing was, and when they are gone it has settled again.
use Rattle.std.proofs.Common.{◌≡◌, ℕ, zero, suc, List, [], ◌∷◌, ◌++◌, length, Bool, true, false, cond, Option, Some, None, ◌⊎◌, inl, inr, ⊎_elim, sym, refl, ap, subst, ◌∙◌}
use Rattle.std.specs.Prelude.{slice_get, is_some, ◌==◌, ◌||◌, ◌&&◌}
use Rattle.std.specs.List.{filter_map}
use Rattle.std.specs.Option.{option_map}
use Rattle.rsvp_base.specs.declared.addr.Addr.{Addr}
use Rattle.rsvp_base.specs.declared.session.Session.{Session}
use Rattle.rsvp_base.specs.declared.style.Unit.{Unit as UnitOf}
use Rattle.rsvp_base.specs.Keys.{pairs}
use Rattle.rsvp_base.specs.Members.{In}
use Rattle.rsvp_base.specs.Orders.{Names, senders as by_sender, sessions, units}
use Rattle.rsvp_base.specs.Table.{get, has, kept, size}
use Rattle.rsvp_base.specs.TokenBucket.{IsSound, TokenBucket}
use Rattle.rsvp_base.specs.Under.{under}
use Rattle.rsvp_base.proofs.Filters.{same_test}
use Rattle.rsvp_base.proofs.SetLaws.{same_set}
use Rattle.rsvp_base.proofs.Tables.{either}
use Rattle.rsvp_messages.specs.declared.message.Message.TheVariants as message
use Rattle.rsvp_messages.specs.declared.message.PathMsg.{PathMsg}
use Rattle.rsvp_messages.specs.declared.message.PathTearMsg.{PathTearMsg}
use Rattle.rsvp_messages.specs.declared.message.ResvMsg.{ResvMsg}
use Rattle.rsvp_messages.specs.declared.message.ResvTearMsg.{ResvTearMsg}
use Rattle.style_rules.specs.Lines.{NextHop, next_hops}
use Rattle.style_rules.specs.Merge.{PartTable}
use Rattle.style_rules.specs.Parts.{part_cut}
use Rattle.style_rules.specs.Toward.{toward as merged_toward}
use Rattle.laws_bounds.specs.FactLaws.{ComesBy}
use Rattle.laws_bounds.specs.SendLaws.{IsConf, IsError, IsPath, IsPathTear, IsResv, IsResvTear}
use Rattle.laws_bounds.proofs.Framing.{act_resvs, act_walls, act_wants}
use Rattle.laws_bounds.proofs.Knowing.{has-known, known_and_via}
use Rattle.laws_bounds.proofs.Ruling.{toward_unmarked}
use Rattle.laws_bounds.proofs.Stepping.{send_told}
use Rattle.laws_steps.proofs.Framing.{forget_nobody}
use Rattle.laws_steps.proofs.Hopward.{what_a_resv_sent_says, why_a_resv_tear_is_sent}
use Rattle.router_rules.specs.Act.{act, is_mine}
use Rattle.router_rules.specs.Books.{book}
use Rattle.router_rules.specs.Calls.{call_refusal}
use Rattle.router_rules.specs.Bounds.{IsWithinBounds}
use Rattle.router_rules.specs.Facts.{Facts, PathState, ResvState, ResvTables, SenderKey, Walls, Want, Wants, no_facts, table_of}
use Rattle.router_rules.specs.Inputs.{Call, Came, Change, ConfSend, ErrSend, Input, Local, Send, SendAs, Spelt, Wait}
use Rattle.router_rules.specs.Known.{Lane, came_by, known, named_as, via}
use Rattle.router_rules.specs.NodeConfig.{NodeConfig, goes_out, is_addr}
use Rattle.router_rules.specs.Requests.{is_style, request_of, toward, want_part}
use Rattle.router_rules.specs.Rule.{Outcome, is_silent, rule, settled, spoken}
use Rattle.router_rules.specs.Sends.{confirmed, used_marks}
use Rattle.router_rules.specs.Steps.{facts_then, node_step, sent_then}
use Rattle.tree_model.specs.declared.hops.LinkHop.{LinkHop}
use Rattle.tree_model.specs.Goals.{addr_of, demand_of}
use Rattle.tree_model.specs.Networks.{Net, iface_of, node_of}
use Rattle.tree_model.specs.Ranks.{longest}
use Rattle.tree_model.specs.Trees.{tree}
use Rattle.tree_model.specs.Wants.{Locals, want}
use Rattle.tree_model.specs.Valid.{IsValid}
use Rattle.tree_model.proofs.Ifaces.{interfaces_are_ends}
use Rattle.tree_model.proofs.TreeLaws.{one}
use Rattle.network_model.specs.Bounds.{AreBounds, AreHosts}
use Rattle.network_model.specs.Events.{pass, passes}
use Rattle.network_model.specs.Locals.{locals_of}
use Rattle.network_model.specs.Steps.{At, Deliver, Step, outcome, sent, step, still}
use Rattle.network_model.specs.Worlds.{Item, World}
use Rattle.network_model.proofs.Changing.{what_is_sent_is_copied}
use Rattle.network_model.proofs.Machines.{in_arrived, in_flight_after}
use Rattle.network_model.proofs.Stepping.{facts_after_found, facts_after_made}
use Rattle.network_model.specs.Sound.{AreResvsExact, AreResvsSound}
use Rattle.network_model.proofs.Quiet.{at_node_found}
use Rattle.laws_network.specs.Known.{IsSameNet}
use Rattle.laws_network.proofs.Known.{has_some, of_some, senders_kept}
use Rattle.laws_network.proofs.Speaking.{refreshes_are_marked}
use Rattle.settle_resvs.proofs.SoundResvs.{part_again}
use Rattle.settle_network.specs.Settled.{HasSettled}
use Rattle.settle_passes.specs.Calls.{SendsAt, after_send}
use Rattle.settle_passes.specs.Passes.{HasNoPathTear, after_passes}
use Rattle.settle_passes.proofs.Deliveries.{came_by_delivery, known_self, live_back, path_stays, same_next, tear_of_none}
use Rattle.settle_passes.proofs.Spreading.{after_deliveries, run_then}
use Rattle.settle_passes.proofs.Turns.{Turns, moment, place, sent_in_turn}
use Rattle.settle_passes.proofs.Called.{in_flight_then, turns as called_turns, unless_same}
use Rattle.settle_senders.specs.Flows.{HasItsFlows, IsTelling}
use Rattle.settle_senders.proofs.FlowsThere.{flows_are_set_up, flows_that_are_there_are_said, telling_next}
use Rattle.settle_senders.proofs.FlowCalls.{a_new_flow_is_said, locals_same, put_has_same}
use Rattle.settle_senders.specs.Readings.{IsPathOnTheTree}
use Rattle.settle_senders.proofs.Silence.{no_confs, no_errors, not_asked}
use Rattle.settle_senders.proofs.OfferDeliveries.{paths_next, turns}

-- ---- what goes toward a hop: by what stands, what is wanted, the blockades, and whose paths come by the hop
abbrev toward_with : NodeConfig → Lane → ResvTables → Wants → Walls → Names → PartTable
toward_with p l resvs wants walls names =
    merged_toward l.style
    (filter_map (λ (e : (NextHop × UnitOf) × ResvState). request_of walls l (part_cut e.1.part (named_as l.style (kept (goes_out p l.session e.0.0.0) names))))
    (under sessions (pairs next_hops units) (table_of l.style resvs) l.session).rows
    ++ filter_map (λ (e : UnitOf × Want). cond (is_style e.1.style l.style) (request_of walls l (want_part l.style (named_as l.style names) e.1.part)) None)
    (under sessions units wants l.session).rows)

toward_same : (p : NodeConfig) (l : Lane) (f g : Facts) → f.resvs ≡ g.resvs → f.wants ≡ g.wants → f.walls ≡ g.walls → via f l.session l.hop ≡ via g l.session l.hop → toward p f l ≡ toward p g l
toward_same p l f g r w b v = λ i. toward_with p l (r i) (w i) (b i) (v i)

-- ---- an input that tells a node of nobody whom it did not know, and by no other hop
record IsIdleTurn (p : NodeConfig) (c : ℕ) (input : Input) (f : Facts) : Type 0 where
  errors : (act p c input f).errors ≡ []
  confs : (act p c input f).confs ≡ []
  asked : (act p c input f).asked ≡ None
  resvs : (act p c input f).facts.resvs ≡ f.resvs
  wants : (act p c input f).facts.wants ≡ f.wants
  walls : (act p c input f).facts.walls ≡ f.walls
  known_same : (s : Session) → known f s ≡ known (act p c input f).facts s
  via_same : (s : Session) (hop : NextHop) → via f s hop ≡ via (act p c input f).facts s hop

module _ (p : NodeConfig) (b c : ℕ) (input : Input) (f : Facts) (loud : is_silent input ≡ false) (timeless : (ms word : ℕ) → input ≡ Wait ms word → ⊥) (within : IsWithinBounds p b f)
    (idle : IsIdleTurn p c input f) where
  abbrev change : Change
  change = act p c input f

  abbrev after : Facts
  after = settled p c f change.facts

  resvs_settled : after.resvs ≡ f.resvs
  resvs_settled =
      forget_nobody f change.facts idle.known_same
      (λ st k x e. (within.shapes.resvs st k x (ap (λ (ts : ResvTables). get (table_of st ts) k) (sym idle.resvs) ∙ e)).style.named) ∙ idle.resvs

  resvs_left : (facts_then p p c input f).resvs ≡ f.resvs
  resvs_left = resvs_settled

  walls_left : (facts_then p p c input f).walls ≡ f.walls
  walls_left = idle.walls

  toward_left : (l : Lane) → toward p f l ≡ toward p (facts_then p p c input f) l
  toward_left l =
      toward_same p l f after (sym resvs_settled) (sym idle.wants) (sym idle.walls) (idle.via_same l.session l.hop)
      ∙ sym (ap (λ (z : Bool). toward p (spoken z p p f after change).facts l) loud ∙ toward_unmarked p after l (used_marks p p f after change.asked))

  no_resv : (s : Send) → In s (sent_then p p c input f) → (m : ResvMsg) → s.message ≡ message.Resv m → ⊥
  no_resv s i m e =
      let at = node_step p p b c input f in
      either s.refresh
      (λ yes. let w = refreshes_are_marked.waited at within s i yes in timeless w.0 w.1 w.2)
      (λ no. let w = what_a_resv_sent_says.why at within s m i e no in w.5 (toward_left w.0))

  no_resv_tear : (s : Send) → In s (sent_then p p c input f) → (m : ResvTearMsg) → s.message ≡ message.ResvTear m → ⊥
  no_resv_tear s i m e =
      let w = why_a_resv_tear_is_sent (node_step p p b c input f) within s m i e in
      let gone = w.gone w.some.0 w.some.1 in
      let still_there : has (toward p (facts_then p p c input f) w.lane) gone.unit ≡ true =
      ap (λ (t : PartTable). has t gone.unit) (sym (toward_left w.lane)) ∙ ap (λ (o : Option _). is_some o) gone.was in
      let bad : true ≡ false = sym still_there ∙ gone.gone in
      absurd (cc)

  -- so it sends Paths and PathTears alone
  sends_paths : (s : Send) → In s (sent_then p p c input f) → ((m : PathMsg) × (s.message ≡ message.Path m)) ⊎ ((m : PathTearMsg) × (s.message ≡ message.PathTear m))
  sends_paths s i =
      ⊎_elim
      (λ (x : IsPathTear p p f after change s). inr (_, ap (λ (z : Send). z.message) x.is))
      (λ k. ⊎_elim (λ (x : IsResvTear p p f after change s). absurd (no_resv_tear s i _ (ap (λ (z : Send). z.message) x.is)))
      (λ k. ⊎_elim (λ (x : IsError p p f after change s). absurd (subst (λ (zs : List ErrSend). In x.error zs) idle.errors x.made))
      (λ k. ⊎_elim (λ (x : IsConf p p f after change s).
      let none : change.confs ++ confirmed p p f after change.asked ≡ [] = (λ j. idle.confs j ++ confirmed p p f after (idle.asked j)) in
      absurd (subst (λ (zs : List ConfSend). In x.conf zs) none x.made))
      (λ k. ⊎_elim (λ (x : IsPath p p f after change s). inl (_, ap (λ (z : Send). z.message) x.is))
      (λ (x : IsResv p p f after change s). absurd (no_resv s i _ (ap (λ (z : Send). z.message) x.is))) k) k) k) k)
      (send_told p p c input f s i)

-- ---- a Path that comes
module _ (p : NodeConfig) (c e : ℕ) (dst : Addr) (m : PathMsg) (f : Facts) where
  abbrev tells : Input
  tells = Came e dst (Spelt (message.Path m))

  path_idle : ((s : Session) → known f s ≡ known (facts_then p p c tells f) s) → ((s : Session) (hop : NextHop) → via f s hop ≡ via (facts_then p p c tells f) s hop) → IsIdleTurn p c tells f
  path_idle knows ways = record {
    errors = no_errors p c e dst m f (is_mine p e dst (message.Path m));
    confs = no_confs p c e dst m f (is_mine p e dst (message.Path m));
    asked = not_asked p c e dst m f (is_mine p e dst (message.Path m));
    resvs = act_resvs p c tells f refl;
    wants = act_wants p c tells f refl;
    walls = act_walls p c tells f refl;
    known_same = knows;
    via_same = ways;
  }

-- ---- the hop by which a path comes
on_way : (w : World) → IsValid w.net → (n : ℕ) (k : SenderKey) (x : PathState) → IsPathOnTheTree w n k x
    → (h : LinkHop) × In h (tree w.net.hops k.0.group k.1.addr) × (node_of w.net.ends h.to ≡ n) × (x.iface ≡ iface_of w.net.ends h.to) × (x.hop.addr ≡ addr_of w.net h.from)
on_way w valid n k x s =
    let of = (interfaces_are_ends w.net).iface_of_end n x.iface s.end s.at in
    (s.sound.1.hop, s.sound.1.there, ap (node_of w.net.ends) s.sound.1.to ∙ of.1, sym of.2 ∙ ap (iface_of w.net.ends) (sym s.sound.1.to), s.sound.1.from)

same_truth : (a b : Bool) → (a ≡ true → b ≡ true) → (b ≡ true → a ≡ true) → a ≡ b
same_truth a b forth back = same_test a b forth back

-- ---- what stands at a node: reservations and blockades
abbrev what_stands : Facts → ResvTables × Walls
what_stands f = (f.resvs, f.walls)

-- ---- a step by which a node follows its rule at most, in idle turns: Paths alone are sent, and what stands stays
module _ (q : ℕ) (t : Step) (u : World) (bounds : AreBounds q u) (follows : (n : ℕ) (f : Facts) → slice_get u.nodes n ≡ Some f → (outcome q t u n f ≡ still f) ⊎ Turns q t u n f)
    (idle : (n : ℕ) (f : Facts) → slice_get u.nodes n ≡ Some f → (r : Turns q t u n f) → IsIdleTurn (place q t u n) (moment q t u) r.input f) where
  stands : (n : ℕ) (f : Facts) → slice_get u.nodes n ≡ Some f → what_stands (outcome q t u n f).facts ≡ what_stands f
  stands n f at =
      ⊎_elim (λ (z : outcome q t u n f ≡ still f). ap (λ (o : Outcome). what_stands o.facts) z)
      (λ (r : Turns q t u n f).
      let p : NodeConfig = place q t u n in
      ap (λ (o : Outcome). what_stands o.facts) r.is
      ∙ (λ i. (
        resvs_left p u.clock (moment q t u) r.input f r.loud r.timeless (bounds.facts n f at) (idle n f at r) i,
        walls_left p u.clock (moment q t u) r.input f r.loud r.timeless (bounds.facts n f at) (idle n f at r) i,
      )))
      (follows n f at)

  -- so at each node what stood
  kept_there : (n : ℕ) → option_map what_stands (slice_get (step q t u).nodes n) ≡ option_map what_stands (slice_get u.nodes n)
  kept_there n = by (slice_get u.nodes n) (slice_get (step q t u).nodes n) refl refl
    where
      by : (o o' : Option Facts) → slice_get u.nodes n ≡ o → slice_get (step q t u).nodes n ≡ o'
          → option_map what_stands (slice_get (step q t u).nodes n) ≡ option_map what_stands (slice_get u.nodes n)
      by (Some f) o' was is = ap (option_map what_stands) (facts_after_made q t u n f was) ∙ ap Some (stands n f was) ∙ sym (ap (option_map what_stands) was)
      by None (Some g) was is = let f = facts_after_found q t u n g is in let bad : None ≡ Some f.0 = sym was ∙ f.1 in absurd (cc)
      by None None was is = ap (option_map what_stands) is ∙ sym (ap (option_map what_stands) was)

  paths_sent : HasNoPathTear (step q t u) → (y : Item) (b : Bool) → In (y, b) (sent q t u) → In y (step q t u).flight → (m : PathMsg) × (y.arrival ≡ Spelt (message.Path m))
  paths_sent no_tear y b i flies =
      let c = (what_is_sent_is_copied q t u (y, b)).0 i in
      let spelt : y.arrival ≡ Spelt c.send.message = ap (λ (z : Item × Bool). z.0.arrival) c.is in
      let r = sent_in_turn q t u bounds follows y b c.send.message i spelt in
      ⊎_elim
      (λ (x : (m : PathMsg) × (r.send.message ≡ message.Path m)). (x.0, spelt ∙ ap Spelt (sym r.says ∙ x.1)))
      (λ (x : (m : PathTearMsg) × (r.send.message ≡ message.PathTear m)). absurd (no_tear y x.0 flies (spelt ∙ ap Spelt (sym r.says ∙ x.1))))
      (sends_paths (place q t u r.node) u.clock (moment q t u) r.by.input r.facts r.by.loud r.by.timeless (bounds.facts r.node r.facts r.there) (idle r.node r.facts r.there r.by) r.send r.sent_one)

-- ---- a network in which Paths alone are in flight, and what stands is what stood
pub record IsQuietBut (q : ℕ) (o u : World) : Type 0 where
  pub telling : IsTelling q u
  pub same : IsSameNet o u
  pub stands : (n : ℕ) → option_map what_stands (slice_get u.nodes n) ≡ option_map what_stands (slice_get o.nodes n)
  pub paths : (y : Item) → In y u.flight → (m : PathMsg) × (y.arrival ≡ Spelt (message.Path m))

-- ---- one delivery
module _ (q : ℕ) (o u : World) (start : IsQuietBut q o u) where
  abbrev bounds : AreBounds q u
  bounds = start.telling.rooted.bounds

  abbrev next : World
  next = step q (Deliver 0) u

  module _ (n : ℕ) (f g : Facts) (at : slice_get u.nodes n ≡ Some f) (then_at : slice_get next.nodes n ≡ Some g) where
    -- a path stays, and comes by the same hop
    path_forth : (k : SenderKey) (x : PathState) → get f.paths k ≡ Some x → (y : PathState) × (get g.paths k ≡ Some y) × (x.iface ≡ y.iface) × (x.hop.addr ≡ y.hop.addr)
    path_forth k x e =
        let s = path_stays q 0 u bounds n f k x (tear_of_none u start.telling.rooted.no_tear k) at e in
        let same : s.0 ≡ g = of_some s.0 g (sym s.1 ∙ then_at) in
        let there : get g.paths k ≡ Some s.2 = ap (λ (z : Facts). get z.paths k) (sym same) ∙ s.3 in
        let w = one_way_on k x s.2 e there in
        (s.2, there, w.0, w.1)
      where
        one_way_on : (k : SenderKey) (x y : PathState) → get f.paths k ≡ Some x → get g.paths k ≡ Some y → (x.iface ≡ y.iface) × (x.hop.addr ≡ y.hop.addr)
        one_way_on k x y e h =
            let a = on_way u bounds.net n k x (start.telling.rooted.paths.facts n f k x at e) in
            let b = on_way next bounds.net n k y ((paths_next q u start.telling.rooted).facts n g k y then_at h) in
            let same : a.0 ≡ b.0 = one u.net bounds.net k.0.group k.1.addr a.0 b.0 a.1 b.1 (a.2 ∙ sym b.2) in
            (a.3 ∙ ap (λ (h : LinkHop). iface_of u.net.ends h.to) same ∙ sym b.3, a.4 ∙ ap (λ (h : LinkHop). addr_of u.net h.from) same ∙ sym b.4)

    -- and was there
    path_back : (k : SenderKey) (y : PathState) → get g.paths k ≡ Some y → (x : PathState) × (get f.paths k ≡ Some x)
    path_back k y e =
        let s = (paths_next q u start.telling.rooted).facts n g k y then_at e in
        let w = on_way next bounds.net n k y s in
        let p = start.telling.there k s.sound.0 w.0 (live_back q 0 u bounds k s.sound.0 s.sound.1.live) w.1 in
        let same : p.1.facts ≡ f = of_some p.1.facts f (sym p.1.node ∙ ap (λ (z : ℕ). slice_get u.nodes z) w.2 ∙ at) in
        (p.1.path, ap (λ (z : Facts). get z.paths k) (sym same) ∙ p.1.there)

    has_path : (k : SenderKey) → has f.paths k ≡ has g.paths k
    has_path k =
        same_truth (has f.paths k) (has g.paths k)
        (λ h. let x = has_some (get f.paths k) h in let y = path_forth k x.0 x.1 in ap (λ (z : Option PathState). is_some z) y.1)
        (λ h. let y = has_some (get g.paths k) h in let x = path_back k y.0 y.1 in ap (λ (z : Option PathState). is_some z) x.1)

    senders_same : g.senders ≡ f.senders
    senders_same =
        of_some g.senders f.senders
        (sym (ap (option_map (λ (z : Facts). z.senders)) then_at) ∙ senders_kept q (Deliver 0) u refl bounds n ∙ ap (option_map (λ (z : Facts). z.senders)) at)

    knows : (s : Session) → known f s ≡ known g s
    knows s =
        same_set by_sender (known f s) (known g s)
        (λ x. has-known f s x ∙ (λ i. has (sym senders_same i) (s, x) || has_path (s, x) i) ∙ sym (has-known g s x))

    ways : (s : Session) (hop : NextHop) → via f s hop ≡ via g s hop
    ways s hop =
        same_set by_sender (via f s hop) (via g s hop)
        (λ x.
        same_truth (has (via f s hop) x) (has (via g s hop) x)
        (λ h.
        let c : ComesBy f s hop x = (known_and_via.via_by f s hop x).0 h in
        let y = path_forth (s, x) c.path c.there in
        (known_and_via.via_by g s hop x).1 (record { path = y.0; there = y.1; by = (λ i. is_by (sym y.2 i) (sym y.3 i)) ∙ c.by }))
        (λ h.
        let c : ComesBy g s hop x = (known_and_via.via_by g s hop x).0 h in
        let z = path_back (s, x) c.path c.there in
        let y = path_forth (s, x) z.0 z.1 in
        let same : y.0 ≡ c.path = of_some y.0 c.path (sym y.1 ∙ c.there) in
        (known_and_via.via_by f s hop x).1
        (record { path = z.0; there = z.1; by = (λ i. is_by (y.2 i) (y.3 i)) ∙ ap (λ (d : PathState). came_by hop d) same ∙ c.by })))
      where
        is_by : ℕ → Addr → Bool
        is_by i a = (i == hop.0) && is_addr a hop.1

  idle_turns : (n : ℕ) (f : Facts) → slice_get u.nodes n ≡ Some f → (r : Turns q (Deliver 0) u n f) → IsIdleTurn (place q (Deliver 0) u n) (moment q (Deliver 0) u) r.input f
  idle_turns n f at r =
      let c = came_by_delivery q 0 u bounds n r.input r.came in
      let m = start.paths c.item (in_arrived (Deliver 0) u c.item c.arrives) in
      let input : r.input ≡ Came (iface_of u.net.ends c.item.end) c.item.dst (Spelt (message.Path m.0)) = c.is ∙ ap (λ (z : _). Came (iface_of u.net.ends c.item.end) c.item.dst z) m.1 in
      by r.input (iface_of u.net.ends c.item.end) c.item.dst m.0 input r.is
    where
      by : (i : Input) (e : ℕ) (dst : Addr) (m : PathMsg) → i ≡ Came e dst (Spelt (message.Path m))
          → outcome q (Deliver 0) u n f ≡ rule (place q (Deliver 0) u n) (place q (Deliver 0) u n) (moment q (Deliver 0) u) i f
          → IsIdleTurn (place q (Deliver 0) u n) (moment q (Deliver 0) u) i f
      by i e dst m same is =
          let p : NodeConfig = place q (Deliver 0) u n in
          let d : ℕ = moment q (Deliver 0) u in
          let tells : Input = Came e dst (Spelt (message.Path m)) in
          let out : (outcome q (Deliver 0) u n f).facts ≡ facts_then p p d tells f = ap (λ (z : Outcome). z.facts) is ∙ ap (λ (z : Input). facts_then p p d z f) same in
          let after = facts_after_made q (Deliver 0) u n f at in
          subst (λ (z : Input). IsIdleTurn p d z f) (sym same)
          (path_idle p d e dst m f (λ s. knows n f (outcome q (Deliver 0) u n f).facts at after s ∙ ap (λ (z : Facts). known z s) out)
          (λ s hop. ways n f (outcome q (Deliver 0) u n f).facts at after s hop ∙ ap (λ (z : Facts). via z s hop) out))

  pub quiet_next : IsQuietBut q o next
  quiet_next =
      let telling : IsTelling q next = telling_next q u start.telling in
      record {
        telling = telling;
        same = same_next q 0 u bounds o start.same;
        stands = λ n. kept_there q (Deliver 0) u bounds (turns q u start.telling.rooted) idle_turns n ∙ start.stands n;
        paths = λ y i.
            ⊎_elim (λ (old : In y u.flight). start.paths y old)
            (λ (new : (b : Bool) × In (y, b) (sent q (Deliver 0) u)). paths_sent q (Deliver 0) u bounds (turns q u start.telling.rooted) idle_turns telling.rooted.no_tear y new.0 new.1 i)
            (in_flight_after q (Deliver 0) u y refl i);
      }

-- ---- passes
module _ (q : ℕ) (o : World) where
  quiet_on : (n : ℕ) (u : World) → IsQuietBut q o u → IsQuietBut q o (after_deliveries q n u)
  quiet_on zero u s = s
  quiet_on (suc n) u s = quiet_on n (step q (Deliver 0) u) (quiet_next q o u s)

  pub quiet_passes : (n : ℕ) (u : World) → IsQuietBut q o u → IsQuietBut q o (after_passes q n u)
  quiet_passes zero u s = s
  quiet_passes (suc n) u s =
      let v : World = after_deliveries q (length u.flight) u in
      subst (IsQuietBut q o) (sym (run_then q (pass q u) (passes q n v) u)) (quiet_passes n v (quiet_on (length u.flight) u s))

-- ---- where what stands is what stood, the same is asked, paths are there and nothing is in flight, a settled network has settled
found : (a b : World) (n : ℕ) (f : Facts) → option_map what_stands (slice_get a.nodes n) ≡ option_map what_stands (slice_get b.nodes n) → slice_get a.nodes n ≡ Some f
    → (g : Facts) × (slice_get b.nodes n ≡ Some g) × (f.resvs ≡ g.resvs) × (f.walls ≡ g.walls)
found a b n f same at = by (slice_get b.nodes n) refl (sym (ap (option_map what_stands) at) ∙ same)
  where
    by : (o : Option Facts) → slice_get b.nodes n ≡ o → Some (what_stands f) ≡ option_map what_stands o → (g : Facts) × (slice_get b.nodes n ≡ Some g) × (f.resvs ≡ g.resvs) × (f.walls ≡ g.walls)
    by None is h = absurd (cc)
    by (Some g) is h =
        let both : what_stands f ≡ what_stands g = of_some (what_stands f) (what_stands g) h in
        (g, is, ap (λ (z : ResvTables × Walls). z.0) both, ap (λ (z : ResvTables × Walls). z.1) both)

module _ (q : ℕ) (o v : World) (settled_before : HasSettled q o) (flows : HasItsFlows q v) (net : v.net ≡ o.net) (locals : locals_of v ≡ locals_of o)
    (stood : (n : ℕ) → option_map what_stands (slice_get v.nodes n) ≡ option_map what_stands (slice_get o.nodes n)) (quiet : v.flight ≡ []) where
  -- with the network as it is called now
  abbrev w : World
  w = record o { net = v.net }

  was : HasSettled q w
  was = subst (λ (z : Net). HasSettled q (record o { net = z })) (sym net) settled_before

  back : (n : ℕ) (f : Facts) → slice_get v.nodes n ≡ Some f → (g : Facts) × (slice_get w.nodes n ≡ Some g) × (f.resvs ≡ g.resvs) × (f.walls ≡ g.walls)
  back n f at = found v o n f (stood n) at

  nobody : (y : Item) → In y v.flight → ⊥
  nobody y i = subst (In y) quiet i

  sound_now : AreResvsSound v
  sound_now = record {
    facts = λ st n f k r at e.
        let g = back n f at in
        let s = was.resvs_sound.facts st n g.0 k r g.1 (ap (λ (ts : ResvTables). get (table_of st ts) k) (sym g.2) ∙ e) in
        record { end = s.end; at = s.at; sound = part_again st w v k.0 s.end k.1.0.1 k.1.1 r.part refl (sym locals) s.sound };
    items = λ y m u i spelt asks. absurd (nobody y i);
  }

  exact_now : AreResvsExact v
  exact_now st s h there =
      let x = was.resvs_exact st s h there in
      let f = found o v (node_of v.net.ends h.from) x.facts (sym (stood (node_of v.net.ends h.from))) x.node in
      record {
        facts = f.0;
        node = f.1;
        wanted = λ u p e.
            let y = x.wanted u p (ap (λ (l : Locals). get (want st v.net l s h) u) (sym locals) ∙ e) in
            (y.0, ap (λ (ts : ResvTables). get (table_of st ts) (s, ((iface_of v.net.ends h.from, addr_of v.net h.to), u))) (sym f.2) ∙ y.1, y.2);
        stands = λ u r e.
            ap (λ (l : Locals). get (want st v.net l s h) u) locals
            ∙ x.stands u r (ap (λ (ts : ResvTables). get (table_of st ts) (s, ((iface_of v.net.ends h.from, addr_of v.net h.to), u))) f.2 ∙ e);
      }

  pub settled_still : HasSettled q v
  settled_still = record {
    paths_sound = flows.paths.sound;
    paths_complete = flows.paths.complete;
    resvs_sound = sound_now;
    resvs_exact = exact_now;
    books = λ e f lt at.
        let g = back (node_of v.net.ends e) f at in
        ap (λ (ts : ResvTables). book (record no_facts { resvs = ts }) (iface_of v.net.ends e)) g.2 ∙ was.books e g.0 lt g.1 ∙ ap (λ (l : Locals). demand_of v.net l e) (sym locals);
    takes_all = λ s calm y m f u arr spelt at asks. absurd (nobody y (in_arrived s v y arr));
    no_flow_error = λ y m i spelt. absurd (nobody y i);
    no_blockade = record { walls = λ n f at. let g = back n f at in ap (λ (z : Walls). size z) g.3 ∙ was.no_blockade.walls n g.0 g.1 };
  }

-- ---- the call
module _ (q n : ℕ) (k : SenderKey) (t : TokenBucket) (w : World) (start : HasItsFlows q w) (fit : IsSound t) (sends : SendsAt w n k) (quiet : w.flight ≡ []) where
  abbrev call : Local
  call = SendAs k.0 k.1 t

  abbrev told_world : World
  told_world = after_send q n k t w

  abbrev bounds_now : AreBounds q w
  bounds_now = start.paths.bounds

  abbrev call_turns : (m : ℕ) (f : Facts) → slice_get w.nodes m ≡ Some f → (outcome q (At n call) w m f ≡ still f) ⊎ Turns q (At n call) w m f
  call_turns = called_turns q n call w

  idle_for : (p : NodeConfig) (c : ℕ) (f : Facts) → has f.senders k ≡ true → IsIdleTurn p c (Call call) f
  idle_for p c f there = record {
    errors = refl;
    confs = refl;
    asked = refl;
    resvs = refl;
    wants = unless_same (call_refusal p call f) f.wants;
    walls = refl;
    known_same = λ s.
        same_set by_sender (known f s) (known (act p c (Call call) f).facts s)
        (λ x.
        has-known f s x ∙ ap (λ (b : Bool). b || has f.paths (s, x)) (sym (put_has_same (call_refusal p call f) f.senders k t (s, x) there))
        ∙ sym (has-known (act p c (Call call) f).facts s x));
    via_same = λ s hop. refl;
  }

  call_idle : (m : ℕ) (f : Facts) → slice_get w.nodes m ≡ Some f → (r : Turns q (At n call) w m f) → IsIdleTurn (place q (At n call) w m) (moment q (At n call) w) r.input f
  call_idle m f at r =
      let found_at = at_node_found n m (Call call) r.input r.came in
      let one_there : sends.facts ≡ f = of_some sends.facts f (sym sends.there ∙ ap (λ (z : ℕ). slice_get w.nodes z) found_at.0 ∙ at) in
      let there : has f.senders k ≡ true = ap (λ (z : Facts). has z.senders k) (sym one_there) ∙ sends.sends in
      subst (λ (z : Input). IsIdleTurn (place q (At n call) w m) (moment q (At n call) w) z f) (sym found_at.1) (idle_for (place q (At n call) w m) (moment q (At n call) w) f there)

  told : IsTelling q told_world
  told = a_new_flow_is_said q n k t w (flows_that_are_there_are_said q w start) fit sends

  quiet_begun : IsQuietBut q told_world told_world
  quiet_begun = record {
    telling = told;
    same = (known_self q told_world told.rooted.bounds).same;
    stands = λ m. refl;
    paths = λ y i.
        ⊎_elim (λ (old : In y w.flight). absurd (subst (In y) quiet old))
        (λ (new : (b : Bool) × In (y, b) (sent q (At n call) w)). paths_sent q (At n call) w bounds_now call_turns call_idle told.rooted.no_tear y new.0 new.1 i)
        (in_flight_then q n call w y i);
  }

  abbrev later : World
  later = after_passes q (longest w.net) told_world

  quiet_later : IsQuietBut q told_world later
  quiet_later = quiet_passes q told_world (longest w.net) told_world quiet_begun

  flows_later : HasItsFlows q later
  flows_later = flows_are_set_up q told_world told

  none_flies : later.flight ≡ []
  none_flies = by later.flight refl
    where
      by : (ys : List Item) → later.flight ≡ ys → later.flight ≡ []
      by [] is = is
      by (y ∷ ys) is =
          let i : In y later.flight = subst (λ (zs : List Item). In y zs) (sym is) (inl refl) in
          let m = quiet_later.paths y i in absurd (flows_later.no_path y m.0 i m.1)

  settled_later : HasSettled q w → HasSettled q later
  settled_later before =
      settled_still q w later before flows_later quiet_later.same.net (quiet_later.same.locals ∙ locals_same q n k t w sends)
      (λ m. quiet_later.stands m ∙ kept_there q (At n call) w bounds_now call_turns call_idle m) none_flies

pub a_new_flow_leaves_reservations : (q n : ℕ) (k : SenderKey) (t : TokenBucket) (w : World) → AreBounds q w → AreHosts w → HasSettled q w → w.flight ≡ [] → IsSound t → SendsAt w n k
    → HasSettled q (after_passes q (longest w.net) (after_send q n k t w)) × ((after_passes q (longest w.net) (after_send q n k t w)).flight ≡ [])
a_new_flow_leaves_reservations q n k t w bounds hosts settled quiet fit sends =
    let none : (y : Item) → In y w.flight → ⊥ = (λ y i. subst (In y) quiet i) in
    let start : HasItsFlows q w =
    record {
      paths = record { bounds = bounds; hosts = hosts; sound = settled.paths_sound; complete = settled.paths_complete; no_tear = λ y m i spelt. none y i };
      no_path = λ y m i spelt. none y i;
    } in
    (settled_later q n k t w start fit sends quiet settled, none_flies q n k t w start fit sends quiet)
