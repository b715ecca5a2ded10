-- One delivery of a request: what it leaves at its node, and what goes toward each hop from there.
use Rattle.std.proofs.Common.{◌≡◌, ℕ, ◌++◌, Bool, true, false, Option, None, Some, inl, inr, ⊎_elim, sym, refl, ap, subst, ◌∙◌}
use Rattle.std.specs.Prelude.{slice_get, is_some, not}
use Rattle.std.specs.List.{filter_map}
use Rattle.std.specs.Ordering.{eq_by_cmp}
use Rattle.rsvp_base.specs.declared.addr.Addr.{Addr}
use Rattle.rsvp_base.specs.declared.part.Part.{Part}
use Rattle.rsvp_base.specs.declared.session.Sender.{Sender}
use Rattle.rsvp_base.specs.declared.session.Session.{Session}
use Rattle.rsvp_base.specs.declared.style.StyleKind.{StyleKind}
use Rattle.rsvp_base.specs.declared.style.Unit.{Unit as UnitOf}
use Rattle.rsvp_base.specs.Members.{In}
use Rattle.rsvp_base.specs.Orders.{Names, senders, sessions, units}
use Rattle.rsvp_base.specs.Keys.{pairs}
use Rattle.rsvp_base.specs.Sets.{cut, is_none}
use Rattle.rsvp_base.specs.Styles.{name_of, part_unit}
use Rattle.rsvp_base.specs.Table.{get, has, kept}
use Rattle.rsvp_base.specs.TokenBucket.{TokenBucket}
use Rattle.rsvp_base.proofs.SetLaws.{and_both, and_made, has-cut, has-kept}
use Rattle.rsvp_base.proofs.Tables.{either, same_table, tied_same}
use Rattle.rsvp_base.proofs.UnderLaws.{get-under}
use Rattle.rsvp_messages.specs.declared.message.Message.TheVariants as message
use Rattle.rsvp_messages.specs.declared.message.ResvMsg.{ResvMsg}
use Rattle.rsvp_messages.specs.Units.{AskedUnit, ask_style, asked_units, only}
use Rattle.style_rules.specs.CutLaws.{cut_of, part_of_some, some_within}
use Rattle.style_rules.specs.FlowOrder.{IsAtMost}
use Rattle.style_rules.specs.Lines.{LineKey, NextHop, next_hops}
use Rattle.style_rules.specs.Merge.{PartTable}
use Rattle.style_rules.specs.Parts.{IsOfStyle, part_cut}
use Rattle.style_rules.specs.Toward.{Request, toward as merged_toward}
use Rattle.style_rules.proofs.Lattice.{at_most_along}
use Rattle.style_rules.proofs.StyleLaws.{common_unit, cut_of_style, within_unit}
use Rattle.style_rules.proofs.Towards.{open_below, toward_source, toward_there}
use Rattle.laws_bounds.specs.FactLaws.{ComesBy, IsResvRequest, IsWantRequest}
use Rattle.laws_bounds.specs.SendLaws.{ArePartsOf, IsResvTear}
use Rattle.laws_bounds.proofs.Asks.{gone_by_units}
use Rattle.laws_bounds.proofs.Framing.{act_paths, act_wants, act_walls}
use Rattle.laws_bounds.proofs.Knowing.{known_and_via}
use Rattle.laws_bounds.proofs.Lists.{one_name}
use Rattle.laws_bounds.proofs.Requesting.{requests_and_toward}
use Rattle.laws_bounds.proofs.Ruling.{rule_in_parts}
use Rattle.laws_bounds.proofs.Sending.{not_told}
use Rattle.laws_bounds.proofs.Tests.{ties}
use Rattle.laws_steps.specs.AcceptingLaws.{came_resv}
use Rattle.laws_steps.specs.ReservationLaws.{IsAskedFor, Touches}
use Rattle.laws_steps.proofs.Admitting.{what_is_accepted}
use Rattle.laws_steps.proofs.Asking.{where_a_reservation_fact_comes_from}
use Rattle.router_rules.specs.Bounds.{IsWithinBounds}
use Rattle.router_rules.specs.Facts.{Facts, Paths, ResvState, Walls, Wants, resvs_in, resvs_of, wants_in}
use Rattle.router_rules.specs.Inputs.{Arrival, Came, Input, Send, Spelt}
use Rattle.router_rules.specs.Known.{Lane, known, lane_keys, lanes, names_via, names_via_where}
use Rattle.router_rules.specs.NodeConfig.{NodeConfig, goes_out, own}
use Rattle.router_rules.specs.Requests.{is_blockaded, requests, resv_request, toward, want_part, want_request}
use Rattle.router_rules.specs.Rule.{Outcome}
use Rattle.router_rules.specs.Sends.{gone_names, torn_names}
use Rattle.router_rules.specs.Steps.{IsLeftOf, facts_then, node_step}
use Rattle.tree_model.specs.Goals.{addr_of}
use Rattle.tree_model.specs.Networks.{iface_of, node_of}
use Rattle.network_model.specs.Locals.{locals_of}
use Rattle.network_model.specs.Steps.{Deliver, outcome, step, still}
use Rattle.network_model.specs.Worlds.{Item, World, config_of}
use Rattle.network_model.proofs.Machines.{in_arrived}
use Rattle.network_model.proofs.NodeLocals.{live_told}
use Rattle.network_model.proofs.Stepping.{facts_after_made}
use Rattle.laws_network.proofs.Known.{of_some}
use Rattle.settle_paths.specs.PreviousHops.{IsAhead}
use Rattle.settle_paths.proofs.PreviousHops.{ahead, previous_hops_are_all_hops}
use Rattle.settle_resvs.specs.GoalByIface.{goal_at}
use Rattle.settle_resvs.specs.Sessions.{HasNoBlockade}
use Rattle.settle_resvs.proofs.TowardIsTheWant.{unmarked}
use Rattle.settle_resvs.proofs.TowardNames.{parts_of_style}
use Rattle.settle_passes.proofs.Reserving.{turns}
use Rattle.settle_passes.proofs.Turns.{Turns}
use Rattle.settle_confirmations.specs.Requests.{IsForAtLeast, IsOnlySender, arrival_units}
use Rattle.settle_confirmations.proofs.Moving.{IsAsking, IsTakenAt, IsUp, listed_one, one_listed, only', r', taken_at, untouched}
use Rattle.settle_confirmations.proofs.Taken.{after, change, in_only, some_unit}

of_came : (i j : ℕ) (a b : Addr) (m w : ResvMsg) → Came i a (Spelt (message.Resv m)) ≡ Came j b (Spelt (message.Resv w)) → m ≡ w
of_came i j a b m w e = cc

one_there : (z : Sender) → is_none (only z) ≡ false
one_there z = refl

pub nobody : (ns : Names) (z : Sender) → is_none ns ≡ true → has ns z ≡ true → ⊥
nobody ns z none h =
    let some = some_within (only z) ns (λ y i. subst (λ (b : Sender). has ns b ≡ true) (sym (in_only z y i)) h) (one_there z) in
    let bad : true ≡ false = sym none ∙ some in
    cc

-- ---- a request that arrives
module _ (q : ℕ) (s : Session) (st : StyleKind) (x : Sender) (e : ℕ) (u : World) (a : IsAsking q s st x e u) (y : Item) (arr : slice_get u.flight 0 ≡ Some y) (v : IsUp u s st x e y) where
  abbrev n : ℕ
  n = node_of u.net.ends y.end

  abbrev i : ℕ
  i = iface_of u.net.ends y.end

  abbrev p : NodeConfig
  p = config_of q u.net u.trees (node_of u.net.ends y.end)

  abbrev m : ResvMsg
  m = v.resv

  abbrev to_it : IsTakenAt q s st x e u a y v.resv
  to_it = taken_at q s st x e u a y arr v

  abbrev f : Facts
  f = (taken_at q s st x e u a y arr v).facts

  abbrev next : World
  next = step q (Deliver 0) u

  pub within : IsWithinBounds p u.clock f
  within = a.reserving.paths.bounds.facts n f to_it.node

  abbrev pub then : Facts
  then = after p u.clock i m f (goal_at u.net (locals_of u) n) within to_it.can (addr_of u.net e) v.wish

  abbrev g : Facts
  g = (outcome q (Deliver 0) u n f).facts

  pub at_next : slice_get next.nodes n ≡ Some g
  at_next = facts_after_made q (Deliver 0) u n f to_it.node

  pub facts_are : g ≡ facts_then p p u.clock (came_resv p i m) f
  facts_are = ap (λ (o : Outcome). o.facts) to_it.is

  paths_same : then.paths ≡ f.paths
  paths_same = act_paths p u.clock (came_resv p i m) f refl

  wants_same : then.wants ≡ f.wants
  wants_same = act_wants p u.clock (came_resv p i m) f refl

  walls_same : then.walls ≡ f.walls
  walls_same = act_walls p u.clock (came_resv p i m) f refl

  -- ---- a reservation stays: as it is, or with the sender's name
  pub record IsThereStill (k : StyleKind) (key : LineKey) (w : ResvState) : Type 0 where
    pub resv : ResvState
    pub there : get (resvs_of k then) key ≡ Some resv
    pub unit : part_unit k w.part ≡ part_unit k resv.part
    pub names : (ns : Names) → is_none (cut w.part.senders ns) ≡ false → is_none (cut resv.part.senders ns) ≡ false

  in_then : (k : StyleKind) (key : LineKey) (w : ResvState) → get (resvs_of k g) key ≡ Some w → get (resvs_of k then) key ≡ Some w
  in_then k key w h = ap (λ (z : Facts). get (resvs_of k z) key) (sym facts_are) ∙ h

  abbrev lane_in : Lane
  lane_in = record { session = m.session; style = ask_style m.ask; hop = (i, m.hop.addr) }

  stays_apart : (k : StyleKind) (key : LineKey) (w : ResvState) → get (resvs_of k f) key ≡ Some w → eq_by_cmp lane_keys.cmp lane_in (record { session = key.0; style = k; hop = key.1.0 }) ≡ false
      → get (resvs_of k g) key ≡ Some w
  stays_apart k key w h apart =
      ⊎_elim (λ (z : outcome q (Deliver 0) u n f ≡ still f). ap (λ (o : Outcome). get (resvs_of k o.facts) key) z ∙ h)
      (λ (t : Turns q (Deliver 0) u n f).
      untouched q s st x e u a n f to_it.node t k key w h (λ touch.
      let input : t.input ≡ came_resv p i m = of_some t.input (came_resv p i m) (sym t.came ∙ to_it.came) in
      let by = subst (λ (z : Input). Touches z k key w) input touch in
      let same : lane_in ≡ record { session = key.0; style = k; hop = key.1.0 } = (λ j. record { session = by.0 j; style = by.3 j; hop = (by.1 j, by.2 j) }) in
      let bad : true ≡ false = sym (ties lane_keys lane_in (record { session = key.0; style = k; hop = key.1.0 }) same) ∙ apart in
      cc))
      (turns q s u a.reserving n f to_it.node)

  resv_stays : (k : StyleKind) (key : LineKey) (w : ResvState) → get (resvs_of k f) key ≡ Some w → IsThereStill k key w
  resv_stays k key w h =
      either (eq_by_cmp lane_keys.cmp lane_in (record { session = key.0; style = k; hop = key.1.0 }))
      (λ tied.
      let same = tied_same lane_keys lane_in (record { session = key.0; style = k; hop = key.1.0 }) tied in
      let back = sym same in
      let session : s ≡ key.0 = sym v.session ∙ ap (λ (z : Lane). z.session) same in
      let unit = some_unit m.ask to_it.can.proper in
      let placed = to_it.can.units unit.0 unit.1 in
      let d = (what_is_accepted.whole p p u.clock u.clock i m f (goal_at u.net (locals_of u) n) within to_it.can).facts unit.0 placed.names unit.1 placed.listed in
      let there : get (resvs_of k g) (key.0, (key.1.0, unit.0.unit)) ≡ Some d.0 =
      (λ j. get (resvs_of (back j).style (facts_are j)) ((back j).session, ((back j).hop, unit.0.unit))) ∙ d.1 in
      let old_fact = a.reserving.sound.facts k n f key w to_it.node h in
      let old = old_fact.sound in
      let new_fact = (r' q s st x e u a).sound.facts k n g (key.0, (key.1.0, unit.0.unit)) d.0 at_next there in
      let new = new_fact.sound in
      let only_old : IsOnlySender u key.0 x = subst (λ (z : Session). IsOnlySender u z x) session a.only in
      let only_new : IsOnlySender next key.0 x = subst (λ (z : Session). IsOnlySender next z x) session (only' q s st x e u a) in
      let has_old = listed_one u key.0 x only_old k old_fact.end key.1.0.1 key.1.1 w.part old in
      let has_new = listed_one next key.0 x only_new k new_fact.end key.1.0.1 unit.0.unit d.0.part new in
      let shape_old = (a.reserving.paths.bounds.facts n f to_it.node).shapes.resvs k key w h in
      let shape_new = ((r' q s st x e u a).paths.bounds.facts n g at_next).shapes.resvs k (key.0, (key.1.0, unit.0.unit)) d.0 there in
      let units_are : part_unit k w.part ≡ part_unit k d.0.part = common_unit k w.part d.0.part (name_of k x) shape_old.style shape_new.style has_old has_new in
      let key_is : key.1.1 ≡ unit.0.unit = shape_old.unit ∙ units_are ∙ sym shape_new.unit in
      record {
        resv = d.0;
        there = in_then k key d.0 (ap (λ (z : UnitOf). get (resvs_of k g) (key.0, (key.1.0, z))) key_is ∙ there);
        unit = units_are;
        names = λ ns some.
            let one = one_name (cut w.part.senders ns) some in
            let both = and_both _ _ (sym (has-cut senders w.part.senders ns one.0) ∙ one.1) in
            let is : one.0 ≡ name_of k x = (one_listed u key.0 x only_old k old_fact.end key.1.0.1 key.1.1 w.part old one.0 both.0).0 in
            let new_one : has (cut d.0.part.senders ns) (name_of k x) ≡ true =
            has-cut senders d.0.part.senders ns (name_of k x) ∙ and_made _ _ has_new (subst (λ (z : Sender). has ns z ≡ true) is both.1) in
            either (is_none (cut d.0.part.senders ns)) (λ none. absurd (nobody (cut d.0.part.senders ns) (name_of k x) none new_one)) (λ no. no);
      })
      (λ apart. record { resv = w; there = in_then k key w (stays_apart k key w h apart); unit = refl; names = λ ns some. some })

  -- ---- so each unit that goes toward a hop goes on to
  via_same : (l : Lane) (test : Sender → Bool) → names_via_where then l test ≡ names_via_where f l test
  via_same l test = ap (λ (z : Paths). names_via_where (record f { paths = z }) l test) paths_same

  all_same : (l : Lane) → names_via then l ≡ names_via f l
  all_same l = ap (λ (z : Paths). names_via (record f { paths = z }) l) paths_same

  goes_on_to : (l : Lane) (un : UnitOf) → has (toward p f l) un ≡ true → has (toward p then l) un ≡ true
  goes_on_to l un h =
      let o = toward_source l.style (requests p f l) un h in
      let rq : Request = o.0 in
      ⊎_elim
      (λ (w : IsResvRequest p f l rq).
      let z = resv_stays l.style (l.session, w.key) w.resv w.there in
      let test : Sender → Bool = goes_out p l.session w.key.0.0 in
      let via : Names = names_via_where f l test in
      let old = cut_of w.resv.part rq.part via w.part in
      let some : is_none (cut w.resv.part.senders via) ≡ false = ap is_none (sym old.senders) ∙ not_told (is_none rq.part.senders) o.1.named in
      let part : Part = record { senders = cut z.resv.part.senders via; flow = z.resv.part.flow } in
      let made : part_cut z.resv.part (names_via_where then l test) ≡ Some part =
      ap (part_cut z.resv.part) (via_same l test) ∙ part_of_some (cut z.resv.part.senders via) z.resv.part.flow (z.names via some) in
      let new : Request = record { part = part; blockaded = is_blockaded l.style then.walls l part } in
      let among : In new (requests p then l) = (requests_and_toward.each p then l new).1 (inl (record { key = w.key; resv = z.resv; there = z.there; part = made; blockaded = refl })) in
      let shape_old = (a.reserving.paths.bounds.facts n f to_it.node).shapes.resvs l.style (l.session, w.key) w.resv w.there in
      let there' : get (resvs_of l.style g) (l.session, w.key) ≡ Some z.resv = ap (λ (b : Facts). get (resvs_of l.style b) (l.session, w.key)) facts_are ∙ z.there in
      let shape_new = ((r' q s st x e u a).paths.bounds.facts n g at_next).shapes.resvs l.style (l.session, w.key) z.resv there' in
      let cut_old : part_unit l.style rq.part ≡ part_unit l.style w.resv.part =
      within_unit l.style w.resv.part rq.part shape_old.style o.1.named
      (λ b i. (and_both _ _ (sym (has-cut senders w.resv.part.senders via b) ∙ subst (λ (c : Names). has c b ≡ true) old.senders i)).0) in
      let cut_new : part_unit l.style part ≡ part_unit l.style z.resv.part =
      within_unit l.style z.resv.part part shape_new.style (ap not (z.names via some)) (λ b i. (and_both _ _ (sym (has-cut senders z.resv.part.senders via b) ∙ i)).0) in
      toward_there l.style (requests p then l) un new
      (record { among = among; named = ap not (z.names via some); unit = o.1.unit ∙ cut_old ∙ z.unit ∙ sym cut_new }))
      (λ (w : IsWantRequest f l rq).
      let among : In rq (requests p then l) =
      (requests_and_toward.each p then l rq).1
      (inr (record {
        unit = w.unit;
        want = w.want;
        there = ap (λ (z : Wants). get z (l.session, w.unit)) wants_same ∙ w.there;
        style = w.style;
        part = ap (λ (z : Names). want_part l.style z w.want.part) (all_same l) ∙ w.part;
        blockaded = w.blockaded ∙ ap (λ (z : Walls). is_blockaded l.style z l rq.part) (sym walls_same);
      })) in
      toward_there l.style (requests p then l) un rq (record { among = among; named = o.1.named; unit = o.1.unit }))
      ((requests_and_toward.each p f l rq).0 o.1.among)

  -- and nothing is torn down
  pub no_tear : (z : Send) → IsResvTear p p f then (change p u.clock i m f (goal_at u.net (locals_of u) n) within to_it.can (addr_of u.net e) v.wish) z → ⊥
  no_tear z t =
      let one = one_name (torn_names p p f then t.lane) t.some in
      let both = and_both _ _ (sym (has-cut senders (gone_names (toward p f t.lane) (toward p then t.lane)) (names_via then t.lane) one.0) ∙ one.1) in
      let gone = (gone_by_units.each (toward p f t.lane) (toward p then t.lane) one.0).0 both.0 in
      let bad : true ≡ false = sym (goes_on_to t.lane gone.unit (ap is_some gone.was)) ∙ gone.gone in
      cc

  -- ---- what goes toward the hops of other sessions stays
  pub elsewhere : (l : Lane) → (l.session ≡ s → ⊥) → toward p f l ≡ toward p then l
  elsewhere l other =
      λ j. merged_toward l.style
      (filter_map (resv_request p (record f { paths = sym paths_same j; walls = sym walls_same j }) l) (tables j).rows
      ++ filter_map (want_request (record f { paths = sym paths_same j; walls = sym walls_same j }) l) (wants_in (record f { wants = sym wants_same j }) l.session).rows)
    where
      looked_up : (k : NextHop × UnitOf) → get (resvs_of l.style f) (l.session, k) ≡ get (resvs_of l.style then) (l.session, k)
      looked_up k = by (get (resvs_of l.style f) (l.session, k)) (get (resvs_of l.style then) (l.session, k)) refl refl
        where
          apart : eq_by_cmp lane_keys.cmp lane_in (record { session = l.session; style = l.style; hop = k.0 }) ≡ false
          apart = either (eq_by_cmp lane_keys.cmp lane_in (record { session = l.session; style = l.style; hop = k.0 }))
              (λ tied.
              let same = tied_same lane_keys lane_in (record { session = l.session; style = l.style; hop = k.0 }) tied in
              absurd (other (sym (ap (λ (z : Lane). z.session) same) ∙ v.session)))
              (λ no. no)

          by : (b c : Option ResvState) → get (resvs_of l.style f) (l.session, k) ≡ b → get (resvs_of l.style then) (l.session, k) ≡ c
              → get (resvs_of l.style f) (l.session, k) ≡ get (resvs_of l.style then) (l.session, k)
          by (Some w) c h h' = h ∙ sym (in_then l.style (l.session, k) w (stays_apart l.style (l.session, k) w h apart))
          by None None h h' = h ∙ sym h'
          by None (Some z) h h' =
              ⊎_elim
              (λ (old : (w : ResvState) × (get (resvs_of l.style f) (l.session, k) ≡ Some w) × IsLeftOf w z). let bad : None ≡ Some old.0 = sym h ∙ old.1 in absurd (cc))
              (λ (new : IsAskedFor p u.clock (came_resv p i m) f l.style (l.session, k) z).
              let same : m ≡ new.by.resv = of_came i k.0.0 (own p i) (own p k.0.0) m new.by.resv new.by.came in
              absurd (other (sym new.by.session ∙ ap (λ (z : ResvMsg). z.session) (sym same) ∙ v.session)))
              (where_a_reservation_fact_comes_from (node_step p p u.clock u.clock (came_resv p i m) f) within l.style (l.session, k) z h')

      tables : resvs_in l.style f l.session ≡ resvs_in l.style then l.session
      tables =
          same_table (pairs next_hops units) (resvs_in l.style f l.session) (resvs_in l.style then l.session)
          (λ k. get-under sessions (pairs next_hops units) (resvs_of l.style f) l.session k ∙ looked_up k ∙ sym (get-under sessions (pairs next_hops units) (resvs_of l.style then) l.session k))

  -- what comes to the node over a hop of its own
  pub comes_over : (l : Lane) → has (lanes then) l ≡ true → (z : Sender) × IsAhead next n l.session l.hop z
  comes_over l h =
      let by = (known_and_via.lanes_by then l).0 h in
      let comes : ComesBy g l.session l.hop by.0 =
      record { path = by.1.path; there = ap (λ (w : Facts). get w.paths (l.session, by.0)) facts_are ∙ by.1.there; by = by.1.by } in
      (by.0, ahead next n g (r' q s st x e u a).paths.sound at_next l.session l.hop by.0 comes)

  -- ---- what goes toward a hop of the sender for the request is no less than what it asks for
  only_m : IsOnlySender u m.session x
  only_m = subst (λ (w : Session). IsOnlySender u w x) (sym v.session) a.only

  abbrev pub lane_on : NextHop → Lane
  lane_on hop = record { session = m.session; style = ask_style m.ask; hop = hop }

  abbrev pub name : Sender
  name = name_of (ask_style m.ask) x

  -- the names that a unit of the request lists have the sender's
  named_by_unit : (k : AskedUnit) → In k (asked_units m.ask) → (names : Names) → k.names ≡ Some names → has names name ≡ true
  named_by_unit k asks names is =
      let sound = a.reserving.sound.items y m k (in_arrived (Deliver 0) u y arr) v.says asks in
      let same : sound.names ≡ names = of_some sound.names names (sym sound.named ∙ is) in
      subst (λ (ns : Names). has ns name ≡ true) same
      (listed_one u m.session x only_m (ask_style m.ask) y.end m.hop.addr k.unit (record { senders = sound.names; flow = k.flow }) sound.sound)

  -- its tree goes out of the interface of the request
  leaves : goes_out p m.session i x ≡ true
  leaves =
      let unit = some_unit m.ask to_it.can.proper in
      let placed = to_it.can.units unit.0 unit.1 in
      let match = placed.match name (named_by_unit unit.0 unit.1 placed.names placed.listed) in
      let b = (known_and_via.named_by (ask_style m.ask) (kept (goes_out p m.session i) (known f m.session)) name).0 match in
      let both = and_both _ _ (sym (has-kept senders (goes_out p m.session i) (known f m.session) b.sender) ∙ b.among) in
      let paths = a.reserving.paths in
      let reached = ((previous_hops_are_all_hops u paths.bounds.net paths.hosts paths.sound paths.complete).known n f m.session b.sender to_it.node).0 both.0 in
      let live = live_told u m.session b.sender reached.0 in
      subst (λ (z : Sender). goes_out p m.session i z ≡ true) (only_m b.sender live.0 live.1) both.1

  comes_by : (hop : NextHop) → has (lanes then) (lane_on hop) ≡ true → ComesBy then m.session hop x
  comes_by hop h =
      let by = (known_and_via.lanes_by then (lane_on hop)).0 h in
      let comes : ComesBy g m.session hop by.0 =
      record { path = by.1.path; there = ap (λ (w : Facts). get w.paths (m.session, by.0)) facts_are ∙ by.1.there; by = by.1.by } in
      let live = live_told next m.session by.0 (ahead next n g (r' q s st x e u a).paths.sound at_next m.session hop by.0 comes).live in
      let only_then : IsOnlySender next m.session x = subst (λ (w : Session). IsOnlySender next w x) (sym v.session) (only' q s st x e u a) in
      subst (λ (z : Sender). ComesBy then m.session hop z) (only_then by.0 live.0 live.1) by.1

  pub covers : (hop : NextHop) → has (lanes then) (lane_on hop) ≡ true → (k : UnitOf) (w : Part) → get (toward p then (lane_on hop)) k ≡ Some w
      → IsOfStyle (ask_style m.ask) w → part_unit (ask_style m.ask) w ≡ k → has w.senders name ≡ true → (flow : TokenBucket) → IsForAtLeast flow y → IsAtMost flow w.flow
  covers hop h k w there styled unit_is named flow least =
      let l : Lane = lane_on hop in
      let unit = some_unit m.ask to_it.can.proper in
      let placed = to_it.can.units unit.0 unit.1 in
      let d = (what_is_accepted.whole p p u.clock u.clock i m f (goal_at u.net (locals_of u) n) within to_it.can).facts unit.0 placed.names unit.1 placed.listed in
      let key : LineKey = (m.session, ((i, m.hop.addr), unit.0.unit)) in
      let via : Names = names_via_where then l (goes_out p m.session i) in
      let in_via : has via name ≡ true =
      (known_and_via.names_by then l (goes_out p m.session i) name).1
      (record { sender = x; among = (known_and_via.via_by then m.session hop x).1 (comes_by hop h); passes = leaves; name = refl }) in
      let in_part : has d.0.part.senders name ≡ true =
      subst (λ (z : Part). has z.senders name ≡ true) (sym d.2) (named_by_unit unit.0 unit.1 placed.names placed.listed) in
      let in_cut : has (cut d.0.part.senders via) name ≡ true = has-cut senders d.0.part.senders via name ∙ and_made _ _ in_part in_via in
      let some : is_none (cut d.0.part.senders via) ≡ false =
      either (is_none (cut d.0.part.senders via)) (λ none. absurd (nobody (cut d.0.part.senders via) name none in_cut)) (λ no. no) in
      let part : Part = record { senders = cut d.0.part.senders via; flow = d.0.part.flow } in
      let made : part_cut d.0.part via ≡ Some part = part_of_some (cut d.0.part.senders via) d.0.part.flow some in
      let rq : Request = record { part = part; blockaded = is_blockaded l.style then.walls l part } in
      let among : In rq (requests p then l) = (requests_and_toward.each p then l rq).1 (inl (record { key = key.1; resv = d.0; there = d.1; part = made; blockaded = refl })) in
      let free : HasNoBlockade m.session then.walls =
      subst (λ (z : Session × Walls). HasNoBlockade z.0 z.1) (λ j. (sym v.session j, sym walls_same j)) (a.reserving.free n f to_it.node) in
      let there' : get (resvs_of l.style g) key ≡ Some d.0 = ap (λ (b : Facts). get (resvs_of l.style b) key) facts_are ∙ d.1 in
      let shape = ((r' q s st x e u a).paths.bounds.facts n g at_next).shapes.resvs l.style key d.0 there' in
      let part_style : IsOfStyle l.style part = cut_of_style l.style d.0.part part via shape.style made in
      let unit_same : k ≡ part_unit l.style part = sym unit_is ∙ common_unit l.style w part name styled part_style named in_cut in
      let below = open_below l.style (requests p then l) k w rq
      (record { request = record { among = among; named = ap not some; unit = unit_same }; unmarked = unmarked p then l free rq among }) there in
      let asked_flow : IsAtMost flow unit.0.flow = least unit.0 (subst (λ (z : Arrival). In unit.0 (arrival_units z)) (sym v.says) unit.1) in
      at_most_along flow d.0.part.flow w.flow (subst (λ (z : Part). IsAtMost flow z.flow) (sym d.2) asked_flow) below.flow

  -- the parts that go toward a hop are of its style
  pub of_style : (l : Lane) → ArePartsOf l.style (toward p then l)
  of_style l =
      subst (λ (z : PartTable). ArePartsOf l.style z) (ap (λ (w : Facts). toward p w l) facts_are ∙ rule_in_parts.toward_same p p u.clock (came_resv p i m) f l)
      (parts_of_style p next.clock g ((r' q s st x e u a).paths.bounds.facts n g at_next) l)
