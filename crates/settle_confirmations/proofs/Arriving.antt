-- A Resv that asks to be confirmed arrives where its session sets up its reservations: what it leaves at its node, unit by unit.
use Rattle.std.proofs.Common.{◌≡◌, ℕ, ◌+◌, ◌<◌, List, length, Bool, true, false, Option, None, Some, ◌⊎◌, inl, inr, ⊎_elim, arith, sym, refl, ap, subst, ◌∙◌}
use Rattle.std.specs.Prelude.{slice_get, is_some, not, ◌++◌}
use Rattle.std.specs.List.{filter_map}
use Rattle.std.specs.Option.{option_map}
use Rattle.rsvp_base.specs.declared.addr.Addr.{Addr}
use Rattle.rsvp_base.specs.declared.part.Part.{Part}
use Rattle.rsvp_base.specs.declared.session.Sender.{Sender}
use Rattle.rsvp_base.specs.declared.session.Session.{Session}
use Rattle.rsvp_base.specs.declared.style.StyleKind.{StyleKind}
use Rattle.rsvp_base.specs.declared.style.Unit.{Unit as UnitOf}
use Rattle.rsvp_base.specs.Keys.{pairs}
use Rattle.rsvp_base.specs.Members.{In}
use Rattle.rsvp_base.specs.Orders.{Names, senders, sessions, units}
use Rattle.rsvp_base.specs.Sets.{cut, is_none}
use Rattle.rsvp_base.specs.Styles.{part_unit}
use Rattle.rsvp_base.specs.Table.{get, has}
use Rattle.rsvp_base.proofs.Members.{in_each}
use Rattle.rsvp_base.proofs.SetLaws.{and_both, has-cut}
use Rattle.rsvp_base.proofs.Tables.{same_table}
use Rattle.rsvp_base.proofs.UnderLaws.{get-under}
use Rattle.rsvp_messages.specs.declared.message.Message.TheVariants as message
use Rattle.rsvp_messages.specs.declared.message.ResvMsg.{ResvMsg}
use Rattle.rsvp_messages.specs.Units.{AskedUnit, ask_style, asked_units}
use Rattle.style_rules.specs.CutLaws.{cut_of, part_of_some}
use Rattle.style_rules.specs.Lines.{LineKey, NextHop, next_hops}
use Rattle.style_rules.specs.PartLaws.{part_at_most_both_ways}
use Rattle.style_rules.specs.Merge.{PartTable}
use Rattle.style_rules.specs.Parts.{IsOfStyle, IsPartAtMost, has_name, part_cut}
use Rattle.style_rules.specs.Toward.{IsRequestOf, Request, parts_of, toward as merged_toward}
use Rattle.style_rules.proofs.Merges.{merge_least}
use Rattle.style_rules.proofs.StyleLaws.{within_unit}
use Rattle.style_rules.proofs.Towards.{open_below, toward_of_open, toward_source, toward_there}
use Rattle.laws_bounds.specs.FactLaws.{ComesBy, IsResvRequest, IsWantRequest}
use Rattle.laws_bounds.specs.SendLaws.{ArePartsOf, IsResvTear}
use Rattle.laws_bounds.proofs.Asks.{gone_by_units}
use Rattle.laws_bounds.proofs.Framing.{act_paths, act_wants, act_walls}
use Rattle.laws_bounds.proofs.Knowing.{known_and_via}
use Rattle.laws_bounds.proofs.Lists.{one_name}
use Rattle.laws_bounds.proofs.Requesting.{requests_and_toward}
use Rattle.laws_bounds.proofs.Ruling.{rule_in_parts}
use Rattle.laws_bounds.proofs.Sending.{not_told}
use Rattle.laws_bounds.proofs.Putting.{style_same}
use Rattle.laws_steps.specs.AcceptingLaws.{CanBeTaken, came_resv}
use Rattle.laws_steps.proofs.Admitting.{what_is_accepted}
use Rattle.router_rules.specs.Bounds.{IsWithinBounds}
use Rattle.router_rules.specs.Facts.{Facts, Paths, ResvState, Walls, Wants, resvs_in, resvs_of, wants_in}
use Rattle.router_rules.specs.Inputs.{Came, Send, Spelt}
use Rattle.router_rules.specs.Known.{Lane, lanes, names_via, names_via_where}
use Rattle.router_rules.specs.NodeConfig.{NodeConfig, goes_out, own}
use Rattle.router_rules.specs.Requests.{is_blockaded, requests, resv_request, toward, want_part, want_request}
use Rattle.router_rules.specs.Rule.{Outcome, rule}
use Rattle.router_rules.specs.Sends.{gone_names, torn_names}
use Rattle.router_rules.specs.Steps.{facts_then}
use Rattle.tree_model.specs.Networks.{end_at, iface_of, node_of, node_of_end}
use Rattle.tree_model.specs.Trees.{hops_of}
use Rattle.tree_model.proofs.Ifaces.{interfaces_are_ends}
use Rattle.network_model.specs.Locals.{locals_of}
use Rattle.network_model.specs.Steps.{Deliver, input_at, outcome, step, still}
use Rattle.network_model.specs.Worlds.{Item, World, config_of}
use Rattle.network_model.proofs.Machines.{in_arrived}
use Rattle.network_model.proofs.Quiet.{outcome_by}
use Rattle.network_model.proofs.Stepping.{facts_after_made}
use Rattle.laws_network.proofs.Known.{came_there, end_found, node_there, of_some}
use Rattle.laws_network.proofs.Standing.{own_end}
use Rattle.laws_safety.proofs.Units.{find_unit}
use Rattle.settle_paths.specs.PreviousHops.{IsAhead}
use Rattle.settle_paths.proofs.PreviousHops.{ahead, ends_there}
use Rattle.settle_resvs.specs.GoalByIface.{goal_at}
use Rattle.settle_resvs.specs.Said.{HopKey, IsOver, hop_over, resv_key}
use Rattle.settle_resvs.specs.Sessions.{HasNoBlockade}
use Rattle.settle_resvs.specs.SoftResvs.{line_key_of, resv_at}
use Rattle.settle_resvs.proofs.Accepting.{can_be_taken}
use Rattle.settle_resvs.proofs.SoftResvs.{resv_found, resv_made}
use Rattle.settle_resvs.proofs.TowardIsTheWant.{unmarked}
use Rattle.settle_resvs.proofs.TowardNames.{parts_of_style}
use Rattle.settle_passes.specs.Reserving.{IsReserving}
use Rattle.settle_passes.proofs.Deliveries.{came_by_delivery, known_self}
use Rattle.settle_passes.proofs.Reserving.{ready, reserving_next, turns}
use Rattle.settle_passes.proofs.Turns.{Turns}
use Rattle.settle_confirmations.proofs.Taken.{IsBeside, after, beside_same, change, kept_mark}

-- ---- what goes toward a hop of a unit is that of its requests, where none is blockaded
module _ (st : StyleKind) (un : UnitOf) (rs rs' : List Request) (open_to : (z : Request) → In z rs → z.blockaded ≡ false) (open_too : (z : Request) → In z rs' → z.blockaded ≡ false)
    (on : (z : Request) → IsRequestOf st rs un z → In z rs') where
  unit_there : has (merged_toward st rs) un ≡ true → has (merged_toward st rs') un ≡ true
  unit_there h = let o = toward_source st rs un h in toward_there st rs' un o.0 (record { among = on o.0 o.1; named = o.1.named; unit = o.1.unit })

  unit_below : (v w : Part) → get (merged_toward st rs) un ≡ Some v → get (merged_toward st rs') un ≡ Some w → IsPartAtMost v w
  unit_below v w e e' =
      merge_least units (part_unit st) (λ (z : Part). z) (parts_of rs) un v w (sym (toward_of_open st rs un (λ z is. open_to z is.among)) ∙ e)
      (λ l i named at.
      let z = in_each (λ (c : Request). c.part) l rs i in
      let rq : IsRequestOf st rs un z.0 = record { among = z.1; named = subst (λ (c : Part). has_name c ≡ true) z.2 named; unit = at ∙ ap (part_unit st) z.2 } in
      subst (λ (c : Part). IsPartAtMost c w) (sym z.2)
      (open_below st rs' un w z.0 (record { request = record { among = on z.0 rq; named = rq.named; unit = rq.unit }; unmarked = open_too z.0 (on z.0 rq) }) e'))

pub same_at : (st : StyleKind) (un : UnitOf) (rs rs' : List Request) → ((z : Request) → In z rs → z.blockaded ≡ false) → ((z : Request) → In z rs' → z.blockaded ≡ false)
    → ((z : Request) → IsRequestOf st rs un z → In z rs') → ((z : Request) → IsRequestOf st rs' un z → In z rs) → get (merged_toward st rs) un ≡ get (merged_toward st rs') un
same_at st un rs rs' open_to open_too on back = by (get (merged_toward st rs) un) refl (get (merged_toward st rs') un) refl
  where
    by : (a : Option Part) → get (merged_toward st rs) un ≡ a → (b : Option Part) → get (merged_toward st rs') un ≡ b → get (merged_toward st rs) un ≡ get (merged_toward st rs') un
    by None e None e' = e ∙ sym e'
    by (Some v) e (Some w) e' =
        e ∙ ap Some (part_at_most_both_ways v w (unit_below st un rs rs' open_to open_too on v w e e') (unit_below st un rs' rs open_too open_to back w v e' e)) ∙ sym e'
    by (Some v) e None e' = let bad : false ≡ true = sym (ap is_some e') ∙ unit_there st un rs rs' open_to open_too on (ap is_some e) in absurd (cc)
    by None e (Some w) e' = let bad : false ≡ true = sym (ap is_some e) ∙ unit_there st un rs' rs open_too open_to back (ap is_some e') in absurd (cc)

-- a reservation of which the part is looked up
abbrev pub part_in : ResvState → Part
part_in w = w.part

pub of_map : (o : Option ResvState) (v : Part) → option_map part_in o ≡ Some v → (w : ResvState) × (o ≡ Some w) × (w.part ≡ v)
of_map None v e = absurd (cc)
of_map (Some w) v e = (w, refl, of_some w.part v e)

-- ---- requests of a unit, where its reservations have the same parts
module _ (p : NodeConfig) (l : Lane) (un : UnitOf) (F G : Facts) (paths : F.paths ≡ G.paths) (wants : F.wants ≡ G.wants) (walls : F.walls ≡ G.walls)
    (shapes : (key : NextHop × UnitOf) (w : ResvState) → get (resvs_of l.style F) (l.session, key) ≡ Some w → IsOfStyle l.style w.part × (key.1 ≡ part_unit l.style w.part))
    (same : (hop : NextHop) → option_map part_in (get (resvs_of l.style F) (l.session, (hop, un))) ≡ option_map part_in (get (resvs_of l.style G) (l.session, (hop, un)))) where
  carried : (z : Request) → IsRequestOf l.style (requests p F l) un z → In z (requests p G l)
  carried z rq =
      ⊎_elim
      (λ (w : IsResvRequest p F l z).
      let test : Sender → Bool = goes_out p l.session w.key.0.0 in
      let via : Names = names_via_where F l test in
      let via_same : names_via_where F l test ≡ names_via_where G l test = ap (λ (c : Paths). names_via_where (record F { paths = c }) l test) paths in
      let shape = shapes w.key w.resv w.there in
      let old = cut_of w.resv.part z.part via w.part in
      let unit_cut : part_unit l.style z.part ≡ part_unit l.style w.resv.part =
      within_unit l.style w.resv.part z.part shape.0 rq.named
      (λ b i. (and_both _ _ (sym (has-cut senders w.resv.part.senders via b) ∙ subst (λ (c : Names). has c b ≡ true) old.senders i)).0) in
      let unit : un ≡ w.key.1 = rq.unit ∙ unit_cut ∙ sym shape.1 in
      let part_then : option_map part_in (get (resvs_of l.style G) (l.session, w.key)) ≡ Some w.resv.part =
      (λ j. option_map part_in (get (resvs_of l.style G) (l.session, (w.key.0, sym unit j)))) ∙ sym (same w.key.0) ∙ (λ j. option_map part_in (get (resvs_of l.style F) (l.session, (w.key.0, unit j))))
      ∙ ap (option_map part_in) w.there in
      let k = of_map (get (resvs_of l.style G) (l.session, w.key)) w.resv.part part_then in
      (requests_and_toward.each p G l z).1 (inl (record {
        key = w.key;
        resv = k.0;
        there = k.1;
        part = (λ j. part_cut (k.2 j) (sym via_same j)) ∙ w.part;
        blockaded = w.blockaded ∙ ap (λ (c : Walls). is_blockaded l.style c l z.part) walls;
      })))
      (λ (w : IsWantRequest F l z).
      let all_same : names_via F l ≡ names_via G l = ap (λ (c : Paths). names_via (record F { paths = c }) l) paths in
      (requests_and_toward.each p G l z).1 (inr (record {
        unit = w.unit;
        want = w.want;
        there = ap (λ (c : Wants). get c (l.session, w.unit)) (sym wants) ∙ w.there;
        style = w.style;
        part = ap (λ (c : Names). want_part l.style c w.want.part) (sym all_same) ∙ w.part;
        blockaded = w.blockaded ∙ ap (λ (c : Walls). is_blockaded l.style c l z.part) walls;
      })))
      ((requests_and_toward.each p F l z).0 rq.among)

-- ---- the Resv
module _ (q : ℕ) (s : Session) (u : World) (r : IsReserving q s u) (y : Item) (arr : slice_get u.flight 0 ≡ Some y) (m : ResvMsg) (says : y.arrival ≡ Spelt (message.Resv m)) (of : m.session ≡ s)
    (a : Addr) (wish : m.confirm ≡ Some a) where
  abbrev next : World
  next = step q (Deliver 0) u

  abbrev n : ℕ
  n = node_of u.net.ends y.end

  abbrev i : ℕ
  i = iface_of u.net.ends y.end

  abbrev p : NodeConfig
  p = config_of q u.net u.trees (node_of u.net.ends y.end)

  abbrev us : List AskedUnit
  us = asked_units m.ask

  pub record IsTakenIn : Type 0 where
    pub facts : Facts
    pub node : slice_get u.nodes n ≡ Some facts
    pub can : CanBeTaken p u.clock i m facts (goal_at u.net (locals_of u) n)
    pub came : input_at (Deliver 0) u n ≡ Some (came_resv p i m)
    pub is : outcome q (Deliver 0) u n facts ≡ rule p p u.clock (came_resv p i m) facts

  pub taken_in : IsTakenIn
  taken_in =
      let flies = in_arrived (Deliver 0) u y arr in
      let lt : y.end < length u.net.ends = (r.paths.bounds.flight y flies).end in
      let self = known_self q u r.paths.bounds in
      let f = node_there q u r.paths.bounds.net u y.end self lt in
      let end : end_at u.net.ends n i ≡ Some y.end = (interfaces_are_ends u.net).end_of_iface y.end lt in
      let dst : y.dst ≡ own p i = r.addressed y m flies says ∙ sym (own_end q u.net u.trees n i y.end end) in
      let came : input_at (Deliver 0) u n ≡ Some (came_resv p i m) = came_there q u u self y.end lt (Deliver 0) y arr refl ∙ (λ j. Some (Came i (dst j) (says j))) in
      let now : u.clock + 0 ≡ u.clock = omega arith in
      record {
        facts = f.0;
        node = f.1;
        can = can_be_taken q s u (ready q s u r) y m flies says of f.0 f.1;
        came = came;
        is = outcome_by q (Deliver 0) u n f.0 (came_resv p i m) refl came ∙ ap (λ (z : ℕ). rule p p z (came_resv p i m) f.0) now;
      }

  abbrev pub f : Facts
  f = taken_in.facts

  pub within : IsWithinBounds p u.clock f
  within = r.paths.bounds.facts n f taken_in.node

  abbrev pub then : Facts
  then = after p u.clock i m f (goal_at u.net (locals_of u) n) within taken_in.can a wish

  abbrev pub g : Facts
  g = (outcome q (Deliver 0) u n f).facts

  pub at_next : slice_get next.nodes n ≡ Some g
  at_next = facts_after_made q (Deliver 0) u n f taken_in.node

  pub facts_are : g ≡ facts_then p p u.clock (came_resv p i m) f
  facts_are = ap (λ (o : Outcome). o.facts) taken_in.is

  pub within_next : IsWithinBounds p next.clock g
  within_next = (reserving_next q s u r).paths.bounds.facts n g at_next

  paths_same : then.paths ≡ f.paths
  paths_same = act_paths p u.clock (came_resv p i m) f refl

  wants_same : then.wants ≡ f.wants
  wants_same = act_wants p u.clock (came_resv p i m) f refl

  walls_same : then.walls ≡ f.walls
  walls_same = act_walls p u.clock (came_resv p i m) f refl

  pub free_then : (c : Session) → HasNoBlockade c f.walls → HasNoBlockade c then.walls
  free_then c none = subst (λ (z : Walls). HasNoBlockade c z) (sym walls_same) none

  pub in_g : (k : StyleKind) (key : LineKey) (w : ResvState) → get (resvs_of k then) key ≡ Some w → get (resvs_of k g) key ≡ Some w
  in_g k key w h = ap (λ (z : Facts). get (resvs_of k z) key) facts_are ∙ h

  -- ---- reservations: one of its units has the key, or none
  abbrev pub key_in : UnitOf → LineKey
  key_in un = (m.session, ((i, m.hop.addr), un))

  pub record IsOfUnit (k : StyleKind) (key : LineKey) : Type 0 where
    pub unit : AskedUnit
    pub asks : In unit us
    pub style : k ≡ ask_style m.ask
    pub is : key ≡ key_in unit.unit
    pub resv : ResvState
    pub there : get (resvs_of k then) key ≡ Some resv
    pub names : unit.names ≡ Some resv.part.senders
    pub flow : unit.flow ≡ resv.part.flow
    pub mark : resv.confirm ≡ Some a

  pub of_unit : (k : StyleKind) (key : LineKey) (b : AskedUnit) → In b us → k ≡ ask_style m.ask → key ≡ key_in b.unit → IsOfUnit k key
  of_unit k key b j style is =
      let gs = goal_at u.net (locals_of u) n in
      let placed = taken_in.can.units b j in
      let d = (what_is_accepted.whole p p u.clock u.clock i m f gs within taken_in.can).facts b placed.names j placed.listed in
      record {
        unit = b;
        asks = j;
        style = style;
        is = is;
        resv = d.0;
        there = (λ t. get (resvs_of (style t) then) (is t)) ∙ d.1;
        names = placed.listed ∙ ap (λ (z : Part). Some z.senders) (sym d.2);
        flow = ap (λ (z : Part). z.flow) (sym d.2);
        mark = kept_mark p u.clock i m f gs within taken_in.can a wish b j d.0 d.1;
      }

  pub unit_or_same : (k : StyleKind) (key : LineKey) → IsOfUnit k key ⊎ (get (resvs_of k f) key ≡ get (resvs_of k then) key)
  unit_or_same k key =
      ⊎_elim
      (λ (style : k ≡ ask_style m.ask).
      ⊎_elim (λ (b : (b : AskedUnit) × In b us × (key ≡ key_in b.unit)). inl (of_unit k key b.0 b.1 style b.2))
      (λ (none : (b : AskedUnit) → In b us → key ≡ key_in b.unit → ⊥). inr (beside (λ b j is at. none b j at)))
      (find_unit key_in us key))
      (λ (other : k ≡ ask_style m.ask → ⊥). inr (beside (λ b j is at. other is))) (style_same k (ask_style m.ask))
    where
      beside : IsBeside p u.clock i m f (goal_at u.net (locals_of u) n) within taken_in.can a wish k key → get (resvs_of k f) key ≡ get (resvs_of k then) key
      beside h = beside_same p u.clock i m f (goal_at u.net (locals_of u) n) within taken_in.can a wish k key h

  -- ---- what stands behind a hop: it stays as it is, or is of one of the units
  pub record IsNewOver (k : HopKey) : Type 0 where
    pub over : IsOver u.net k y m.session m.hop.addr (ask_style m.ask)
    pub unit : AskedUnit
    pub asks : In unit us
    pub at : unit.unit ≡ k.unit
    pub resv : ResvState
    pub there : resv_at next (node_of u.net.ends k.to) k.style (line_key_of u.net (resv_key u.net k)) ≡ Some resv
    pub names : unit.names ≡ Some resv.part.senders
    pub flow : unit.flow ≡ resv.part.flow
    pub mark : resv.confirm ≡ Some a

  pub resv_next : (k : HopKey) → In (hop_over k) (hops_of u.net.hops k.session.group) → (w : ResvState)
      → resv_at u (node_of u.net.ends k.to) k.style (line_key_of u.net (resv_key u.net k)) ≡ Some w
      → (resv_at next (node_of u.net.ends k.to) k.style (line_key_of u.net (resv_key u.net k)) ≡ Some w) ⊎ IsNewOver k
  resv_next k hop w there =
      let at : ℕ = node_of u.net.ends k.to in
      let key : LineKey = line_key_of u.net (resv_key u.net k) in
      let d = resv_found u at k.style key w there in
      let ends : get (resvs_of k.style (outcome q (Deliver 0) u at d.0).facts) key ≡ Some w → resv_at next at k.style key ≡ Some w =
      (λ z. resv_made next at k.style key (outcome q (Deliver 0) u at d.0).facts (facts_after_made q (Deliver 0) u at d.0 d.1) ∙ z) in
      ⊎_elim (λ (z : outcome q (Deliver 0) u at d.0 ≡ still d.0). inl (ends (ap (λ (o : Outcome). get (resvs_of k.style o.facts) key) z ∙ d.2)))
      (λ (t : Turns q (Deliver 0) u at d.0).
      let c = came_by_delivery q 0 u r.paths.bounds at t.input t.came in
      let item : c.item ≡ y = of_some c.item y (sym c.arrives ∙ arr) in
      let node : at ≡ n = sym (ap node_of_end c.there ∙ c.node) ∙ ap (λ (z : Item). node_of u.net.ends z.end) item in
      let facts : d.0 ≡ f = of_some d.0 f (sym d.1 ∙ ap (λ (z : ℕ). slice_get u.nodes z) node ∙ taken_in.node) in
      let by_then : (v : ResvState) → get (resvs_of k.style then) key ≡ Some v → get (resvs_of k.style (outcome q (Deliver 0) u at d.0).facts) key ≡ Some v =
      (λ v z. (λ j. get (resvs_of k.style (outcome q (Deliver 0) u (node j) (facts j)).facts) key) ∙ in_g k.style key v z) in
      ⊎_elim
      (λ (b : IsOfUnit k.style key).
      let iface : iface_of u.net.ends c.item.end ≡ iface_of u.net.ends k.to = ap (λ (z : Item). iface_of u.net.ends z.end) item ∙ ap (λ (z : LineKey). z.1.0.0) (sym b.is) in
      let end : c.item.end ≡ k.to = end_found q u u (known_self q u r.paths.bounds) k.to to_from (Deliver 0) t.input c iface in
      inr (record {
        over = record {
          end = ap (λ (z : Item). z.end) (sym item) ∙ end;
          session = ap (λ (z : LineKey). z.0) (sym b.is);
          from = ap (λ (z : LineKey). z.1.0.1) (sym b.is);
          style = sym b.style;
        };
        unit = b.unit;
        asks = b.asks;
        at = ap (λ (z : LineKey). z.1.1) (sym b.is);
        resv = b.resv;
        there = resv_made next at k.style key (outcome q (Deliver 0) u at d.0).facts (facts_after_made q (Deliver 0) u at d.0 d.1) ∙ by_then b.resv b.there;
        names = b.names;
        flow = b.flow;
        mark = b.mark;
      }))
      (λ (same : get (resvs_of k.style f) key ≡ get (resvs_of k.style then) key).
      inl (ends (by_then w (sym same ∙ ap (λ (z : Facts). get (resvs_of k.style z) key) (sym facts) ∙ d.2))))
      (unit_or_same k.style key))
      (turns q s u r at d.0 d.1)
    where
      to_from : k.to < length u.net.ends
      to_from = (ends_there u.net r.paths.bounds.net k.session.group (hop_over k) hop).0

  -- ---- what goes toward a hop for a unit is the same where its reservations have the same parts
  pub unit_same : (l : Lane) (un : UnitOf) → HasNoBlockade l.session f.walls
      → ((hop : NextHop) → option_map part_in (get (resvs_of l.style f) (l.session, (hop, un))) ≡ option_map part_in (get (resvs_of l.style then) (l.session, (hop, un))))
      → get (toward p f l) un ≡ get (toward p then l) un
  unit_same l un none same =
      same_at l.style un (requests p f l) (requests p then l) (unmarked p f l none) (unmarked p then l (free_then l.session none))
      (carried p l un f then (sym paths_same) (sym wants_same) (sym walls_same)
      (λ key w h. let z = within.shapes.resvs l.style (l.session, key) w h in (z.style, z.unit)) same)
      (carried p l un then f paths_same wants_same walls_same
      (λ key w h. let z = within_next.shapes.resvs l.style (l.session, key) w (in_g l.style (l.session, key) w h) in (z.style, z.unit)) (λ hop. sym (same hop)))

  -- nothing else moves: what goes toward hops of another session, or of another style
  pub elsewhere : (l : Lane) → (l.session ≡ m.session → l.style ≡ ask_style m.ask → ⊥) → toward p f l ≡ toward p then l
  elsewhere l other =
      λ j. merged_toward l.style
      (filter_map (resv_request p (record f { paths = sym paths_same j; walls = sym walls_same j }) l) (tables j).rows
      ++ filter_map (want_request (record f { paths = sym paths_same j; walls = sym walls_same j }) l) (wants_in (record f { wants = sym wants_same j }) l.session).rows)
    where
      looked_up : (k : NextHop × UnitOf) → get (resvs_of l.style f) (l.session, k) ≡ get (resvs_of l.style then) (l.session, k)
      looked_up k =
          ⊎_elim (λ (b : IsOfUnit l.style (l.session, k)). absurd (other (ap (λ (z : LineKey). z.0) b.is) b.style))
          (λ (same : get (resvs_of l.style f) (l.session, k) ≡ get (resvs_of l.style then) (l.session, k)). same)
          (unit_or_same l.style (l.session, k))

      tables : resvs_in l.style f l.session ≡ resvs_in l.style then l.session
      tables =
          same_table (pairs next_hops units) (resvs_in l.style f l.session) (resvs_in l.style then l.session)
          (λ k. get-under sessions (pairs next_hops units) (resvs_of l.style f) l.session k ∙ looked_up k ∙ sym (get-under sessions (pairs next_hops units) (resvs_of l.style then) l.session k))

  -- what comes to the node over a hop of its own
  pub comes_over : (l : Lane) → has (lanes then) l ≡ true → (z : Sender) × IsAhead next n l.session l.hop z
  comes_over l h =
      let by = (known_and_via.lanes_by then l).0 h in
      let comes : ComesBy g l.session l.hop by.0 =
      record { path = by.1.path; there = ap (λ (w : Facts). get w.paths (l.session, by.0)) facts_are ∙ by.1.there; by = by.1.by } in
      (by.0, ahead next n g (reserving_next q s u r).paths.sound at_next l.session l.hop by.0 comes)

  pub toward_next : (l : Lane) → toward p g l ≡ toward p then l
  toward_next l = ap (λ (w : Facts). toward p w l) facts_are ∙ rule_in_parts.toward_same p p u.clock (came_resv p i m) f l

  -- the parts that go toward a hop are of its style
  pub of_style : (l : Lane) → ArePartsOf l.style (toward p then l)
  of_style l = subst (λ (z : PartTable). ArePartsOf l.style z) (toward_next l) (parts_of_style p next.clock g within_next l)

  pub of_style_before : (l : Lane) → ArePartsOf l.style (toward p f l)
  of_style_before l = parts_of_style p u.clock f within l

  -- ---- a reservation stays, with one of the names at least
  pub record IsThereStill (k : StyleKind) (key : LineKey) (w : ResvState) : Type 0 where
    pub resv : ResvState
    pub there : get (resvs_of k then) key ≡ Some resv
    pub unit : part_unit k w.part ≡ part_unit k resv.part
    pub names : (ns : Names) → is_none (cut w.part.senders ns) ≡ false → is_none (cut resv.part.senders ns) ≡ false

  -- where each does, each unit that goes toward a hop goes on to
  module _ (stays : (k : StyleKind) (key : LineKey) (w : ResvState) → get (resvs_of k f) key ≡ Some w → IsThereStill k key w) where
    pub goes_on_to : (l : Lane) (un : UnitOf) → has (toward p f l) un ≡ true → has (toward p then l) un ≡ true
    goes_on_to l un h =
        let o = toward_source l.style (requests p f l) un h in
        let rq : Request = o.0 in
        ⊎_elim
        (λ (w : IsResvRequest p f l rq).
        let z = stays l.style (l.session, w.key) w.resv w.there in
        let test : Sender → Bool = goes_out p l.session w.key.0.0 in
        let via : Names = names_via_where f l test in
        let via_same : names_via_where then l test ≡ via = ap (λ (c : Paths). names_via_where (record f { paths = c }) l test) paths_same in
        let old = cut_of w.resv.part rq.part via w.part in
        let some : is_none (cut w.resv.part.senders via) ≡ false = ap is_none (sym old.senders) ∙ not_told (is_none rq.part.senders) o.1.named in
        let part : Part = record { senders = cut z.resv.part.senders via; flow = z.resv.part.flow } in
        let made : part_cut z.resv.part (names_via_where then l test) ≡ Some part =
        ap (part_cut z.resv.part) via_same ∙ part_of_some (cut z.resv.part.senders via) z.resv.part.flow (z.names via some) in
        let new : Request = record { part = part; blockaded = is_blockaded l.style then.walls l part } in
        let among : In new (requests p then l) = (requests_and_toward.each p then l new).1 (inl (record { key = w.key; resv = z.resv; there = z.there; part = made; blockaded = refl })) in
        let shape_old = within.shapes.resvs l.style (l.session, w.key) w.resv w.there in
        let shape_new = within_next.shapes.resvs l.style (l.session, w.key) z.resv (in_g l.style (l.session, w.key) z.resv z.there) in
        let cut_old : part_unit l.style rq.part ≡ part_unit l.style w.resv.part =
        within_unit l.style w.resv.part rq.part shape_old.style o.1.named
        (λ b i. (and_both _ _ (sym (has-cut senders w.resv.part.senders via b) ∙ subst (λ (c : Names). has c b ≡ true) old.senders i)).0) in
        let cut_new : part_unit l.style part ≡ part_unit l.style z.resv.part =
        within_unit l.style z.resv.part part shape_new.style (ap not (z.names via some)) (λ b i. (and_both _ _ (sym (has-cut senders z.resv.part.senders via b) ∙ i)).0) in
        toward_there l.style (requests p then l) un new
        (record { among = among; named = ap not (z.names via some); unit = o.1.unit ∙ cut_old ∙ z.unit ∙ sym cut_new }))
        (λ (w : IsWantRequest f l rq).
        let all_same : names_via then l ≡ names_via f l = ap (λ (c : Paths). names_via (record f { paths = c }) l) paths_same in
        let among : In rq (requests p then l) =
        (requests_and_toward.each p then l rq).1
        (inr (record {
          unit = w.unit;
          want = w.want;
          there = ap (λ (z : Wants). get z (l.session, w.unit)) wants_same ∙ w.there;
          style = w.style;
          part = ap (λ (z : Names). want_part l.style z w.want.part) all_same ∙ w.part;
          blockaded = w.blockaded ∙ ap (λ (z : Walls). is_blockaded l.style z l rq.part) (sym walls_same);
        })) in
        toward_there l.style (requests p then l) un rq (record { among = among; named = o.1.named; unit = o.1.unit }))
        ((requests_and_toward.each p f l rq).0 o.1.among)

    -- and nothing is torn down
    pub no_tear : (z : Send) → IsResvTear p p f then (change p u.clock i m f (goal_at u.net (locals_of u) n) within taken_in.can a wish) z → ⊥
    no_tear z t =
        let one = one_name (torn_names p p f then t.lane) t.some in
        let both = and_both _ _ (sym (has-cut senders (gone_names (toward p f t.lane) (toward p then t.lane)) (names_via then t.lane) one.0) ∙ one.1) in
        let gone = (gone_by_units.each (toward p f t.lane) (toward p then t.lane) one.0).0 both.0 in
        let bad : true ≡ false = sym (goes_on_to t.lane gone.unit (ap is_some gone.was)) ∙ gone.gone in
        cc
