-- A request of a fixed filter arrives: of whom something goes on, and what stands already where a Resv that is sent for it comes to.
use Rattle.std.proofs.Common.{◌≡◌, ℕ, ◌+◌, ◌<◌, List, [], ◌∷◌, ◌++◌, Bool, true, false, Option, None, Some, ◌⊎◌, inl, inr, ⊎_elim, sym, refl, ap, subst, ◌∙◌}
use Rattle.std.specs.Prelude.{slice_get, is_some, not, map as each}
use Rattle.std.specs.List.{remove}
use Rattle.std.specs.Option.{option_map}
use Rattle.std.specs.Ordering.{eq_by_cmp}
use Rattle.rsvp_base.specs.declared.addr.Addr.{Addr}
use Rattle.rsvp_base.specs.declared.part.Part.{Part}
use Rattle.rsvp_base.specs.declared.session.Sender.{Sender}
use Rattle.rsvp_base.specs.declared.session.Session.{Session}
use Rattle.rsvp_base.specs.declared.style.StyleKind.{StyleKind}
use Rattle.rsvp_base.specs.declared.style.StyleKind.TheVariants.{Fixed}
use Rattle.rsvp_base.specs.declared.style.Unit.{Unit as UnitOf}
use Rattle.rsvp_base.specs.declared.style.Unit.TheVariants.{Of}
use Rattle.rsvp_base.specs.Members.{In}
use Rattle.rsvp_base.specs.Orders.{Names, senders, sessions, styles, units}
use Rattle.rsvp_base.specs.Sets.{cut, is_none}
use Rattle.rsvp_base.specs.Styles.{name_of, part_unit}
use Rattle.rsvp_base.specs.Table.{get, has, kept}
use Rattle.rsvp_base.specs.TokenBucket.{TokenBucket}
use Rattle.rsvp_base.proofs.Counts.{found_in, in_found}
use Rattle.rsvp_base.proofs.Members.{in_all, in_append, in_each, in_left, in_right, to_each}
use Rattle.rsvp_base.proofs.SetLaws.{and_both, and_made, has-cut, has-kept}
use Rattle.rsvp_base.proofs.Tables.{either, same_table, tied_same}
use Rattle.rsvp_messages.specs.declared.message.Message.TheVariants as message
use Rattle.rsvp_messages.specs.declared.message.ResvConfMsg.{ResvConfMsg}
use Rattle.rsvp_messages.specs.declared.message.ResvMsg.{ResvMsg}
use Rattle.rsvp_messages.specs.Units.{AskedUnit, ask_style, asked_units, only}
use Rattle.style_rules.specs.CutLaws.{part_of_some}
use Rattle.style_rules.specs.FlowOrder.{IsAtMost}
use Rattle.style_rules.specs.Lines.{LineKey, NextHop}
use Rattle.style_rules.specs.Merge.{PartTable}
use Rattle.style_rules.specs.PartLaws.{same_part}
use Rattle.style_rules.specs.Parts.{IsOfStyle, part_cut}
use Rattle.style_rules.specs.Toward.{Request}
use Rattle.style_rules.proofs.Lattice.{at_most_along}
use Rattle.style_rules.proofs.StyleLaws.{cut_of_style, unit_of_names}
use Rattle.style_rules.proofs.Towards.{open_below}
use Rattle.laws_bounds.specs.SendLaws.{ArePartsOf, IsResvTear}
use Rattle.laws_bounds.specs.WishLaws.{GoesOn}
use Rattle.laws_bounds.proofs.Knowing.{known_and_via}
use Rattle.laws_bounds.proofs.Lists.{one_name}
use Rattle.laws_bounds.proofs.Requesting.{requests_and_toward}
use Rattle.laws_bounds.proofs.Tests.{ties}
use Rattle.laws_steps.specs.AcceptingLaws.{came_resv}
use Rattle.router_rules.specs.Asking.{ask_of}
use Rattle.router_rules.specs.Facts.{Facts, ResvState, resvs_of}
use Rattle.router_rules.specs.Inputs.{Send, Spelt}
use Rattle.router_rules.specs.Known.{Lane, known, names_via, names_via_where, via}
use Rattle.router_rules.specs.NodeConfig.{NodeConfig, goes_out}
use Rattle.router_rules.specs.Requests.{is_blockaded, requests, toward}
use Rattle.router_rules.specs.Rule.{Outcome, rule}
use Rattle.router_rules.specs.Steps.{sent_then}
use Rattle.tree_model.specs.declared.hops.LinkHop.{LinkHop}
use Rattle.tree_model.specs.Goals.{addr_of}
use Rattle.tree_model.specs.Networks.{end_at, iface_of, node_of, node_of_end}
use Rattle.tree_model.specs.Ranks.{has_hop, rank}
use Rattle.tree_model.specs.Trees.{hops_of, tree}
use Rattle.tree_model.specs.Wants.{goes_over, live, names as names_over}
use Rattle.tree_model.proofs.Following.{in_has_hop, tree_group}
use Rattle.tree_model.proofs.RankLaws.{rank_falls}
use Rattle.tree_model.proofs.WantLaws.{name_made}
use Rattle.network_model.specs.Links.{copy_to, goes_to}
use Rattle.network_model.specs.Locals.{locals_of}
use Rattle.network_model.specs.Steps.{Deliver, outcome, rest, sent, step, still}
use Rattle.network_model.specs.Worlds.{Item, World, config_of}
use Rattle.network_model.proofs.Changing.{what_is_sent_is_copied}
use Rattle.network_model.proofs.Machines.{in_arrived, in_flight_after, in_rest}
use Rattle.network_model.proofs.Stepping.{copies_made, facts_after_made, sent_made}
use Rattle.laws_network.proofs.Known.{of_some}
use Rattle.settle_paths.specs.PreviousHops.{IsAhead, IsPrevious}
use Rattle.settle_paths.proofs.PreviousHops.{previous_hops_are_all_hops}
use Rattle.settle_resvs.specs.GoalByIface.{goal_at}
use Rattle.settle_resvs.specs.Said.{HopKey, lane_of, resv_key}
use Rattle.settle_resvs.specs.SoftResvs.{AsksFor, SaysResv, line_key_of, resv_at}
use Rattle.settle_resvs.specs.Sessions.{HasNoBlockade}
use Rattle.settle_resvs.proofs.SoftResvs.{resv_found, resv_made}
use Rattle.settle_resvs.proofs.TowardIsTheWant.{unmarked}
use Rattle.settle_passes.specs.Reserving.{AllAsk, IsAskedLast, IsKeptOver, IsLetter, IsReserving}
use Rattle.settle_passes.proofs.Deliveries.{came_by_delivery}
use Rattle.settle_passes.proofs.Reserving.{reserving_next, turns}
use Rattle.settle_passes.proofs.Turns.{IsAskedNow, Turns, all_ask, stays_or_asked}
use Rattle.settle_confirmations.proofs.Arriving.{IsNewOver, IsOfUnit, IsThereStill, comes_over, elsewhere, facts_are, free_then, goes_on_to, in_g, no_tear, of_style, of_unit}
use Rattle.settle_confirmations.proofs.Arriving.{part_in, resv_next, taken_in, toward_next}
use Rattle.settle_confirmations.proofs.Arriving.{at_next, f as facts_at, then as then_at, unit_or_same, unit_same, within, within_next}
use Rattle.settle_confirmations.proofs.Leading.{IsDownFor, IsLed, IsMarkedFor, IsRising, IsUpFor, LeadsFor, StandsOver, key_of}
use Rattle.settle_confirmations.proofs.Answering.{some_row}
use Rattle.settle_confirmations.proofs.Keeping.{nobody}
use Rattle.settle_confirmations.proofs.Moving.{IsConf, IsNext, goes_down}
use Rattle.settle_confirmations.proofs.Returning.{conf_item, conf_leaves}
use Rattle.settle_confirmations.proofs.Saying.{fixed_alone, fixed_name, fixed_told, fixed_unit_of, goes_says, lives as lives_over, only_one, same_said, says_goes}
use Rattle.settle_confirmations.proofs.Taken.{IsAnswer, IsPassedOn, answered_or_on, asked, change, one_unit, sent_kind}

-- ---- lists
pub front_of : {A : Type 0} (ys : List A) (y : A) → slice_get ys 0 ≡ Some y → ys ≡ y ∷ remove ys 0
front_of [] y e = absurd (cc)
front_of {A} (x ∷ xs) y e = ap (λ (z : A). z ∷ xs) (of_some x y e)

pub split_append : {A : Type 0} (ls bs xs zs : List A) (z : A) → ls ++ bs ≡ xs ++ z ∷ zs → ((ws : List A) × (ls ≡ xs ++ z ∷ ws)) ⊎ ((ws : List A) × (xs ≡ ls ++ ws) × (bs ≡ ws ++ z ∷ zs))
split_append [] bs xs zs z e = inr (xs, refl, e)
split_append {A} (a ∷ ls) bs [] zs z e = let head : a ≡ z = cc in inl (ls, ap (λ (h : A). h ∷ ls) head)
split_append {A} (a ∷ ls) bs (x ∷ xs) zs z e =
    let head : a ≡ x = cc in
    let tail : ls ++ bs ≡ xs ++ z ∷ zs = cc in
    ⊎_elim (λ (l : (ws : List A) × (ls ≡ xs ++ z ∷ ws)). inl (l.0, (λ j. head j ∷ l.1 j)))
    (λ (l : (ws : List A) × (xs ≡ ls ++ ws) × (bs ≡ ws ++ z ∷ zs)). inr (l.0, (λ j. sym head j ∷ l.1 j), l.2)) (split_append ls bs xs zs z tail)

nothing_left : {A : Type 0} (ys : List A) → slice_get ys 0 ≡ None → remove ys 0 ≡ []
nothing_left [] e = refl
nothing_left (y ∷ ys) e = absurd (cc)

no_split : {A : Type 0} (xs ws : List A) (z : A) → [] ≡ xs ++ z ∷ ws → ⊥
no_split [] ws z e = cc
no_split (x ∷ xs) ws z e = cc

-- the last that asked
record IsLastAt (w : World) (k : HopKey) (v : Part) (ys : List Item) : Type 0 where
  before : List Item
  item : Item
  behind : List Item
  split : ys ≡ before ++ item ∷ behind
  says : SaysResv w.net (resv_key w.net k) item v
  all : AllAsk w.net k v behind

last_at : (w : World) (k : HopKey) (v : Part) (ys : List Item) → IsAskedLast w.net k v ys → IsLastAt w k v ys
last_at w k v [] l = absurd l
last_at w k v (y ∷ ys) l =
    ⊎_elim
    (λ (more : IsAskedLast w.net k v ys).
    let z = last_at w k v ys more in
    record { before = y ∷ z.before; item = z.item; behind = z.behind; split = ap (λ (zs : List Item). y ∷ zs) z.split; says = z.says; all = z.all })
    (λ (now : SaysResv w.net (resv_key w.net k) y v × AllAsk w.net k v ys). record { before = []; item = y; behind = ys; split = refl; says = now.0; all = now.1 }) l

module _ (q : ℕ) (s : Session) (names : Names) (flow : TokenBucket) (e : ℕ) (u : World) (a : IsRising q s names flow e u) where
  abbrev pub next : World
  next = step q (Deliver 0) u

  abbrev r : IsReserving q s u
  r = a.reserving

  pub r' : IsReserving q s next
  r' = reserving_next q s u a.reserving

  -- ---- what a node asks for of one sender is on its way, with marks that lead down, or stands already
  pub before : (x : Sender) (h : LinkHop) (v : Part) (f : Facts) → In h (hops_of u.net.hops s.group) → slice_get u.nodes (node_of u.net.ends h.to) ≡ Some f
      → get (toward (config_of q u.net u.trees (node_of u.net.ends h.to)) f (lane_of u.net (key_of s x h))) (Of x) ≡ Some v
      → IsLed u s names flow e x h v.flow ⊎ StandsOver u s x h v u.flight
  before x h v f hop at goes =
      ⊎_elim (λ (c : IsKeptOver u (key_of s x h) v × AllAsk u.net (key_of s x h) v u.flight). inr c)
      (λ (last : IsAskedLast u.net (key_of s x h) v u.flight).
      let d = last_at u (key_of s x h) v u.flight last in
      ⊎_elim (λ (l : IsLed u s names flow e x h v.flow). inl l)
      (λ (c : StandsOver u s x h v d.before).
      inr (
        c.0,
        λ y i l.
            ⊎_elim (λ (j : In y d.before). c.1 y j l)
            (λ (j : In y (d.item ∷ d.behind)).
            ⊎_elim (λ (is : y ≡ d.item). subst (λ (z : Item). SaysResv u.net (resv_key u.net (key_of s x h)) z v) (sym is) d.says) (λ (k : In y d.behind). d.all y k l) j)
            (in_append y d.before (d.item ∷ d.behind) (subst (λ (zs : List Item). In y zs) d.split i)),
      ))
      (a.climbs x h d.before d.behind d.item v hop d.split d.says))
      (r.asked (key_of s x h) v f refl hop at goes)

  -- ---- what stands behind a hop
  module _ (x : Sender) (h : LinkHop) (hop : In h (hops_of u.net.hops s.group)) where
    abbrev at_hop : World → Option ResvState
    at_hop w = resv_at w (node_of u.net.ends h.from) Fixed (line_key_of u.net (resv_key u.net (key_of s x h)))

    -- where no node changes it stays
    same_resv : ((n : ℕ) (f : Facts) → slice_get u.nodes n ≡ Some f → (outcome q (Deliver 0) u n f).facts ≡ f) → (w : ResvState) → at_hop u ≡ Some w → at_hop next ≡ Some w
    same_resv all w there =
        let n : ℕ = node_of u.net.ends h.from in
        let key : LineKey = line_key_of u.net (resv_key u.net (key_of s x h)) in
        let d = resv_found u n Fixed key w there in
        resv_made next n Fixed key (outcome q (Deliver 0) u n d.0).facts (facts_after_made q (Deliver 0) u n d.0 d.1) ∙ ap (λ (z : Facts). get (resvs_of Fixed z) key) (all n d.0 d.1) ∙ d.2

    -- it stays, or is of a unit of a request that arrives
    pub record IsNewThere : Type 0 where
      pub item : Item
      pub arrives : slice_get u.flight 0 ≡ Some item
      pub up : IsUpFor u s names flow e item
      pub new : IsNewOver q s u r item arrives up.says.resv up.says.spelt up.says.session (addr_of u.net e) up.wish (key_of s x h)

    pub resv_on : (w : ResvState) → at_hop u ≡ Some w → (at_hop next ≡ Some w) ⊎ IsNewThere
    resv_on w there = by (slice_get u.flight 0) refl
      where
        by : (o : Option Item) → slice_get u.flight 0 ≡ o → (at_hop next ≡ Some w) ⊎ IsNewThere
        by None none =
            inl (same_resv (λ n f at.
            ⊎_elim (λ (z : outcome q (Deliver 0) u n f ≡ still f). ap (λ (o : Outcome). o.facts) z)
            (λ (t : Turns q (Deliver 0) u n f).
            let c = came_by_delivery q 0 u r.paths.bounds n t.input t.came in
            let bad : None ≡ Some c.item = sym none ∙ c.arrives in
            absurd (cc)) (turns q s u r n f at)) w there)
        by (Some y) arr =
            ⊎_elim
            (λ (v : IsUpFor u s names flow e y).
            ⊎_elim (λ (same : at_hop next ≡ Some w). inl same)
            (λ (new : IsNewOver q s u r y arr v.says.resv v.says.spelt v.says.session (addr_of u.net e) v.wish (key_of s x h)). inr (record { item = y; arrives = arr; up = v; new = new }))
            (resv_next q s u r y arr v.says.resv v.says.spelt v.says.session (addr_of u.net e) v.wish (key_of s x h) hop w there))
            (λ (k : IsConf y). inl (same_resv (conf_leaves q s u r y arr k) w there)) (a.each y (in_arrived (Deliver 0) u y arr))

    -- so a part stays where what arrives asks for it, if anything does
    pub kept_on : (v : Part) → IsKeptOver u (key_of s x h) v → ((y : Item) → slice_get u.flight 0 ≡ Some y → IsLetter u.net (key_of s x h) v y → SaysResv u.net (resv_key u.net (key_of s x h)) y v)
        → IsKeptOver next (key_of s x h) v
    kept_on v c all =
        ⊎_elim (λ (same : at_hop next ≡ Some c.resv). record { resv = c.resv; there = same; is = c.is })
        (λ (z : IsNewThere).
        let m : ResvMsg = z.up.says.resv in
        let says = all z.item z.arrives (inl (m, z.up.says.spelt, z.new.over)) in
        let mine : SaysResv u.net (resv_key u.net (key_of s x h)) z.item z.new.resv.part =
        record {
          end = says.end;
          dst = says.dst;
          resv = m;
          spelt = z.up.says.spelt;
          session = z.new.over.session;
          style = z.new.over.style;
          hop = z.new.over.from;
          unit = z.new.unit;
          asks = z.new.asks;
          at = z.new.at;
          names = subst (λ (o : Option Names). AsksFor o z.new.resv.part.senders) (sym z.new.names) refl;
          flow = sym z.new.flow;
        } in
        record { resv = z.new.resv; there = z.new.there; is = same_said u.net s x h z.item z.new.resv.part v mine says })
        (resv_on c.resv c.there)

  -- ---- marks stay
  pub mark_on : (x : Sender) (h : LinkHop) → In h (tree u.net.hops s.group x.addr) → IsMarkedFor u s x (addr_of u.net e) h → IsMarkedFor next s x (addr_of u.net e) h
  mark_on x h there k =
      ⊎_elim (λ (same : at_hop x h (tree_group u.net.hops s.group x.addr h there) next ≡ Some k.resv). record { resv = k.resv; there = same; wish = k.wish })
      (λ (z : IsNewThere x h (tree_group u.net.hops s.group x.addr h there)). record { resv = z.new.resv; there = z.new.there; wish = z.new.mark })
      (resv_on x h (tree_group u.net.hops s.group x.addr h there) k.resv k.there)

  pub leads_on : (x : Sender) (hs : List LinkHop) (h : LinkHop) → LeadsFor u s x e hs h → LeadsFor next s x e hs h
  leads_on x [] h l = l
  leads_on x (h' ∷ hs) h l = (l.0, mark_on x h' l.0.there l.1, leads_on x hs h' l.2)

  abbrev pub led_on : (x : Sender) (h : LinkHop) (t : TokenBucket) → IsLed u s names flow e x h t → IsLed next s names flow e x h t
  led_on x h t l = record { among = l.among; there = l.there; covers = l.covers; hops = l.hops; leads = leads_on x l.hops h l.leads }

  abbrev pub up_on : (y : Item) → IsUpFor u s names flow e y → IsUpFor next s names flow e y
  up_on y v = record { sender = v.sender; hop = v.hop; part = v.part; says = v.says; wish = v.wish; led = led_on v.sender v.hop v.part.flow v.led }

  -- ---- a request that arrives
  module _ (y : Item) (arr : slice_get u.flight 0 ≡ Some y) (v : IsUpFor u s names flow e y) where
    abbrev m : ResvMsg
    m = v.says.resv

    abbrev n : ℕ
    n = node_of u.net.ends y.end

    abbrev i : ℕ
    i = iface_of u.net.ends y.end

    abbrev p : NodeConfig
    p = config_of q u.net u.trees (node_of u.net.ends y.end)

    abbrev us : List AskedUnit
    us = asked_units m.ask

    abbrev f : Facts
    f = facts_at q s u r y arr m v.says.spelt v.says.session (addr_of u.net e) v.wish

    abbrev then : Facts
    then = then_at q s u r y arr m v.says.spelt v.says.session (addr_of u.net e) v.wish

    there_at : slice_get u.nodes n ≡ Some f
    there_at = (taken_in q s u r y arr m v.says.spelt v.says.session (addr_of u.net e) v.wish).node

    hop_there : In v.hop (hops_of u.net.hops s.group)
    hop_there = tree_group u.net.hops s.group v.sender.addr v.hop v.led.there

    free : HasNoBlockade s f.walls
    free = r.free n f there_at

    -- a unit of it says a part of its sender over the hop
    abbrev part_of_unit : AskedUnit → Sender → Part
    part_of_unit b x = record { senders = only x; flow = b.flow }

    unit_says : (b : AskedUnit) (x : Sender) → In b us → b.unit ≡ Of x → SaysResv u.net (resv_key u.net (key_of s x v.hop)) y (part_of_unit b x)
    unit_says b x j is =
        record {
          end = v.says.end;
          dst = v.says.dst;
          resv = m;
          spelt = v.says.spelt;
          session = v.says.session;
          style = v.says.style;
          hop = v.says.hop;
          unit = b;
          asks = j;
          at = is;
          names = subst (λ (o : Option Names). AsksFor o (only x)) (sym (fixed_told m.ask b x v.says.style j is)) refl;
          flow = refl;
        }

    -- ---- of one sender: marks lead down from its hop, or each unit of it stands there already
    pub record IsMovedBy (x : Sender) : Type 0 where
      pub unit : AskedUnit
      pub asks : In unit us
      pub is : unit.unit ≡ Of x
      pub led : IsLed u s names flow e x v.hop unit.flow

    abbrev IsUnmoved : Sender → List AskedUnit → Type 0
    IsUnmoved x bs = (b : AskedUnit) → In b bs → b.unit ≡ Of x → IsKeptOver u (key_of s x v.hop) (part_of_unit b x)

    moves_among : (x : Sender) (bs : List AskedUnit) → ((b : AskedUnit) → In b bs → In b us) → IsMovedBy x ⊎ IsUnmoved x bs
    moves_among x [] all = inr (λ b j is. absurd j)
    moves_among x (b ∷ bs) all =
        either (eq_by_cmp units.cmp b.unit (Of x))
        (λ tied.
        let is : b.unit ≡ Of x = tied_same units b.unit (Of x) tied in
        ⊎_elim (λ (l : IsLed u s names flow e x v.hop b.flow). inl (record { unit = b; asks = all b (inl refl); is = is; led = l }))
        (λ (c : StandsOver u s x v.hop (part_of_unit b x) []).
        rest_with (moves_among x bs (λ z j. all z (inr j)))
        (λ z j at. ⊎_elim (λ (same : z ≡ b). subst (λ (w : AskedUnit). IsKeptOver u (key_of s x v.hop) (part_of_unit w x)) (sym same) c.0) (λ (no : ⊥). absurd no) j))
        (a.climbs x v.hop [] (remove u.flight 0) y (part_of_unit b x) hop_there (front_of u.flight y arr) (unit_says b x (all b (inl refl)) is)))
        (λ apart. rest_with (moves_among x bs (λ z j. all z (inr j))) (λ z j at.
        ⊎_elim
        (λ (same : z ≡ b).
        let bad : true ≡ false = sym (ties units b.unit (Of x) (ap (λ (w : AskedUnit). w.unit) (sym same) ∙ at)) ∙ apart in
        cc) (λ (no : ⊥). absurd no) j))
      where
        rest_with : IsMovedBy x ⊎ IsUnmoved x bs → IsUnmoved x (b ∷ []) → IsMovedBy x ⊎ IsUnmoved x (b ∷ bs)
        rest_with more first =
            ⊎_elim (λ (k : IsMovedBy x). inl k)
            (λ (k : IsUnmoved x bs). inr (λ z j at. ⊎_elim (λ (same : z ≡ b). first z (inl same) at) (λ (l : In z bs). k z l at) j))
            more

    moves : (x : Sender) → IsMovedBy x ⊎ IsUnmoved x us
    moves x = moves_among x us (λ b j. j)

    -- ---- a reservation of a fixed filter stays with its one name, and each other one as it is
    stays : (k : StyleKind) (key : LineKey) (w : ResvState) → get (resvs_of k f) key ≡ Some w → IsThereStill q s u r y arr m v.says.spelt v.says.session (addr_of u.net e) v.wish k key w
    stays k key w h =
        ⊎_elim
        (λ (b : IsOfUnit q s u r y arr m v.says.spelt v.says.session (addr_of u.net e) v.wish k key).
        let fixed : k ≡ Fixed = b.style ∙ v.says.style in
        let old = (within q s u r y arr m v.says.spelt v.says.session (addr_of u.net e) v.wish).shapes.resvs k key w h in
        let new = (within_next q s u r y arr m v.says.spelt v.says.session (addr_of u.net e) v.wish).shapes.resvs k key b.resv
        (in_g q s u r y arr m v.says.spelt v.says.session (addr_of u.net e) v.wish k key b.resv b.there) in
        let units_are : part_unit k w.part ≡ part_unit k b.resv.part = sym old.unit ∙ new.unit in
        let old_style : IsOfStyle Fixed w.part = subst (λ (z : StyleKind). IsOfStyle z w.part) fixed old.style in
        let new_style : IsOfStyle Fixed b.resv.part = subst (λ (z : StyleKind). IsOfStyle z b.resv.part) fixed new.style in
        let fixed_units : part_unit Fixed w.part ≡ part_unit Fixed b.resv.part = subst (λ (z : StyleKind). part_unit z w.part ≡ part_unit z b.resv.part) fixed units_are in
        let x = fixed_unit_of b.resv.part (part_unit Fixed b.resv.part) new_style refl in
        record {
          resv = b.resv;
          there = b.there;
          unit = units_are;
          names = λ ns some.
              let one = one_name (cut w.part.senders ns) some in
              let both = and_both _ _ (sym (has-cut senders w.part.senders ns one.0) ∙ one.1) in
              let is : one.0 ≡ x.0 = fixed_alone w.part x.0 one.0 old_style (fixed_units ∙ x.1) both.0 in
              let in_new : has (cut b.resv.part.senders ns) x.0 ≡ true =
              has-cut senders b.resv.part.senders ns x.0 ∙ and_made _ _ (fixed_name b.resv.part x.0 new_style x.1) (subst (λ (z : Sender). has ns z ≡ true) is both.1) in
              either (is_none (cut b.resv.part.senders ns)) (λ none. absurd (nobody (cut b.resv.part.senders ns) x.0 none in_new)) (λ no. no);
        })
        (λ (same : get (resvs_of k f) key ≡ get (resvs_of k then) key). record { resv = w; there = sym same ∙ h; unit = refl; names = λ ns some. some })
        (unit_or_same q s u r y arr m v.says.spelt v.says.session (addr_of u.net e) v.wish k key)

    -- ---- where nothing of a sender moves, the same goes toward each hop for it
    abbrev lane_on : NextHop → Lane
    lane_on hop = record { session = s; style = Fixed; hop = hop }

    unmoved_parts : (x : Sender) → IsUnmoved x us → (hop : NextHop) → option_map part_in (get (resvs_of Fixed f) (s, (hop, Of x))) ≡ option_map part_in (get (resvs_of Fixed then) (s, (hop, Of x)))
    unmoved_parts x none hop =
        ⊎_elim
        (λ (b : IsOfUnit q s u r y arr m v.says.spelt v.says.session (addr_of u.net e) v.wish Fixed (s, (hop, Of x))).
        let unit : b.unit.unit ≡ Of x = ap (λ (z : LineKey). z.1.1) (sym b.is) in
        let c = none b.unit b.asks unit in
        let d = resv_found u (node_of u.net.ends v.hop.from) Fixed (line_key_of u.net (resv_key u.net (key_of s x v.hop))) c.resv c.there in
        let facts : d.0 ≡ f = of_some d.0 f (sym d.1 ∙ ap (λ (z : ℕ). slice_get u.nodes (node_of u.net.ends z)) (sym v.says.end) ∙ there_at) in
        let key : line_key_of u.net (resv_key u.net (key_of s x v.hop)) ≡ (s, (hop, Of x)) =
        (λ j. (s, ((iface_of u.net.ends (sym v.says.end j), sym v.says.hop j), Of x))) ∙ (λ j. (s, (ap (λ (z : LineKey). z.1.0) (sym b.is) j, Of x))) in
        let old : get (resvs_of Fixed f) (s, (hop, Of x)) ≡ Some c.resv = (λ j. get (resvs_of Fixed (sym facts j)) (sym key j)) ∙ d.2 in
        let listed : b.unit.names ≡ Some (only x) = fixed_told m.ask b.unit x v.says.style b.asks unit in
        let part : c.resv.part ≡ b.resv.part = c.is ∙ same_part (part_of_unit b.unit x) b.resv.part (of_some (only x) b.resv.part.senders (sym listed ∙ b.names)) b.flow in
        ap (option_map part_in) old ∙ ap Some part ∙ ap (option_map part_in) (sym b.there))
        (λ (same : get (resvs_of Fixed f) (s, (hop, Of x)) ≡ get (resvs_of Fixed then) (s, (hop, Of x))). ap (option_map part_in) same)
        (unit_or_same q s u r y arr m v.says.spelt v.says.session (addr_of u.net e) v.wish Fixed (s, (hop, Of x)))

    unmoved_same : (x : Sender) → IsUnmoved x us → (hop : NextHop) → get (toward p f (lane_on hop)) (Of x) ≡ get (toward p then (lane_on hop)) (Of x)
    unmoved_same x none hop = unit_same q s u r y arr m v.says.spelt v.says.session (addr_of u.net e) v.wish (lane_on hop) (Of x) free (unmoved_parts x none)

    -- ---- a Resv that is sent for it: a request that goes up from a hop before, and whatever it asks for of one sender is led or stands
    pub record IsOnwardFor (z : Item) : Type 0 where
      pub up : IsUpFor next s names flow e z
      pub lower : rank u.net s.group v.hop < rank u.net s.group up.hop
      pub units : (x : Sender) (k : LinkHop) (d : Part) → In k (hops_of u.net.hops s.group) → SaysResv u.net (resv_key u.net (key_of s x k)) z d
          → IsLed next s names flow e x k d.flow ⊎ StandsOver next s x k d next.flight

    module _ (z : Item) (b : Bool) (sends : In (z, b) (sent q (Deliver 0) u)) (c : Send) (arrival : z.arrival ≡ Spelt c.message) (dst : z.dst ≡ c.dst)
        (o : IsPassedOn p u.clock i m f (goal_at u.net (locals_of u) n) (within q s u r y arr m v.says.spelt v.says.session (addr_of u.net e) v.wish)
        (taken_in q s u r y arr m v.says.spelt v.says.session (addr_of u.net e) v.wish).can (addr_of u.net e) v.wish c) where
      spelt : z.arrival ≡ Spelt (message.Resv o.resv)
      spelt = arrival ∙ ap Spelt o.says

      flies : In z next.flight
      flies = in_right z (rest (Deliver 0) u) (each (λ (w : Item × Bool). w.0) (sent q (Deliver 0) u)) (to_each (λ (w : Item × Bool). w.0) (z, b) (sent q (Deliver 0) u) sends)

      -- it is of the session, and with a fixed filter
      session : o.lane.session ≡ s
      session = either (eq_by_cmp sessions.cmp o.lane.session s) (λ tied. tied_same sessions o.lane.session s tied)
          (λ apart. absurd (o.changed (elsewhere q s u r y arr m v.says.spelt v.says.session (addr_of u.net e) v.wish o.lane
          (λ same style. let bad : true ≡ false = sym (ties sessions o.lane.session s (same ∙ v.says.session)) ∙ apart in cc))))

      style : o.lane.style ≡ Fixed
      style = either (eq_by_cmp styles.cmp o.lane.style Fixed) (λ tied. tied_same styles o.lane.style Fixed tied)
          (λ apart. absurd (o.changed (elsewhere q s u r y arr m v.says.spelt v.says.session (addr_of u.net e) v.wish o.lane
          (λ same kind. let bad : true ≡ false = sym (ties styles o.lane.style Fixed (kind ∙ v.says.style)) ∙ apart in cc))))

      lane_is : o.lane ≡ lane_on o.lane.hop
      lane_is = λ j. record { session = session j; style = style j; hop = o.lane.hop }

      of_session : o.resv.session ≡ s
      of_session = o.session ∙ session

      -- it goes over the hop by which its node has the paths
      ahead_of : (x : Sender) × IsAhead next n o.lane.session o.lane.hop x
      ahead_of = comes_over q s u r y arr m v.says.spelt v.says.session (addr_of u.net e) v.wish o.lane o.there

      abbrev h : LinkHop
      h = ahead_of.1.way

      previous : IsPrevious u.net n s o.lane.hop h
      previous = subst (λ (w : Session). IsPrevious u.net n w o.lane.hop h) session ahead_of.1.previous

      abbrev whole : PartTable
      whole = toward p then (lane_on o.lane.hop)

      table_is : toward p then o.lane ≡ whole
      table_is = ap (toward p then) lane_is

      asks_whole : ask_of Fixed whole ≡ Some o.resv.ask
      asks_whole = (λ j. ask_of (sym style j) (sym table_is j)) ∙ o.whole

      to_hop : z.dst ≡ o.lane.hop.1
      to_hop = dst ∙ o.dst

      are_parts : ArePartsOf Fixed whole
      are_parts = of_style q s u r y arr m v.says.spelt v.says.session (addr_of u.net e) v.wish (lane_on o.lane.hop)

      lane_over : (x : Sender) → lane_of u.net (key_of s x h) ≡ lane_on o.lane.hop
      lane_over x = λ j. record { session = s; style = Fixed; hop = (previous.iface j, previous.addr j) }

      -- the sender of what it says sends, and its tree has the hop
      lives : (x : Sender) (d : Part) → get whole (Of x) ≡ Some d → In x (live (locals_of next) s) × In h (tree u.net.hops s.group x.addr)
      lives x d goes = lives_over q s next r' z flies o.resv spelt of_session n o.lane.hop h previous to_hop o.hop whole are_parts asks_whole x d goes

      -- ---- where something of a sender moves, it is among what goes toward the hop
      module _ (x : Sender) (d : Part) (goes : get whole (Of x) ≡ Some d) (k : IsMovedBy x) where
        abbrev key : LineKey
        key = (s, ((i, m.hop.addr), Of x))

        made : IsOfUnit q s u r y arr m v.says.spelt v.says.session (addr_of u.net e) v.wish Fixed key
        made = of_unit q s u r y arr m v.says.spelt v.says.session (addr_of u.net e) v.wish Fixed key k.unit k.asks (sym v.says.style) (λ j. (sym v.says.session j, ((i, m.hop.addr), sym k.is j)))

        same_unit : made.unit ≡ k.unit
        same_unit = one_unit m.ask made.unit k.unit made.asks k.asks (ap (λ (w : LineKey). w.1.1) (sym made.is) ∙ sym k.is)

        listed : k.unit.names ≡ Some (only x)
        listed = fixed_told m.ask k.unit x v.says.style k.asks k.is

        in_part : has made.resv.part.senders x ≡ true
        in_part = subst (λ (w : Names). has w x ≡ true) (of_some (only x) made.resv.part.senders (sym listed ∙ ap (λ (w : AskedUnit). w.names) (sym same_unit) ∙ made.names)) (only_one x)

        leaves : goes_out p s i x ≡ true
        leaves =
            let placed = (taken_in q s u r y arr m v.says.spelt v.says.session (addr_of u.net e) v.wish).can.units k.unit k.asks in
            let named : has placed.names x ≡ true = subst (λ (w : Names). has w x ≡ true) (of_some (only x) placed.names (sym listed ∙ placed.listed)) (only_one x) in
            let w = (known_and_via.named_by (ask_style m.ask) (kept (goes_out p m.session i) (known f m.session)) x).0 (placed.match x named) in
            let both = and_both _ _ (sym (has-kept senders (goes_out p m.session i) (known f m.session) w.sender) ∙ w.among) in
            let is : x ≡ w.sender = w.name ∙ ap (λ (t : StyleKind). name_of t w.sender) v.says.style in
            (λ j. goes_out p (sym v.says.session j) i (is j)) ∙ both.1

        in_via : has (via then s o.lane.hop) x ≡ true
        in_via =
            let g : Facts = (outcome q (Deliver 0) u n f).facts in
            let all = previous_hops_are_all_hops next r'.paths.bounds.net r'.paths.hosts r'.paths.sound r'.paths.complete in
            let same : names_via g (lane_on o.lane.hop) ≡ names_over Fixed u.net (locals_of next) s (h ∷ []) =
            all.via n g (lane_on o.lane.hop) h (at_next q s u r y arr m v.says.spelt v.says.session (addr_of u.net e) v.wish) previous in
            let hops : List LinkHop = tree u.net.hops s.group x.addr in
            let over : goes_over u.net s (h ∷ []) x ≡ true =
            in_all (has_hop hops) (h ∷ [])
            (λ w j. in_has_hop hops w (⊎_elim (λ (is : w ≡ h). subst (λ (t : LinkHop). In t hops) (sym is) (lives x d goes).1) (λ (no : ⊥). absurd no) j)) in
            let named : has (names_via g (lane_on o.lane.hop)) x ≡ true =
            ap (λ (w : Names). has w x) same ∙ name_made Fixed u.net (locals_of next) s (h ∷ []) x (lives x d goes).0 over in
            let w = (known_and_via.all_by g (lane_on o.lane.hop) x).0 named in
            ap (λ (t : Facts). has (via t s o.lane.hop) x) (sym (facts_are q s u r y arr m v.says.spelt v.says.session (addr_of u.net e) v.wish))
            ∙ subst (λ (t : Sender). has (via g s o.lane.hop) t ≡ true) (sym w.name) w.among

        covers : IsAtMost flow d.flow
        covers =
            let l : Lane = lane_on o.lane.hop in
            let through : Names = names_via_where then l (goes_out p s i) in
            let in_through : has through x ≡ true = (known_and_via.names_by then l (goes_out p s i) x).1 (record { sender = x; among = in_via; passes = leaves; name = refl }) in
            let in_cut : has (cut made.resv.part.senders through) x ≡ true = has-cut senders made.resv.part.senders through x ∙ and_made _ _ in_part in_through in
            let some : is_none (cut made.resv.part.senders through) ≡ false =
            either (is_none (cut made.resv.part.senders through)) (λ none. absurd (nobody (cut made.resv.part.senders through) x none in_cut)) (λ no. no) in
            let part : Part = record { senders = cut made.resv.part.senders through; flow = made.resv.part.flow } in
            let cut_is : part_cut made.resv.part through ≡ Some part = part_of_some (cut made.resv.part.senders through) made.resv.part.flow some in
            let rq : Request = record { part = part; blockaded = is_blockaded Fixed then.walls l part } in
            let among : In rq (requests p then l) =
            (requests_and_toward.each p then l rq).1 (inl (record { key = ((i, m.hop.addr), Of x); resv = made.resv; there = made.there; part = cut_is; blockaded = refl })) in
            let shape = (within_next q s u r y arr m v.says.spelt v.says.session (addr_of u.net e) v.wish).shapes.resvs Fixed key made.resv
            (in_g q s u r y arr m v.says.spelt v.says.session (addr_of u.net e) v.wish Fixed key made.resv made.there) in
            let part_style : IsOfStyle Fixed part = cut_of_style Fixed made.resv.part part through shape.style cut_is in
            let below = open_below Fixed (requests p then l) (Of x) d rq
            (record {
              request = record { among = among; named = ap not some; unit = sym (unit_of_names Fixed part x part_style in_cut) };
              unmarked = unmarked p then l (free_then q s u r y arr m v.says.spelt v.says.session (addr_of u.net e) v.wish s free) rq among;
            }) goes in
            let flow_is : k.unit.flow ≡ made.resv.part.flow = ap (λ (w : AskedUnit). w.flow) (sym same_unit) ∙ made.flow in
            at_most_along flow made.resv.part.flow d.flow (subst (λ (w : TokenBucket). IsAtMost flow w) flow_is k.led.covers) below.flow

        -- so from the hop marks lead down, first the one that it has made
        follows : IsNext u.net s x h v.hop
        follows =
            let meet : node_of u.net.ends v.hop.from ≡ node_of u.net.ends h.to = ap (node_of u.net.ends) (sym v.says.end) ∙ sym previous.node in
            record {
              there = k.led.there;
              meet = meet;
              lower = (rank_falls u.net r.paths.bounds.net.loop_free).falls s.group h v.hop (record { source = x.addr; first = (lives x d goes).1; second = k.led.there; meet = meet });
            }

        led_new : IsLed next s names flow e x h d.flow
        led_new =
            let g : Facts = (outcome q (Deliver 0) u n f).facts in
            let mark : IsMarkedFor next s x (addr_of u.net e) v.hop = record {
              resv = made.resv;
              there = (λ j. resv_at next (node_of u.net.ends (sym v.says.end j)) Fixed (s, ((iface_of u.net.ends (sym v.says.end j), sym v.says.hop j), Of x)))
                  ∙ resv_made next n Fixed key g (at_next q s u r y arr m v.says.spelt v.says.session (addr_of u.net e) v.wish)
                  ∙ in_g q s u r y arr m v.says.spelt v.says.session (addr_of u.net e) v.wish Fixed key made.resv made.there;
              wish = made.mark;
            } in
            record { among = k.led.among; there = (lives x d goes).1; covers = covers; hops = v.hop ∷ k.led.hops; leads = (follows, mark, leads_on x k.led.hops v.hop k.led.leads) }

      -- ---- where nothing of a sender moves, what goes toward the hop was asked for before
      stands_new : (x : Sender) (d : Part) → get whole (Of x) ≡ Some d → IsUnmoved x us → IsLed next s names flow e x h d.flow ⊎ StandsOver next s x h d next.flight
      stands_new x d goes none =
          let k : HopKey = key_of s x h in
          let g : Facts = (outcome q (Deliver 0) u n f).facts in
          let at : slice_get u.nodes (node_of u.net.ends h.to) ≡ Some f = ap (slice_get u.nodes) previous.node ∙ there_at in
          let goes_before : get (toward (config_of q u.net u.trees (node_of u.net.ends h.to)) f (lane_of u.net k)) (Of x) ≡ Some d =
          (λ j. get (toward (config_of q u.net u.trees (previous.node j)) f (lane_over x j)) (Of x)) ∙ unmoved_same x none o.lane.hop ∙ goes in
          let at_g : slice_get next.nodes (node_of u.net.ends h.to) ≡ Some g = ap (slice_get next.nodes) previous.node ∙ at_next q s u r y arr m v.says.spelt v.says.session (addr_of u.net e) v.wish in
          let goes_g : get (toward (config_of q u.net u.trees (node_of u.net.ends h.to)) g (lane_of u.net k)) (Of x) ≡ Some d =
          (λ j. get (toward (config_of q u.net u.trees (previous.node j)) g (lane_over x j)) (Of x))
          ∙ ap (λ (w : PartTable). get w (Of x)) (toward_next q s u r y arr m v.says.spelt v.says.session (addr_of u.net e) v.wish (lane_on o.lane.hop)) ∙ goes in
          let new : List Item = each (λ (w : Item × Bool). w.0) (sent q (Deliver 0) u) in
          ⊎_elim (λ (l : IsLed u s names flow e x h d.flow). inl (led_on x h d.flow l))
          (λ (c : StandsOver u s x h d u.flight).
          inr (
            kept_on x h previous.there d c.0 (λ w arrives l. c.1 w (in_arrived (Deliver 0) u w arrives) l),
            λ w j l.
                ⊎_elim (λ (old : In w (remove u.flight 0)). c.1 w (in_rest (Deliver 0) u w refl old) l)
                (λ (fresh : In w new).
                let t = in_each (λ (k : Item × Bool). k.0) w (sent q (Deliver 0) u) fresh in
                all_ask q (Deliver 0) u r.paths.bounds (turns q s u r) r'.paths.bounds r'.paths.sound k previous.there g at_g d goes_g w t.0.1
                (subst (λ (k : Item). In (k, t.0.1) (sent q (Deliver 0) u)) (sym t.2) t.1) l)
                (in_append w (remove u.flight 0) new j),
          ))
          (before x h d f previous.there at goes_before)

      units_next : (x : Sender) (k : LinkHop) (d : Part) → In k (hops_of u.net.hops s.group) → SaysResv u.net (resv_key u.net (key_of s x k)) z d
          → IsLed next s names flow e x k d.flow ⊎ StandsOver next s x k d next.flight
      units_next x k d hop says =
          let w = says_goes q s next r' z flies o.resv spelt of_session n o.lane.hop h previous to_hop o.hop whole are_parts asks_whole x k d hop says in
          subst (λ (t : LinkHop). IsLed next s names flow e x t d.flow ⊎ StandsOver next s x t d next.flight) (sym w.0)
          (⊎_elim (λ (moved : IsMovedBy x). inl (led_new x d w.1 moved)) (λ (none : IsUnmoved x us). stands_new x d w.1 none) (moves x))

      -- ---- of one of its senders something moves, since else nothing would be sent
      record IsMovedThere : Type 0 where
        sender : Sender
        part : Part
        goes : get whole (Of sender) ≡ Some part
        moved : IsMovedBy sender

      abbrev AllUnmoved : List (UnitOf × Part) → Type 0
      AllUnmoved rows = (un : UnitOf) (d : Part) → In (un, d) rows → (x : Sender) × (un ≡ Of x) × IsUnmoved x us

      moved_among : (rows : List (UnitOf × Part)) → ((row : UnitOf × Part) → In row rows → In row whole.rows) → IsMovedThere ⊎ AllUnmoved rows
      moved_among [] all = inr (λ un d j. absurd j)
      moved_among (row ∷ rows) all =
          let goes : get whole row.0 ≡ Some row.1 = in_found units whole row.0 row.1 (all row (inl refl)) in
          let fixed = are_parts row.0 row.1 goes in
          let x = fixed_unit_of row.1 row.0 fixed.0 fixed.1 in
          ⊎_elim (λ (k : IsMovedBy x.0). inl (record { sender = x.0; part = row.1; goes = ap (get whole) (sym x.1) ∙ goes; moved = k }))
          (λ (none : IsUnmoved x.0 us).
          ⊎_elim (λ (k : IsMovedThere). inl k)
          (λ (k : AllUnmoved rows). inr (λ un d j.
          ⊎_elim (λ (is : (un, d) ≡ row). (x.0, ap (λ (w : UnitOf × Part). w.0) is ∙ x.1, none)) (λ (l : In (un, d) rows). k un d l) j))
          (moved_among rows (λ w j. all w (inr j))))
          (moves x.0)

      moved_there : IsMovedThere
      moved_there = ⊎_elim (λ (k : IsMovedThere). k) (λ (none : AllUnmoved whole.rows). absurd (o.changed (ap (toward p f) lane_is ∙ same none ∙ sym table_is))) (moved_among whole.rows (λ row j. j))
        where
          same : AllUnmoved whole.rows → toward p f (lane_on o.lane.hop) ≡ whole
          same none = same_table units (toward p f (lane_on o.lane.hop)) whole (λ un. by un (get whole un) refl (get (toward p f (lane_on o.lane.hop)) un) refl)
            where
              by : (un : UnitOf) (d : Option Part) → get whole un ≡ d → (w : Option Part) → get (toward p f (lane_on o.lane.hop)) un ≡ w → get (toward p f (lane_on o.lane.hop)) un ≡ get whole un
              by un (Some d) goes w was =
                  let k = none un d (found_in units whole un d goes) in
                  ap (get (toward p f (lane_on o.lane.hop))) k.1 ∙ unmoved_same k.0 k.2 o.lane.hop ∙ ap (get whole) (sym k.1)
              by un None goes None was = was ∙ sym goes
              by un None goes (Some w) was =
                  let on = goes_on_to q s u r y arr m v.says.spelt v.says.session (addr_of u.net e) v.wish stays (lane_on o.lane.hop) un (ap is_some was) in
                  let bad : false ≡ true = sym (ap is_some goes) ∙ on in
                  absurd (cc)

      -- ---- so it is a request that goes up from a hop before
      onward : IsOnwardFor z
      onward =
          let k = moved_there in
          record {
            up = record {
              sender = k.sender;
              hop = h;
              part = k.part;
              says = goes_says q s next r' z flies o.resv spelt of_session n o.lane.hop h previous to_hop o.hop whole are_parts asks_whole k.sender k.part k.goes;
              wish = o.mark;
              led = led_new k.sender k.part k.goes k.moved;
            };
            lower = (follows k.sender k.part k.goes k.moved).lower;
            units = units_next;
          }

    -- what is sent for a request is such a Resv, or a ResvConf
    pub new_for : (z : Item) (b : Bool) → In (z, b) (sent q (Deliver 0) u) → IsConf z ⊎ IsOnwardFor z
    new_for z b sends =
        let c = (what_is_sent_is_copied q (Deliver 0) u (z, b)).0 sends in
        let arrival : z.arrival ≡ Spelt c.send.message = ap (λ (w : Item × Bool). w.0.arrival) c.is in
        let dst : z.dst ≡ c.send.dst = ap (λ (w : Item × Bool). w.0.dst) c.is in
        ⊎_elim
        (λ (k : outcome q (Deliver 0) u c.node c.facts ≡ still c.facts). absurd (subst (λ (w : Outcome). In c.send w.sent) k c.sent))
        (λ (t : Turns q (Deliver 0) u c.node c.facts).
        let d = came_by_delivery q 0 u r.paths.bounds c.node t.input t.came in
        let is : d.item ≡ y = of_some d.item y (sym d.arrives ∙ arr) in
        let node : c.node ≡ n = sym d.node ∙ sym (ap node_of_end d.there) ∙ ap (λ (w : Item). node_of u.net.ends w.end) is in
        let facts : c.facts ≡ f = of_some c.facts f (sym c.there ∙ ap (λ (w : ℕ). slice_get u.nodes w) node ∙ there_at) in
        let by : outcome q (Deliver 0) u c.node c.facts ≡ rule p p u.clock (came_resv p i m) f =
        (λ j. outcome q (Deliver 0) u (node j) (facts j)) ∙ (taken_in q s u r y arr m v.says.spelt v.says.session (addr_of u.net e) v.wish).is in
        let among : In c.send (sent_then p p u.clock (came_resv p i m) f) = subst (λ (w : Outcome). In c.send w.sent) by c.sent in
        ⊎_elim
        (λ (k : IsResvTear p p f then (change p u.clock i m f (goal_at u.net (locals_of u) n) (within q s u r y arr m v.says.spelt v.says.session (addr_of u.net e) v.wish)
        (taken_in q s u r y arr m v.says.spelt v.says.session (addr_of u.net e) v.wish).can (addr_of u.net e) v.wish) c.send).
        absurd (no_tear q s u r y arr m v.says.spelt v.says.session (addr_of u.net e) v.wish stays c.send k))
        (λ k. ⊎_elim
        (λ (conf : (conf : ResvConfMsg) × (c.send.message ≡ message.ResvConf conf)). inl (conf.0, arrival ∙ ap Spelt conf.1))
        (λ (o : IsPassedOn p u.clock i m f (goal_at u.net (locals_of u) n) (within q s u r y arr m v.says.spelt v.says.session (addr_of u.net e) v.wish)
        (taken_in q s u r y arr m v.says.spelt v.says.session (addr_of u.net e) v.wish).can (addr_of u.net e) v.wish c.send). inr (onward z b sends c.send arrival dst o)) k)
        (sent_kind p u.clock i m f (goal_at u.net (locals_of u) n) (within q s u r y arr m v.says.spelt v.says.session (addr_of u.net e) v.wish)
        (taken_in q s u r y arr m v.says.spelt v.says.session (addr_of u.net e) v.wish).can (addr_of u.net e) v.wish c.send among))
        (turns q s u r c.node c.facts c.there)

    in_next : (z : Item) (b : Bool) → In (z, b) (sent q (Deliver 0) u) → In z next.flight
    in_next z b sends = in_right z (rest (Deliver 0) u) (each (λ (w : Item × Bool). w.0) (sent q (Deliver 0) u)) (to_each (λ (w : Item × Bool). w.0) (z, b) (sent q (Deliver 0) u) sends)

    -- ---- it is answered over its hop, or goes on over another one
    pub record IsAnsweredIn : Type 0 where
      pub item : Item
      pub flight : In item next.flight
      pub down : IsDownFor next s names flow e item
      pub hop : down.hop ≡ v.hop

    pub record GoesOnIn : Type 0 where
      pub item : Item
      pub flight : In item next.flight
      pub onward : IsOnwardFor item

    answer_in : (z : Send) → In z (sent_then p p u.clock (came_resv p i m) f)
        → IsAnswer p u.clock i m f (goal_at u.net (locals_of u) n) (within q s u r y arr m v.says.spelt v.says.session (addr_of u.net e) v.wish)
        (taken_in q s u r y arr m v.says.spelt v.says.session (addr_of u.net e) v.wish).can (addr_of u.net e) v.wish z → IsAnsweredIn
    answer_in z sends k =
        let out : In z (outcome q (Deliver 0) u n f).sent =
        subst (λ (w : Outcome). In z w.sent) (sym (taken_in q s u r y arr m v.says.spelt v.says.session (addr_of u.net e) v.wish).is) sends in
        let down = goes_down q u r.paths.bounds s.group v.sender.addr v.hop v.led.there in
        let goes : In v.hop.to (goes_to u.net (end_at u.net.ends n z.iface) z.dst) =
        subst (λ (w : ℕ × Addr). In v.hop.to (goes_to u.net (end_at u.net.ends n w.0) w.1))
        (λ j. (ap (λ (o : Send). o.iface) (sym k.is) j, (sym v.says.hop ∙ ap (λ (o : Send). o.dst) (sym k.is)) j))
        (subst (λ (w : ℕ). In v.hop.to (goes_to u.net (end_at u.net.ends (node_of u.net.ends w) (iface_of u.net.ends w)) (addr_of u.net v.hop.to))) (sym v.says.end) down) in
        let copy : Item × Bool = copy_to u.made z v.hop.to in
        let one : In copy (sent q (Deliver 0) u) = sent_made q (Deliver 0) u n f copy there_at (copies_made u.net u.made n (outcome q (Deliver 0) u n f).sent z v.hop.to out goes) in
        let t = k.units v.says.unit v.says.asks in
        record {
          item = copy.0;
          flight = in_next copy.0 copy.1 one;
          down = record {
            conf = k.conf;
            says = ap (λ (o : Send). Spelt o.message) k.is;
            session = k.session ∙ v.says.session;
            style = k.style ∙ v.says.style;
            confirm = k.confirm;
            sender = v.sender;
            unit = t.0;
            confirms = t.1;
            is = t.2 ∙ v.says.at;
            hop = v.hop;
            end = refl;
            dst = ap (λ (o : Send). o.dst) k.is ∙ v.says.hop;
            led = led_on v.sender v.hop t.0.flow (record {
              among = v.led.among;
              there = v.led.there;
              covers = subst (λ (w : TokenBucket). IsAtMost flow w) (v.says.flow ∙ sym t.3) v.led.covers;
              hops = v.led.hops;
              leads = v.led.leads;
            });
          };
          hop = refl;
        }

    on_in : GoesOn p p f then (asked p u.clock i m f (goal_at u.net (locals_of u) n) (within q s u r y arr m v.says.spelt v.says.session (addr_of u.net e) v.wish)
        (taken_in q s u r y arr m v.says.spelt v.says.session (addr_of u.net e) v.wish).can (addr_of u.net e) v.wish) → GoesOnIn
    on_in k =
        let l : Lane = k.lane in
        let b' = r'.paths.bounds in
        let paths' = r'.paths.sound in
        let from = (comes_over q s u r y arr m v.says.spelt v.says.session (addr_of u.net e) v.wish l k.there).1 in
        let h : LinkHop = from.way in
        let there = from.previous.there in
        let row = some_row (toward p then l) k.new.some in
        let key : HopKey = record { session = l.session; style = l.style; unit = row.0; from = h.to; to = h.from } in
        let at : slice_get u.nodes (node_of u.net.ends h.to) ≡ Some f = ap (λ (w : ℕ). slice_get u.nodes w) from.previous.node ∙ there_at in
        let lane_is : lane_of u.net key ≡ l = (λ j. record { session = l.session; style = l.style; hop = (from.previous.iface j, from.previous.addr j) }) in
        let whole : toward (config_of q u.net u.trees (node_of u.net.ends h.to)) (outcome q (Deliver 0) u (node_of u.net.ends h.to) f).facts (lane_of u.net key) ≡ toward p then l =
        (λ j. toward (config_of q u.net u.trees (from.previous.node j)) (outcome q (Deliver 0) u (from.previous.node j) f).facts (lane_is j))
        ∙ toward_next q s u r y arr m v.says.spelt v.says.session (addr_of u.net e) v.wish l in
        ⊎_elim
        (λ (same : toward (config_of q u.net u.trees (node_of u.net.ends h.to)) f (lane_of u.net key)
        ≡ toward (config_of q u.net u.trees (node_of u.net.ends h.to)) (outcome q (Deliver 0) u (node_of u.net.ends h.to) f).facts (lane_of u.net key)).
        absurd (k.new.changed ((λ j. toward (config_of q u.net u.trees (sym from.previous.node j)) f (sym lane_is j)) ∙ same ∙ whole)))
        (λ (now : (w : Part) → get (toward (config_of q u.net u.trees (node_of u.net.ends h.to)) (outcome q (Deliver 0) u (node_of u.net.ends h.to) f).facts (lane_of u.net key)) key.unit ≡ Some w
        → IsAskedNow q (Deliver 0) u r.paths.bounds (turns q s u r) b' paths' key there w).
        let o = now row.1 (ap (λ (w : PartTable). get w row.0) whole ∙ row.2) in
        let sends = in_each (λ (w : Item × Bool). w.0) o.item (sent q (Deliver 0) u) o.new in
        let among : In (o.item, sends.0.1) (sent q (Deliver 0) u) = subst (λ (w : Item). In (w, sends.0.1) (sent q (Deliver 0) u)) (sym sends.2) sends.1 in
        ⊎_elim (λ (c : IsConf o.item). let bad : Spelt (message.ResvConf c.0) ≡ Spelt (message.Resv o.says.resv) = sym c.1 ∙ o.says.spelt in absurd (cc))
        (λ (w : IsOnwardFor o.item). record { item = o.item; flight = in_next o.item sends.0.1 among; onward = w })
        (new_for o.item sends.0.1 among))
        (stays_or_asked q (Deliver 0) u r.paths.bounds (turns q s u r) b' paths' key there f at)

    pub up_moves_for : IsAnsweredIn ⊎ GoesOnIn
    up_moves_for =
        ⊎_elim
        (λ (k : (z : Send) × In z (sent_then p p u.clock (came_resv p i m) f)
        × IsAnswer p u.clock i m f (goal_at u.net (locals_of u) n) (within q s u r y arr m v.says.spelt v.says.session (addr_of u.net e) v.wish)
        (taken_in q s u r y arr m v.says.spelt v.says.session (addr_of u.net e) v.wish).can (addr_of u.net e) v.wish z). inl (answer_in k.0 k.1 k.2))
        (λ (k : GoesOn p p f then (asked p u.clock i m f (goal_at u.net (locals_of u) n) (within q s u r y arr m v.says.spelt v.says.session (addr_of u.net e) v.wish)
        (taken_in q s u r y arr m v.says.spelt v.says.session (addr_of u.net e) v.wish).can (addr_of u.net e) v.wish)). inr (on_in k))
        (answered_or_on p u.clock i m f (goal_at u.net (locals_of u) n) (within q s u r y arr m v.says.spelt v.says.session (addr_of u.net e) v.wish)
        (taken_in q s u r y arr m v.says.spelt v.says.session (addr_of u.net e) v.wish).can (addr_of u.net e) v.wish)

  -- ---- all that is in flight after a delivery
  record IsNewIn (z : Item) : Type 0 where
    item : Item
    arrives : slice_get u.flight 0 ≡ Some item
    up : IsUpFor u s names flow e item
    onward : IsOnwardFor item arrives up z

  new_in : (z : Item) (b : Bool) → In (z, b) (sent q (Deliver 0) u) → IsConf z ⊎ IsNewIn z
  new_in z b sends =
      let c = (what_is_sent_is_copied q (Deliver 0) u (z, b)).0 sends in
      ⊎_elim
      (λ (k : outcome q (Deliver 0) u c.node c.facts ≡ still c.facts). absurd (subst (λ (w : Outcome). In c.send w.sent) k c.sent))
      (λ (t : Turns q (Deliver 0) u c.node c.facts).
      let d = came_by_delivery q 0 u r.paths.bounds c.node t.input t.came in
      ⊎_elim
      (λ (v : IsUpFor u s names flow e d.item).
      ⊎_elim (λ (k : IsConf z). inl k) (λ (o : IsOnwardFor d.item d.arrives v z). inr (record { item = d.item; arrives = d.arrives; up = v; onward = o })) (new_for d.item d.arrives v z b sends))
      (λ (k : IsConf d.item). inl (conf_item q s u r d.item d.arrives k z b sends))
      (a.each d.item (in_arrived (Deliver 0) u d.item d.arrives)))
      (turns q s u r c.node c.facts c.there)

  abbrev new : List Item
  new = each (λ (w : Item × Bool). w.0) (sent q (Deliver 0) u)

  each_next : (z : Item) → In z next.flight → IsUpFor next s names flow e z ⊎ IsConf z
  each_next z i =
      ⊎_elim
      (λ (old : In z u.flight). ⊎_elim (λ (v : IsUpFor u s names flow e z). inl (up_on z v)) (λ (k : IsConf z). inr k) (a.each z old))
      (λ (fresh : (b : Bool) × In (z, b) (sent q (Deliver 0) u)). ⊎_elim (λ (k : IsConf z). inr k) (λ (k : IsNewIn z). inl k.onward.up) (new_in z fresh.0 fresh.1))
      (in_flight_after q (Deliver 0) u z refl i)

  -- what was in flight behind the first
  climbs_old : (x : Sender) (h : LinkHop) (xs ws : List Item) (z : Item) (v : Part) → In h (hops_of u.net.hops s.group) → remove u.flight 0 ≡ xs ++ z ∷ ws
      → SaysResv u.net (resv_key u.net (key_of s x h)) z v → IsLed next s names flow e x h v.flow ⊎ StandsOver next s x h v xs
  climbs_old x h xs ws z v hop is says = by (slice_get u.flight 0) refl
    where
      by : (o : Option Item) → slice_get u.flight 0 ≡ o → IsLed next s names flow e x h v.flow ⊎ StandsOver next s x h v xs
      by None none = absurd (no_split xs ws z (sym (nothing_left u.flight none) ∙ is))
      by (Some y) arr =
          ⊎_elim (λ (l : IsLed u s names flow e x h v.flow). inl (led_on x h v.flow l))
          (λ (c : StandsOver u s x h v (y ∷ xs)).
          inr (
            kept_on x h hop v c.0 (λ w arrives l. c.1 w (inl (of_some w y (sym arrives ∙ arr))) l),
            λ w j l. c.1 w (inr j) l,
          ))
          (a.climbs x h (y ∷ xs) ws z v hop (front_of u.flight y arr ∙ ap (λ (ys : List Item). y ∷ ys) is) says)

  climbs_new : (x : Sender) (h : LinkHop) (xs zs ws : List Item) (z : Item) (v : Part) → In h (hops_of u.net.hops s.group) → xs ≡ remove u.flight 0 ++ ws → new ≡ ws ++ z ∷ zs
      → SaysResv u.net (resv_key u.net (key_of s x h)) z v → IsLed next s names flow e x h v.flow ⊎ StandsOver next s x h v xs
  climbs_new x h xs zs ws z v hop front is says =
      let fresh : In z new = subst (λ (ys : List Item). In z ys) (sym is) (in_right z ws (z ∷ zs) (inl refl)) in
      let t = in_each (λ (w : Item × Bool). w.0) z (sent q (Deliver 0) u) fresh in
      ⊎_elim (λ (k : IsConf z). let bad : Spelt (message.ResvConf k.0) ≡ Spelt (message.Resv says.resv) = sym k.1 ∙ says.spelt in absurd (cc))
      (λ (k : IsNewIn z).
      ⊎_elim (λ (l : IsLed next s names flow e x h v.flow). inl l)
      (λ (c : StandsOver next s x h v next.flight).
      inr (
        c.0,
        λ w j l. c.1 w
            (⊎_elim (λ (old : In w (remove u.flight 0)). in_left w (remove u.flight 0) new old)
            (λ (more : In w ws). in_right w (remove u.flight 0) new (subst (λ (ys : List Item). In w ys) (sym is) (in_left w ws (z ∷ zs) more)))
            (in_append w (remove u.flight 0) ws (subst (λ (ys : List Item). In w ys) front j))) l,
      ))
      (k.onward.units x h v hop says))
      (new_in z t.0.1 (subst (λ (w : Item). In (w, t.0.1) (sent q (Deliver 0) u)) (sym t.2) t.1))

  pub rising_next : IsRising q s names flow e next
  rising_next = record {
    reserving = r';
    each = each_next;
    climbs = λ x h xs zs z v hop is says.
        ⊎_elim (λ (l : (ws : List Item) × (remove u.flight 0 ≡ xs ++ z ∷ ws)). climbs_old x h xs l.0 z v hop l.1 says)
        (λ (l : (ws : List Item) × (xs ≡ remove u.flight 0 ++ ws) × (new ≡ ws ++ z ∷ zs)). climbs_new x h xs zs l.0 z v hop l.1 l.2 says)
        (split_append (remove u.flight 0) new xs zs z is);
  }
