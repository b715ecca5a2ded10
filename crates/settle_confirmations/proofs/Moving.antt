-- Requests on their way: what one delivery makes of them, where the session has one sender.
use Rattle.std.proofs.Common.{◌≡◌, ℕ, ◌+◌, ◌<◌, List, [], ◌∷◌, length, true, false, Option, Some, ◌⊎◌, ⊎_elim, arith, sym, refl, ap, subst, ◌∙◌}
use Rattle.std.specs.Prelude.{slice_get}
use Rattle.std.specs.Ordering.{eq_by_cmp}
use Rattle.rsvp_base.specs.declared.addr.Addr.{Addr}
use Rattle.rsvp_base.specs.declared.part.Part.{Part}
use Rattle.rsvp_base.specs.declared.session.Sender.{Sender}
use Rattle.rsvp_base.specs.declared.session.Session.{Session}
use Rattle.rsvp_base.specs.declared.style.StyleKind.{StyleKind}
use Rattle.rsvp_base.specs.declared.style.Unit.{Unit as UnitOf}
use Rattle.rsvp_base.specs.Members.{In}
use Rattle.rsvp_base.specs.Orders.{Names}
use Rattle.rsvp_base.specs.Styles.{name_of}
use Rattle.rsvp_base.specs.Table.{get, has}
use Rattle.rsvp_base.proofs.SetLaws.{and_both}
use Rattle.rsvp_base.proofs.Tables.{either, tied_same}
use Rattle.rsvp_messages.specs.declared.message.Message.TheVariants as message
use Rattle.rsvp_messages.specs.declared.message.ResvConfMsg.{ResvConfMsg}
use Rattle.rsvp_messages.specs.declared.message.ResvMsg.{ResvMsg}
use Rattle.rsvp_messages.specs.Units.{ask_style}
use Rattle.style_rules.specs.CutLaws.{name_some}
use Rattle.style_rules.specs.Lines.{LineKey, NextHop, next_hops}
use Rattle.style_rules.specs.PartLaws.{part_at_most_told}
use Rattle.laws_bounds.proofs.Knowing.{known_and_via}
use Rattle.laws_bounds.proofs.Lists.{one_name}
use Rattle.laws_bounds.proofs.Tests.{ties}
use Rattle.laws_steps.specs.AcceptingLaws.{CanBeTaken, came_resv}
use Rattle.laws_steps.specs.ReservationLaws.{Touches}
use Rattle.laws_steps.proofs.Admitting.{what_is_accepted}
use Rattle.laws_steps.proofs.Asking.{what_keeps_a_reservation_fact}
use Rattle.router_rules.specs.Confirming.{speaks_of}
use Rattle.router_rules.specs.Facts.{Facts, ResvState, resvs_of}
use Rattle.router_rules.specs.Inputs.{Arrival, Came, Input, Spelt}
use Rattle.router_rules.specs.Known.{known, named_as}
use Rattle.router_rules.specs.NodeConfig.{NodeConfig, own}
use Rattle.router_rules.specs.Rule.{Outcome, rule}
use Rattle.router_rules.specs.Steps.{facts_then, node_step}
use Rattle.tree_model.specs.declared.hops.End.{End}
use Rattle.tree_model.specs.declared.hops.LinkHop.{LinkHop}
use Rattle.tree_model.specs.Goals.{addr_of, addr_of_end}
use Rattle.tree_model.specs.Networks.{Net, end_at, iface_of, node_of}
use Rattle.tree_model.specs.Ranks.{rank}
use Rattle.tree_model.specs.Trees.{hops_of, outward, tree}
use Rattle.tree_model.proofs.Following.{has_hop_in, tree_group}
use Rattle.tree_model.proofs.Ifaces.{interfaces_are_ends}
use Rattle.tree_model.proofs.Links.{hop_linked}
use Rattle.tree_model.proofs.TreeLaws.{out_tested, the_root_has_no_inward}
use Rattle.tree_model.proofs.WantLaws.{name_told, want_names}
use Rattle.network_model.specs.Bounds.{AreBounds}
use Rattle.network_model.specs.Links.{goes_to, is_group}
use Rattle.network_model.specs.Locals.{locals_of}
use Rattle.network_model.specs.Sound.{IsSoundPart}
use Rattle.network_model.specs.Steps.{Deliver, input_at, outcome, step, still}
use Rattle.network_model.specs.Worlds.{Item, World, config_of}
use Rattle.network_model.proofs.Changing.{where_a_send_goes}
use Rattle.network_model.proofs.Machines.{in_arrived}
use Rattle.network_model.proofs.NodeLocals.{live_told}
use Rattle.network_model.proofs.Quiet.{outcome_by}
use Rattle.network_model.proofs.Stepping.{facts_after_made}
use Rattle.laws_network.specs.Known.{IsKnown}
use Rattle.laws_network.proofs.Known.{came_there, end_found, node_there}
use Rattle.laws_network.proofs.Standing.{own_end, some_at, from_there, to_there}
use Rattle.settle_paths.proofs.PreviousHops.{ends_there, previous_hops_are_all_hops, same_by_addr}
use Rattle.settle_resvs.specs.GoalByIface.{goal_at}
use Rattle.settle_resvs.specs.Said.{HopKey, resv_key}
use Rattle.settle_resvs.specs.SoftResvs.{line_key_of, resv_at}
use Rattle.settle_resvs.proofs.Accepting.{can_be_taken}
use Rattle.settle_resvs.proofs.SoftResvs.{resv_found, resv_made}
use Rattle.settle_passes.specs.Reserving.{IsReserving}
use Rattle.settle_passes.proofs.Deliveries.{came_by_delivery, known_self, known_stays, live_back, tear_of_none}
use Rattle.settle_passes.proofs.Reserving.{ready, reserving_next, turns}
use Rattle.settle_passes.proofs.Turns.{Turns}
use Rattle.settle_confirmations.specs.Requests.{IsOnlySender}
use Rattle.settle_confirmations.proofs.Taken.{kept_mark, some_unit}

-- ---- marks
abbrev pub key_over : Session → StyleKind → LinkHop → UnitOf → HopKey
key_over s st h u = record { session = s; style = st; unit = u; from = h.to; to = h.from }

-- a reservation for the hop is kept at the node that it goes out of, and is to be confirmed to the address
pub record IsMarked (w : World) (s : Session) (st : StyleKind) (a : Addr) (h : LinkHop) : Type 0 where
  pub unit : UnitOf
  pub resv : ResvState
  pub there : resv_at w (node_of w.net.ends h.from) st (line_key_of w.net (resv_key w.net (key_over s st h unit))) ≡ Some resv
  pub wish : resv.confirm ≡ Some a

-- the second hop follows the first in the sender's tree
pub record IsNext (net : Net) (s : Session) (x : Sender) (h h' : LinkHop) : Type 0 where
  pub there : In h' (tree net.hops s.group x.addr)
  pub meet : node_of net.ends h'.from ≡ node_of net.ends h.to
  pub lower : rank net s.group h' < rank net s.group h

-- marks lead from behind the hop down to the end that asked
abbrev pub Leads : World → Session → StyleKind → Sender → ℕ → List LinkHop → LinkHop → Type 0
Leads w s st x e [] h = h.to ≡ e
Leads w s st x e (h' ∷ hs) h = IsNext w.net s x h h' × IsMarked w s st (addr_of w.net e) h' × Leads w s st x e hs h'

-- a request that goes up, over a hop from which marks lead down
pub record IsUp (w : World) (s : Session) (st : StyleKind) (x : Sender) (e : ℕ) (y : Item) : Type 0 where
  pub resv : ResvMsg
  pub says : y.arrival ≡ Spelt (message.Resv resv)
  pub session : resv.session ≡ s
  pub style : ask_style resv.ask ≡ st
  pub wish : resv.confirm ≡ Some (addr_of w.net e)
  pub hop : LinkHop
  pub there : In hop (tree w.net.hops s.group x.addr)
  pub from : hop.from ≡ y.end
  pub to : addr_of w.net hop.to ≡ resv.hop.addr
  pub hops : List LinkHop
  pub leads : Leads w s st x e hops hop

-- its answer, which goes down by them
pub record IsDown (w : World) (s : Session) (st : StyleKind) (x : Sender) (e : ℕ) (y : Item) : Type 0 where
  pub conf : ResvConfMsg
  pub says : y.arrival ≡ Spelt (message.ResvConf conf)
  pub session : conf.session ≡ s
  pub style : ask_style conf.ask ≡ st
  pub confirm : conf.confirm ≡ addr_of w.net e
  pub speaks : (ns : Names) → has ns (name_of st x) ≡ true → speaks_of conf.ask ns ≡ true
  pub hop : LinkHop
  pub there : In hop (tree w.net.hops s.group x.addr)
  pub end : y.end ≡ hop.to
  pub dst : y.dst ≡ addr_of w.net hop.to
  pub hops : List LinkHop
  pub leads : Leads w s st x e hops hop

abbrev pub IsConf : Item → Type 0
IsConf y = (m : ResvConfMsg) × (y.arrival ≡ Spelt (message.ResvConf m))

-- a network that reserves, in which the session has one sender, and all that is in flight are requests of the end, and answers
pub record IsAsking (q : ℕ) (s : Session) (st : StyleKind) (x : Sender) (e : ℕ) (w : World) : Type 0 where
  pub reserving : IsReserving q s w
  pub only : IsOnlySender w s x
  pub each : (y : Item) → In y w.flight → IsUp w s st x e y ⊎ IsConf y

-- ---- the parts of a session with one sender
module _ (w : World) (s : Session) (x : Sender) (only : IsOnlySender w s x) (st : StyleKind) (e : ℕ) (next : Addr) (u : UnitOf) (p : Part) (sound : IsSoundPart st w s e next u p) where
  -- each name is the sender's
  pub one_listed : (y : Sender) → has p.senders y ≡ true → (y ≡ name_of st x) × In sound.hop (tree w.net.hops s.group x.addr)
  one_listed y h =
      let up = part_at_most_told p sound.wanted sound.below in
      let a = name_told st w.net (locals_of w) s (sound.hop ∷ []) y (want_names st w.net (locals_of w) s sound.hop u sound.wanted sound.is y (up.names y h)) in
      let l = live_told w s a.0 a.1 in
      let is : a.0 ≡ x = only a.0 l.0 l.1 in (
        a.3 ∙ ap (name_of st) is,
        subst (λ (z : Sender). In sound.hop (tree w.net.hops s.group z.addr)) is (has_hop_in (tree w.net.hops s.group a.0.addr) sound.hop (and_both _ _ a.2).0),
      )

  pub listed_one : has p.senders (name_of st x) ≡ true
  listed_one =
      let some = one_name p.senders (name_some p.senders sound.some) in subst (λ (z : Sender). has p.senders z ≡ true) (one_listed some.0 some.1).0 some.1

  pub in_tree : In sound.hop (tree w.net.hops s.group x.addr)
  in_tree = (one_listed (name_of st x) listed_one).1

-- ---- what goes back over a hop of a tree, to the end behind it
pub host : (q : ℕ) (w : World) → AreBounds q w → (e : ℕ) → e < length w.net.ends → is_group (addr_of w.net e) ≡ false
host q w bounds e lt = let z = some_at w.net.ends e lt in ap (λ (o : Option End). is_group (addr_of_end o)) z.1 ∙ bounds.hosts e z.0 z.1

pub goes_down : (q : ℕ) (w : World) → AreBounds q w → (g a : Addr) (h : LinkHop) → In h (tree w.net.hops g a)
    → In h.to (goes_to w.net (end_at w.net.ends (node_of w.net.ends h.from) (iface_of w.net.ends h.from)) (addr_of w.net h.to))
goes_down q w bounds g a h there =
    let from = from_there w.net bounds.net g a h there in
    let to = to_there w.net bounds.net g a h there in
    let end = (interfaces_are_ends w.net).end_of_iface h.from from in
    let peer = hop_linked w.net bounds.net g a h there in
    subst (λ (z : Option ℕ). In h.to (goes_to w.net z (addr_of w.net h.to))) (sym end)
    (((where_a_send_goes w.net h.from (addr_of w.net h.to)).one (host q w bounds h.to to) h.to peer refl h.to).1 (peer, refl))

-- ---- one delivery
module _ (q : ℕ) (s : Session) (st : StyleKind) (x : Sender) (e : ℕ) (u : World) (a : IsAsking q s st x e u) where
  abbrev pub left : World
  left = step q (Deliver 0) u

  pub r : IsReserving q s u
  r = a.reserving

  pub bounds : AreBounds q u
  bounds = a.reserving.paths.bounds

  pub r' : IsReserving q s left
  r' = reserving_next q s u a.reserving

  self : IsKnown q u u
  self = known_self q u a.reserving.paths.bounds

  abbrev pub place : ℕ → NodeConfig
  place n = config_of q u.net u.trees n

  pub only' : IsOnlySender left s x
  only' y t l = a.only y t (live_back q 0 u bounds (s, y) t l)

  pub group_hop : (h : LinkHop) → In h (tree u.net.hops s.group x.addr) → In h (hops_of u.net.hops s.group)
  group_hop h i = tree_group u.net.hops s.group x.addr h i

  -- a reservation that nothing touches stays
  pub untouched : (n : ℕ) (f : Facts) → slice_get u.nodes n ≡ Some f → (h : Turns q (Deliver 0) u n f) → (k : StyleKind) (key : LineKey) (v : ResvState) → get (resvs_of k f) key ≡ Some v
      → (Touches h.input k key v → ⊥) → get (resvs_of k (outcome q (Deliver 0) u n f).facts) key ≡ Some v
  untouched n f at h k key v there none =
      let now : u.clock + 0 ≡ u.clock = omega arith in
      let sound = r.sound.facts k n f key v at there in
      let of = (interfaces_are_ends u.net).iface_of_end n key.1.0.0 sound.end sound.at in
      let up = part_at_most_told v.part sound.sound.wanted sound.sound.below in
      let same : (outcome q (Deliver 0) u n f).facts ≡ facts_then (place n) (place n) (u.clock + 0) h.input f = ap (λ (o : Outcome). o.facts) h.is in
      let lives : u.clock + 0 < v.dies = subst (λ (z : ℕ). z < v.dies) (sym now) ((bounds.facts n f at).alive.resvs k key v there).later in
      let names : (z : Sender) → has v.part.senders z ≡ true → has (named_as k (known (facts_then (place n) (place n) (u.clock + 0) h.input f) key.0)) z ≡ true =
      (λ z i.
      let b = name_told k u.net (locals_of u) key.0 (sound.sound.hop ∷ []) z (want_names k u.net (locals_of u) key.0 sound.sound.hop key.1.1 sound.sound.wanted sound.sound.is z (up.names z i)) in
      let hop = has_hop_in (tree u.net.hops key.0.group b.0.addr) sound.sound.hop (and_both _ _ b.2).0 in
      let leaves : In sound.sound.hop.from (outward u.net n key.0.group b.0.addr) =
      out_tested u.net n sound.sound.hop.from key.0.group b.0.addr (sound.sound.hop, hop, refl, ap (node_of u.net.ends) sound.sound.from ∙ of.1) in
      let reaches = (the_root_has_no_inward u.net bounds.net).entered n sound.sound.hop.from key.0.group b.0.addr leaves in
      let knows : has (known f key.0) b.0 ≡ true = ((previous_hops_are_all_hops u bounds.net r.paths.hosts r.paths.sound r.paths.complete).known n f key.0 b.0 at).1 (b.1, reaches) in
      let then_knows : has (known (facts_then (place n) (place n) (u.clock + 0) h.input f) key.0) b.0 ≡ true =
      ap (λ (w : Facts). has (known w key.0) b.0) (sym same)
      ∙ known_stays q 0 u bounds n f (outcome q (Deliver 0) u n f).facts (key.0, b.0) (tear_of_none u r.paths.no_tear (key.0, b.0)) at (facts_after_made q (Deliver 0) u n f at) knows in
      (known_and_via.named_by k (known (facts_then (place n) (place n) (u.clock + 0) h.input f) key.0) z).1
      (record { sender = b.0; among = then_knows; passes = refl; name = b.3 })) in
      ap (λ (w : Facts). get (resvs_of k w) key) same
      ∙ what_keeps_a_reservation_fact.whole (node_step (place n) (place n) u.clock (u.clock + 0) h.input f) (bounds.facts n f at) k key v there lives none names

  -- ---- a request that arrives
  pub record IsTakenAt (y : Item) (m : ResvMsg) : Type 0 where
    pub facts : Facts
    pub node : slice_get u.nodes (node_of u.net.ends y.end) ≡ Some facts
    pub can : CanBeTaken (place (node_of u.net.ends y.end)) u.clock (iface_of u.net.ends y.end) m facts (goal_at u.net (locals_of u) (node_of u.net.ends y.end))
    pub came : input_at (Deliver 0) u (node_of u.net.ends y.end) ≡ Some (came_resv (place (node_of u.net.ends y.end)) (iface_of u.net.ends y.end) m)
    pub is : outcome q (Deliver 0) u (node_of u.net.ends y.end) facts
        ≡ rule (place (node_of u.net.ends y.end)) (place (node_of u.net.ends y.end)) u.clock (came_resv (place (node_of u.net.ends y.end)) (iface_of u.net.ends y.end) m) facts

  pub taken_at : (y : Item) → slice_get u.flight 0 ≡ Some y → (v : IsUp u s st x e y) → IsTakenAt y v.resv
  taken_at y arr v =
      let n : ℕ = node_of u.net.ends y.end in
      let i : ℕ = iface_of u.net.ends y.end in
      let flies = in_arrived (Deliver 0) u y arr in
      let lt : y.end < length u.net.ends = (bounds.flight y flies).end in
      let f = node_there q u bounds.net u y.end self lt in
      let end : end_at u.net.ends n i ≡ Some y.end = (interfaces_are_ends u.net).end_of_iface y.end lt in
      let dst : y.dst ≡ own (place n) i = r.addressed y v.resv flies v.says ∙ sym (own_end q u.net u.trees n i y.end end) in
      let came : input_at (Deliver 0) u n ≡ Some (came_resv (place n) i v.resv) = came_there q u u self y.end lt (Deliver 0) y arr refl ∙ (λ j. Some (Came i (dst j) (v.says j))) in
      let now : u.clock + 0 ≡ u.clock = omega arith in
      record {
        facts = f.0;
        node = f.1;
        can = can_be_taken q s u (ready q s u r) y v.resv flies v.says v.session f.0 f.1;
        came = came;
        is = outcome_by q (Deliver 0) u n f.0 (came_resv (place n) i v.resv) refl came ∙ ap (λ (z : ℕ). rule (place n) (place n) z (came_resv (place n) i v.resv) f.0) now;
      }

  -- its mark is kept
  pub arrived_mark : (y : Item) → slice_get u.flight 0 ≡ Some y → (v : IsUp u s st x e y) → IsMarked left s st (addr_of u.net e) v.hop
  arrived_mark y arr v =
      let t = taken_at y arr v in
      let n : ℕ = node_of u.net.ends y.end in
      let i : ℕ = iface_of u.net.ends y.end in
      let gs = goal_at u.net (locals_of u) n in
      let within = bounds.facts n t.facts t.node in
      let unit = some_unit v.resv.ask t.can.proper in
      let placed = t.can.units unit.0 unit.1 in
      let d = (what_is_accepted.whole (place n) (place n) u.clock u.clock i v.resv t.facts gs within t.can).facts unit.0 placed.names unit.1 placed.listed in
      let g : Facts = (outcome q (Deliver 0) u n t.facts).facts in
      let after_it : slice_get left.nodes n ≡ Some g = facts_after_made q (Deliver 0) u n t.facts t.node in
      let is : g ≡ facts_then (place n) (place n) u.clock (came_resv (place n) i v.resv) t.facts = ap (λ (o : Outcome). o.facts) t.is in
      record {
        unit = unit.0.unit;
        resv = d.0;
        there = ap (λ (z : ℕ). resv_at left (node_of u.net.ends z) st (s, ((iface_of u.net.ends z, addr_of u.net v.hop.to), unit.0.unit))) v.from
            ∙ resv_made left n st (s, ((i, addr_of u.net v.hop.to), unit.0.unit)) g after_it
            ∙ (λ j. get (resvs_of (sym v.style j) (is j)) (sym v.session j, ((i, v.to j), unit.0.unit))) ∙ d.1;
        wish = kept_mark (place n) u.clock i v.resv t.facts gs within t.can (addr_of u.net e) v.wish unit.0 unit.1 d.0 d.1;
      }

  -- and so are those that are there
  pub mark_next : (h : LinkHop) → In h (tree u.net.hops s.group x.addr) → IsMarked u s st (addr_of u.net e) h → IsMarked left s st (addr_of u.net e) h
  mark_next h there k =
      let n : ℕ = node_of u.net.ends h.from in
      let key : LineKey = (s, ((iface_of u.net.ends h.from, addr_of u.net h.to), k.unit)) in
      let f = resv_found u n st key k.resv k.there in
      let inside = ends_there u.net bounds.net s.group h (group_hop h there) in
      let g : Facts = (outcome q (Deliver 0) u n f.0).facts in
      let after_it : slice_get left.nodes n ≡ Some g = facts_after_made q (Deliver 0) u n f.0 f.1 in
      let ends : get (resvs_of st g) key ≡ Some k.resv → IsMarked left s st (addr_of u.net e) h =
      (λ z. record { unit = k.unit; resv = k.resv; there = resv_made left n st key g after_it ∙ z; wish = k.wish }) in
      ⊎_elim (λ (z : outcome q (Deliver 0) u n f.0 ≡ still f.0). ends (ap (λ (o : Outcome). get (resvs_of st o.facts) key) z ∙ f.2))
      (λ (t : Turns q (Deliver 0) u n f.0).
      let c = came_by_delivery q 0 u bounds n t.input t.came in
      ⊎_elim
      (λ (v : IsUp u s st x e c.item).
      let input : t.input ≡ Came (iface_of u.net.ends c.item.end) c.item.dst (Spelt (message.Resv v.resv)) = c.is ∙ ap (λ (z : Arrival). Came (iface_of u.net.ends c.item.end) c.item.dst z) v.says in
      either (eq_by_cmp next_hops.cmp (iface_of u.net.ends c.item.end, v.resv.hop.addr) (iface_of u.net.ends h.from, addr_of u.net h.to))
      (λ tied.
      let same = tied_same next_hops (iface_of u.net.ends c.item.end, v.resv.hop.addr) (iface_of u.net.ends h.from, addr_of u.net h.to) tied in
      let end : c.item.end ≡ h.from = end_found q u u self h.from inside.0 (Deliver 0) t.input c (ap (λ (z : NextHop). z.0) same) in
      let theirs = ends_there u.net bounds.net s.group v.hop (group_hop v.hop v.there) in
      let to : v.hop.to ≡ h.to = same_by_addr u.net bounds.net v.hop.to h.to theirs.1 inside.1 (v.to ∙ ap (λ (z : NextHop). z.1) same) in
      let hop : v.hop ≡ h = (λ j. record { from = (v.from ∙ end) j; to = to j }) in
      subst (λ (z : LinkHop). IsMarked left s st (addr_of u.net e) z) hop (arrived_mark c.item c.arrives v))
      (λ apart. ends (untouched n f.0 f.1 t st key k.resv f.2 (λ touch.
      let by = subst (λ (z : Input). Touches z st key k.resv) input touch in
      let same : ◌≡◌ {A = NextHop} (iface_of u.net.ends c.item.end, v.resv.hop.addr) (iface_of u.net.ends h.from, addr_of u.net h.to) = (λ j. (by.1 j, by.2 j)) in
      let bad : true ≡ false = sym (ties next_hops (iface_of u.net.ends c.item.end, v.resv.hop.addr) (iface_of u.net.ends h.from, addr_of u.net h.to) same) ∙ apart in
      cc))))
      (λ (v : IsConf c.item).
      let input : t.input ≡ Came (iface_of u.net.ends c.item.end) c.item.dst (Spelt (message.ResvConf v.0)) = c.is ∙ ap (λ (z : Arrival). Came (iface_of u.net.ends c.item.end) c.item.dst z) v.1 in
      ends (untouched n f.0 f.1 t st key k.resv f.2 (λ touch. subst (λ (z : Input). Touches z st key k.resv) input touch)))
      (a.each c.item (in_arrived (Deliver 0) u c.item c.arrives)))
      (turns q s u r n f.0 f.1)

  pub leads_next : (hs : List LinkHop) (h : LinkHop) → Leads u s st x e hs h → Leads left s st x e hs h
  leads_next [] h l = l
  leads_next (h' ∷ hs) h l = (l.0, mark_next h' l.0.there l.1, leads_next hs h' l.2)

  abbrev pub up_next : (y : Item) → IsUp u s st x e y → IsUp left s st x e y
  up_next y v = record {
    resv = v.resv;
    says = v.says;
    session = v.session;
    style = v.style;
    wish = v.wish;
    hop = v.hop;
    there = v.there;
    from = v.from;
    to = v.to;
    hops = v.hops;
    leads = leads_next v.hops v.hop v.leads;
  }

  abbrev pub down_next : (y : Item) → IsDown u s st x e y → IsDown left s st x e y
  down_next y d = record {
    conf = d.conf;
    says = d.says;
    session = d.session;
    style = d.style;
    confirm = d.confirm;
    speaks = d.speaks;
    hop = d.hop;
    there = d.there;
    end = d.end;
    dst = d.dst;
    hops = d.hops;
    leads = leads_next d.hops d.hop d.leads;
  }
