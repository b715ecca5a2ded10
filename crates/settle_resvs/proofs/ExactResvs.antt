-- Reservations of a session are the wants: two rounds for each rank, that is by the longest chain that begins with the hop.
use Rattle.std.proofs.Common.{◌≡◌, ℕ, zero, suc, ◌+◌, ◌*◌, ◌<◌, ◌≤◌, List, [], ◌∷◌, length, Bool, true, false, Option, None, Some, ⊎_elim, arith, sym, refl, ap, subst, ◌∙◌}
use Rattle.std.specs.Prelude.{slice_get, is_some, not}
use Rattle.rsvp_base.specs.declared.addr.Addr.{Addr}
use Rattle.rsvp_base.specs.declared.part.Part.{Part}
use Rattle.rsvp_base.specs.declared.session.Sender.{Sender}
use Rattle.rsvp_base.specs.declared.session.Session.{Session}
use Rattle.rsvp_base.specs.declared.style.StyleKind.{StyleKind}
use Rattle.rsvp_base.specs.declared.style.Unit.{Unit as UnitOf}
use Rattle.rsvp_base.specs.Members.{In}
use Rattle.rsvp_base.specs.Orders.{Names}
use Rattle.rsvp_base.specs.Table.{get, has}
use Rattle.rsvp_base.proofs.SetLaws.{and_both}
use Rattle.rsvp_messages.specs.declared.ask.Ask.{Ask}
use Rattle.rsvp_messages.specs.declared.message.Message.TheVariants as message
use Rattle.rsvp_messages.specs.declared.message.ResvMsg.{ResvMsg}
use Rattle.rsvp_messages.specs.declared.message.ResvTearMsg.{ResvTearMsg}
use Rattle.rsvp_messages.specs.Units.{AskedUnit, ask_style, tear_style}
use Rattle.style_rules.specs.CutLaws.{name_some}
use Rattle.style_rules.specs.Merge.{PartTable}
use Rattle.style_rules.specs.PartLaws.{part_at_most_told, same_part}
use Rattle.calm_rounds.specs.Hold.{Hold}
use Rattle.calm_rounds.specs.SoftStates.{Stands}
use Rattle.calm_rounds.specs.Rounds.{Rounds}
use Rattle.calm_rounds.proofs.Holding.{hold_map, hold_both, hold_all, hold_later, hold_start, hold_stack, hold_keep}
use Rattle.laws_bounds.specs.SendLaws.{IsAskedOf}
use Rattle.laws_bounds.proofs.Asks.{nothing_asked, units_told}
use Rattle.laws_bounds.proofs.Knowing.{known_and_via}
use Rattle.laws_steps.specs.AcceptingLaws.{CanBeTaken}
use Rattle.laws_steps.proofs.Admitting.{what_is_accepted}
use Rattle.laws_steps.proofs.Hopward.{why_a_resv_tear_is_sent}
use Rattle.router_rules.specs.Asking.{ask_of}
use Rattle.router_rules.specs.Facts.{Facts, ResvState, resvs_of}
use Rattle.router_rules.specs.Inputs.{Came, Spelt}
use Rattle.router_rules.specs.Known.{Lane, known, named_as}
use Rattle.router_rules.specs.NodeConfig.{NodeConfig, own}
use Rattle.router_rules.specs.Requests.{toward}
use Rattle.router_rules.specs.Rule.{Outcome}
use Rattle.router_rules.specs.Steps.{facts_then, node_step}
use Rattle.tree_model.specs.declared.hops.End.{End}
use Rattle.tree_model.specs.declared.hops.LinkHop.{LinkHop}
use Rattle.tree_model.specs.Goals.{addr_of, addr_of_end}
use Rattle.tree_model.specs.Networks.{Net, node_of, end_at, iface_of, peers}
use Rattle.tree_model.specs.Ranks.{longest, rank}
use Rattle.tree_model.specs.Trees.{hops_of, outward, tree}
use Rattle.tree_model.specs.Valid.{IsValid}
use Rattle.tree_model.specs.Wants.{Locals, names, want}
use Rattle.tree_model.proofs.Following.{follower_of_group, has_hop_in}
use Rattle.tree_model.proofs.Ifaces.{interfaces_are_ends}
use Rattle.tree_model.proofs.Links.{hop_linked, peers_both}
use Rattle.tree_model.proofs.RankLaws.{rank_falls, rank_falls_at, rank_some}
use Rattle.tree_model.proofs.TreeLaws.{out_tested, the_root_has_no_inward}
use Rattle.tree_model.proofs.WantLaws.{name_told, want_names}
use Rattle.network_model.specs.Bounds.{AreBounds, AreHosts}
use Rattle.network_model.specs.Links.{goes_to, is_group}
use Rattle.network_model.specs.Locals.{locals_of}
use Rattle.network_model.specs.Sound.{IsExact, ArePathsSound}
use Rattle.network_model.specs.Steps.{Step, is_quiet, ms_of, sent, step, machine}
use Rattle.network_model.specs.Worlds.{Item, World, config_of}
use Rattle.network_model.proofs.Changing.{where_a_send_goes}
use Rattle.network_model.proofs.Machines.{quiet_of, in_flight_after}
use Rattle.network_model.proofs.Quiet.{net_quiet}
use Rattle.network_model.proofs.Stepping.{facts_after_made}
use Rattle.settle_paths.specs.Known.{IsKnown}
use Rattle.settle_paths.proofs.Known.{of_some, known_hold, node_there}
use Rattle.settle_paths.proofs.Sends.{sent_by_rule, goes_to_end}
use Rattle.settle_paths.proofs.Standing.{own_end, same_end, some_at}
use Rattle.settle_resvs.specs.GoalByIface.{goal_at}
use Rattle.settle_paths.specs.PreviousHops.{IsPrevious}
use Rattle.settle_paths.proofs.PreviousHops.{ahead, ends_there, previous_hops_are_all_hops, same_by_addr}
use Rattle.settle_resvs.specs.SoftResvs.{AsksFor, SaysResv, line_key_of, resv_at, soft_resv}
use Rattle.settle_resvs.specs.Said.{HopKey, IsOver, IsSaid, IsKept, lane_of, resv_key}
use Rattle.settle_resvs.proofs.SoftResvs.{resv_found, kept_found}
use Rattle.settle_resvs.proofs.Said.{said_resvs_are_kept}
use Rattle.settle_resvs.specs.Below.{AreSoundBelow}
use Rattle.settle_resvs.specs.Sessions.{AreExactOf, HasNoBlockade, IsFreeOfBlockadesOf, SessionFits}
use Rattle.settle_resvs.proofs.ResvSends.{IsResvSent, over_hop}
use Rattle.settle_resvs.proofs.SoundResvs.{sent_here, firm_hold}
use Rattle.settle_resvs.proofs.SoundUnits.{IsAddressed, addressed}
use Rattle.settle_resvs.proofs.TowardNames.{parts_of_style}
use Rattle.settle_resvs.proofs.Accepting.{IsReady, can_be_taken, IsSettledSoFar, ready_hold}
use Rattle.settle_resvs.proofs.TowardIsTheWant.{toward_is_the_want}

-- ---- ready worlds without blockades of the session, in which Resvs go to the end whose address they are sent to
pub record IsSteady (q : ℕ) (s : Session) (u : World) : Type 0 where
  pub ready : IsReady q s u
  pub free : IsFreeOfBlockadesOf s u
  pub addressed : IsAddressed 0 u

-- reservations are exact over hops from which no chain is longer
abbrev pub AreExactTo : Session → ℕ → World → Type 0
AreExactTo s k u = (st : StyleKind) (h : LinkHop) → In h (hops_of u.net.hops s.group) → rank u.net s.group h ≤ k → IsExact st u s h

-- ---- an end has the address of a host
host_addr : {q : ℕ} {s : Session} (u : World) → IsSteady q s u → (e : ℕ) → e < length u.net.ends → is_group (addr_of u.net e) ≡ false
host_addr u g e lt = let x = some_at u.net.ends e lt in ap (λ (z : Option End). is_group (addr_of_end z)) x.1 ∙ g.ready.bounds.hosts e x.0 x.1

-- ---- what is sound is named and sound below every rank
all_below : (q : ℕ) (which : Session) (u : World) → IsReady q which u → (st : StyleKind) (n : ℕ) (f : Facts) (s : Session) (top : ℕ) → slice_get u.nodes n ≡ Some f → AreSoundBelow st u n f s top
all_below q which u ready st n f s top at = record {
  named = λ k r h same.
      let x = ready.resvs.facts st n f k r at h in
      let p = x.sound in
      let of = (interfaces_are_ends u.net).iface_of_end n k.1.0.0 x.end x.at in
      let up = part_at_most_told r.part p.wanted p.below in
      record {
        some = ap not (name_some r.part.senders p.some);
        hop = p.hop;
        there = p.there;
        node = ap (node_of u.net.ends) p.from ∙ of.1;
        iface = ap (iface_of u.net.ends) p.from ∙ of.2;
        to = p.to;
        names = λ z e. want_names st u.net (locals_of u) k.0 p.hop k.1.1 p.wanted p.is z (up.names z e);
      };
  sound = λ k r named h same low. ready.resvs.facts st n f k r at h;
}

module _ (q : ℕ) (s : Session) (k : ℕ) where
  -- what goes toward a hop of the next rank is its want
  pub toward_at : (u : World) → IsSteady q s u → AreExactTo s k u → (n : ℕ) (f : Facts) → slice_get u.nodes n ≡ Some f → (l : Lane) → l.session ≡ s → (h : LinkHop) → IsPrevious u.net n l.session l.hop h
      → rank u.net l.session.group h ≤ suc k
      → toward (config_of q u.net u.trees n) f l ≡ want l.style u.net (locals_of u) l.session h
  toward_at u g exact n f at l of h is le =
      toward_is_the_want q u g.ready.bounds g.ready.sound g.ready.complete n f at l (subst (λ (z : Session). HasNoBlockade z f.walls) (sym of) (g.free n f at)) h is
      (all_below q s u g.ready l.style n f l.session (rank u.net l.session.group h) at)
      (λ h' follows i.
      let falls = rank_falls_at u.net g.ready.bounds.net.loop_free l.session.group h h' follows in
      let near : rank u.net l.session.group h' ≤ k = omega (arith, falls, le) in
      subst (λ (z : Session). IsExact l.style u z h') (sym of)
      (exact l.style h' (subst (λ (z : Session). In h' (hops_of u.net.hops z.group)) of (follower_of_group u.net l.session.group h h' i))
      (subst (λ (z : Session). rank u.net z.group h' ≤ k) of near)))

  -- ---- one unit over one hop
  module _ (st : StyleKind) (h : LinkHop) (uu : UnitOf) (v : Part) where
    abbrev pub over : HopKey
    over = record { session = s; style = st; unit = uu; from = h.to; to = h.from }

    -- the hop is there, of the next rank at most, and the part is wanted over it
    pub record IsWantedAt (u : World) : Type 0 where
      pub there : In h (hops_of u.net.hops s.group)
      pub near : rank u.net s.group h ≤ suc k
      pub wanted : get (want st u.net (locals_of u) s h) uu ≡ Some v

    abbrev Says : World → Item → Type 0
    Says u y = SaysResv u.net (resv_key u.net over) y v

    abbrev pub AreLetters : ℕ → World → Type 0
    AreLetters b u = (y : Item) (m : ResvMsg) → In y u.flight → b ≤ y.born → y.arrival ≡ Spelt (message.Resv m) → IsOver u.net over y m.session m.hop.addr (ask_style m.ask) → Says u y

    abbrev pub AreSpared : ℕ → World → Type 0
    AreSpared b u = (y : Item) (m : ResvTearMsg) → In y u.flight → b ≤ y.born → y.arrival ≡ Spelt (message.ResvTear m) → IsOver u.net over y m.session m.hop.addr (tear_style m.tear) → ⊥

    module _ (u : World) (g : IsSteady q s u) (exact : AreExactTo s k u) (is : IsWantedAt u) where
      valid : IsValid u.net
      valid = g.ready.bounds.net

      -- a Resv that was sent over the hop asks for the part
      says_it : (y : Item) (m : ResvMsg) → In y u.flight → (spelt : y.arrival ≡ Spelt (message.Resv m)) → IsResvSent q u.net u.trees u y m → IsOver u.net over y m.session m.hop.addr (ask_style m.ask)
          → Says u y
      says_it y m i spelt p o =
          let own_dst = g.addressed y m i (omega arith) spelt in
          let x = over_hop q u g.ready.bounds g.ready.sound y m p own_dst in
          let inside = ends_there u.net valid s.group h is.there in
          let of = (interfaces_are_ends u.net).iface_of_end p.node p.lane.hop.0 p.end p.at in
          let end : p.end ≡ h.to = same_by_addr u.net valid p.end h.to of.0 inside.1 (sym p.hop ∙ o.from) in
          let from = x.2 ∙ o.end in
          let to = x.3 ∙ end in
          let same : x.0 ≡ h = (λ j. record { from = from j; to = to j }) in
          let session : p.lane.session ≡ s = sym p.session ∙ o.session in
          let style : p.lane.style ≡ st = sym p.style ∙ o.style in
          let previous : IsPrevious u.net p.node p.lane.session p.lane.hop h = subst (IsPrevious u.net p.node p.lane.session p.lane.hop) same x.1 in
          let near : rank u.net p.lane.session.group h ≤ suc k = subst (λ (z : Session). rank u.net z.group h ≤ suc k) (sym session) is.near in
          let goes = toward_at u g exact p.node p.facts p.after p.lane session h previous near in
          let asked : IsAskedOf (toward (config_of q u.net u.trees p.node) p.facts p.lane) (record { unit = uu; names = Some v.senders; flow = v.flow }) =
          record {
            part = v;
            there = ap (λ (t : PartTable). get t uu) goes ∙ (λ j. get (want (style j) u.net (locals_of u) (session j) h) uu) ∙ is.wanted;
            names = refl;
            flow = refl;
          } in
          let unit : AskedUnit = record { unit = uu; names = Some v.senders; flow = v.flow } in
          let asks = (units_told p.lane.style (toward (config_of q u.net u.trees p.node) p.facts p.lane) m.ask unit
          (parts_of_style (config_of q u.net u.trees p.node) u.clock p.facts (g.ready.bounds.facts p.node p.facts p.after) p.lane) p.asks).1 asked in
          record {
            end = o.end;
            dst = own_dst ∙ ap (addr_of u.net) o.end;
            resv = m;
            spelt = spelt;
            session = o.session;
            style = o.style;
            hop = o.from;
            unit = unit;
            asks = asks;
            at = refl;
            names = refl;
            flow = refl;
          }

      -- the node that keeps takes it
      takes_it : (y : Item) → In y u.flight → (says : Says u y) → IsKept q u.net over v u y says.resv
      takes_it y i says f at =
          let m : ResvMsg = says.resv in
          let n : ℕ = node_of u.net.ends h.from in
          let e : ℕ = iface_of u.net.ends h.from in
          let p : NodeConfig = config_of q u.net u.trees n in
          let inside = ends_there u.net valid s.group h is.there in
          let end : end_at u.net.ends n e ≡ Some h.from = (interfaces_are_ends u.net).end_of_iface h.from inside.0 in
          let dst : own p e ≡ y.dst = own_end q u.net u.trees n e h.from end ∙ sym says.dst in
          let can = can_be_taken q s u g.ready y m i says.spelt says.session f (ap (λ (z : ℕ). slice_get u.nodes (node_of u.net.ends z)) says.end ∙ at) in
          let can' = subst (λ (z : ℕ). CanBeTaken (config_of q u.net u.trees (node_of u.net.ends z)) u.clock (iface_of u.net.ends z) m f
          (goal_at u.net (locals_of u) (node_of u.net.ends z))) says.end can in
          let taken = what_is_accepted.whole p p u.clock u.clock e m f (goal_at u.net (locals_of u) n) (g.ready.bounds.facts n f at) can' in
          let unit = can'.units says.unit says.asks in
          let r = taken.facts says.unit unit.names says.asks unit.listed in
          let listed : AsksFor (Some unit.names) v.senders = subst (λ (z : Option Names). AsksFor z v.senders) unit.listed says.names in
          let part : v ≡ record { senders = unit.names; flow = says.unit.flow } = same_part v (record { senders = unit.names; flow = says.unit.flow }) listed says.flow in (
            r.0,
            (λ j. get (resvs_of (sym says.style j) (facts_then p p u.clock (Came e (sym dst j) (Spelt (message.Resv m))) f)) (sym says.session j, ((e, sym says.hop j), sym says.at j))) ∙ r.1,
            r.2 ∙ sym part,
            r.3,
          )

      -- it knows the senders of the part
      knows_them : (f : Facts) → slice_get u.nodes (node_of u.net.ends h.from) ≡ Some f → (x : Sender) → has v.senders x ≡ true → has (named_as st (known f s)) x ≡ true
      knows_them f at x e =
          let n : ℕ = node_of u.net.ends h.from in
          let a = name_told st u.net (locals_of u) s (h ∷ []) x (want_names st u.net (locals_of u) s h uu v is.wanted x e) in
          let there = has_hop_in (tree u.net.hops s.group a.0.addr) h (and_both _ _ a.2).0 in
          let leaves : In h.from (outward u.net n s.group a.0.addr) = out_tested u.net n h.from s.group a.0.addr (h, there, refl, refl) in
          let reaches = (the_root_has_no_inward u.net valid).entered n h.from s.group a.0.addr leaves in
          let knows = ((previous_hops_are_all_hops u valid g.ready.locals g.ready.sound g.ready.complete).known n f s a.0 at).1 (a.1, reaches) in
          (known_and_via.named_by st (known f s) x).1 (record { sender = a.0; among = knows; passes = refl; name = a.3 })

      -- the node that asks has something to ask for
      asks_it : (f : Facts) → slice_get u.nodes (node_of u.net.ends h.to) ≡ Some f → (a : Ask)
          × (ask_of st (toward (config_of q u.net u.trees (node_of u.net.ends h.to)) f (lane_of u.net over)) ≡ Some a)
      asks_it f at = by (ask_of st (toward (config_of q u.net u.trees (node_of u.net.ends h.to)) f l)) refl
        where
          l : Lane
          l = lane_of u.net over

          goes : toward (config_of q u.net u.trees (node_of u.net.ends h.to)) f l ≡ want st u.net (locals_of u) s h
          goes = toward_at u g exact (node_of u.net.ends h.to) f at l refl h (record { there = is.there; node = refl; iface = refl; addr = refl }) is.near

          by : (o : Option Ask) → ask_of st (toward (config_of q u.net u.trees (node_of u.net.ends h.to)) f l) ≡ o
              → (a : Ask) × (ask_of st (toward (config_of q u.net u.trees (node_of u.net.ends h.to)) f l) ≡ Some a)
          by (Some a) e = (a, e)
          by None e =
              let none = nothing_asked st (toward (config_of q u.net u.trees (node_of u.net.ends h.to)) f l)
              (parts_of_style (config_of q u.net u.trees (node_of u.net.ends h.to)) u.clock f (g.ready.bounds.facts (node_of u.net.ends h.to) f at) l) e in
              let bad : None ≡ Some v = ap (λ (t : PartTable). get t uu) (sym none ∙ goes) ∙ is.wanted in
              absurd (cc)

    -- ---- a step, between worlds of one network of which the same is asked
    module _ (w : World) (t : Step) (u : World) (quiet : is_quiet t ≡ true) (known : IsKnown q w u) (known' : IsKnown q w (step q t u)) (g : IsSteady q s u) (g' : IsSteady q s (step q t u))
        (exact : AreExactTo s k u) (exact' : AreExactTo s k (step q t u))
        (is : IsWantedAt u) (is' : IsWantedAt (step q t u)) where
      abbrev u' : World
      u' = step q t u

      net_same : u'.net ≡ u.net
      net_same = net_quiet t u quiet

      pub letters_step : (b : ℕ) → AreLetters b u → AreLetters b u'
      letters_step b old y m i born spelt o =
          ⊎_elim
          (λ (there : In y u.flight).
          subst (λ (z : Net). SaysResv z (resv_key z over) y v) (sym net_same) (old y m there born spelt (subst (λ (z : Net). IsOver z over y m.session m.hop.addr (ask_style m.ask)) net_same o)))
          (λ (new : (mark : Bool) × In (y, mark) (sent q t u)).
          says_it u' g' exact' is' y m i spelt
          (sent_here q w (subst IsValid known.same.net g.ready.bounds.net) t u quiet (record { known = known; paths = g.ready.sound })
          (record { known = known'; paths = g'.ready.sound }) y new.0 m new.1 spelt) o)
          (in_flight_after q t u y quiet i)

      no_tear : (y : Item) (mark : Bool) (m : ResvTearMsg) → In (y, mark) (sent q t u) → y.arrival ≡ Spelt (message.ResvTear m) → IsOver u.net over y m.session m.hop.addr (tear_style m.tear) → ⊥
      no_tear y mark m i spelt o =
          let r = sent_by_rule q t u y mark (message.ResvTear m) quiet i spelt in
          let p : NodeConfig = config_of q u.net u.trees r.node in
          let c : ℕ = u.clock + ms_of t in
          let x = why_a_resv_tear_is_sent (node_step p p u.clock c r.by.input r.facts) (g.ready.bounds.facts r.node r.facts r.there) r.send m r.sent r.says in
          let facts : Facts = facts_then p p c r.by.input r.facts in
          let after : slice_get u'.nodes r.node ≡ Some facts = facts_after_made q t u r.node r.facts r.there ∙ ap (λ (z : Outcome). Some z.facts) r.by.is in
          -- the hop over which it goes
          let named = (known_and_via.all_by facts x.lane x.some.0).0 (x.via_hop x.some.0 x.some.1) in
          let comes = (known_and_via.via_by facts x.lane.session x.lane.hop named.sender).0 named.among in
          let a = ahead u' r.node facts g'.ready.sound after x.lane.session x.lane.hop named.sender comes in
          let previous : IsPrevious u.net r.node x.lane.session x.lane.hop a.way = subst (λ (z : Net). IsPrevious z r.node x.lane.session x.lane.hop a.way) net_same a.previous in
          let in_tree : In a.way (tree u.net.hops x.lane.session.group named.sender.addr) = subst (λ (z : Net). In a.way (tree z.hops x.lane.session.group named.sender.addr)) net_same a.there in
          let valid = g.ready.bounds.net in
          let inside = ends_there u.net valid s.group h is.there in
          let mine = ends_there u.net valid x.lane.session.group a.way previous.there in
          let e = goes_to_end u.net (end_at u.net.ends r.node r.send.iface) r.send.dst y.end r.to in
          let at : end_at u.net.ends r.node x.lane.hop.0 ≡ Some e.0 = ap (end_at u.net.ends r.node) (sym x.iface) ∙ e.1 in
          let of = (interfaces_are_ends u.net).iface_of_end r.node x.lane.hop.0 e.0 at in
          let hop_addr : m.hop.addr ≡ own p x.lane.hop.0 = ap (λ (z : ResvTearMsg). z.hop.addr) x.is in
          let end : e.0 ≡ h.to = same_by_addr u.net valid e.0 h.to of.0 inside.1 (sym (own_end q u.net u.trees r.node x.lane.hop.0 e.0 at) ∙ sym hop_addr ∙ o.from) in
          let to : a.way.to ≡ h.to = same_end u.net a.way.to e.0 mine.1 of.0 (previous.node ∙ sym of.1) (previous.iface ∙ sym of.2) ∙ end in
          let linked : In a.way.to (peers u.net.links a.way.from) = hop_linked u.net valid x.lane.session.group named.sender.addr a.way in_tree in
          let back : In a.way.from (peers u.net.links e.0) = subst (λ (z : ℕ). In a.way.from (peers u.net.links z)) (to ∙ sym end) (peers_both u.net valid a.way.from a.way.to linked) in
          let goes : In y.end (goes_to u.net (Some e.0) x.lane.hop.1) = subst (λ (z : Option ℕ × Addr). In y.end (goes_to u.net z.0 z.1)) (λ j. (e.1 j, x.dst j)) r.to in
          let host = subst (λ (z : Addr). is_group z ≡ false) previous.addr (host_addr u g a.way.from mine.0) in
          let got = ((where_a_send_goes u.net e.0 x.lane.hop.1).one host a.way.from back previous.addr y.end).0 goes in
          let from : a.way.from ≡ h.from = same_by_addr u.net valid a.way.from h.from mine.0 inside.0 (previous.addr ∙ sym got.1 ∙ ap (addr_of u.net) o.end) in
          let same : a.way ≡ h = (λ j. record { from = from j; to = to j }) in
          let session : x.lane.session ≡ s = sym (ap (λ (z : ResvTearMsg). z.session) x.is) ∙ o.session in
          -- what goes over it is the same before and after
          let is_h : IsPrevious u.net r.node x.lane.session x.lane.hop h = subst (IsPrevious u.net r.node x.lane.session x.lane.hop) same previous in
          let near : rank u.net x.lane.session.group h ≤ suc k = subst (λ (z : Session). rank u.net z.group h ≤ suc k) (sym session) is.near in
          let before_is = toward_at u g exact r.node r.facts r.there x.lane session h is_h near in
          let after_is = toward_at u' g' exact' r.node facts after x.lane session h (subst (λ (z : Net). IsPrevious z r.node x.lane.session x.lane.hop h) (sym net_same) is_h)
          (subst (λ (z : Net). rank z x.lane.session.group h ≤ suc k) (sym net_same) near) in
          let locals : locals_of u ≡ locals_of u' = known.same.locals ∙ sym known'.same.locals in
          let equal : toward p r.facts x.lane ≡ toward p facts x.lane =
          before_is ∙ (λ j. want x.lane.style (sym net_same j) (locals j) x.lane.session h) ∙ sym after_is ∙ (λ j. toward (config_of q (net_same j) u.trees r.node) facts x.lane) in
          let gone = x.gone x.some.0 x.some.1 in
          let yes : has (toward p facts x.lane) gone.unit ≡ true = ap (λ (z : PartTable). has z gone.unit) (sym equal) ∙ ap (λ (z : Option Part). is_some z) gone.was in
          let bad : true ≡ false = sym yes ∙ gone.gone in
          absurd (cc)

      pub spared_step : (b : ℕ) → AreSpared b u → AreSpared b u'
      spared_step b old y m i born spelt o =
          let o' = subst (λ (z : Net). IsOver z over y m.session m.hop.addr (tear_style m.tear)) net_same o in
          ⊎_elim (λ (there : In y u.flight). old y m there born spelt o') (λ (new : (mark : Bool) × In (y, mark) (sent q t u)). no_tear y new.0 m new.1 spelt o') (in_flight_after q t u y quiet i)

    -- ---- so it is said over the hop, and is kept two rounds on
    abbrev pub IsMet : World → World → Type 0
    IsMet w u = IsKnown q w u × (IsSteady q s u × AreExactTo s k u)

    pub wanted_at : (w u : World) → IsKnown q w u → IsWantedAt w → IsWantedAt u
    wanted_at w u a is = record {
      there = subst (λ (z : Net). In h (hops_of z.hops s.group)) (sym a.same.net) is.there;
      near = subst (λ (z : Net). rank z s.group h ≤ suc k) (sym a.same.net) is.near;
      wanted = subst (λ (z : Net × Locals). get (want st z.0 z.1 s h) uu ≡ Some v) (λ j. (sym a.same.net j, sym a.same.locals j)) is.wanted;
    }

    pub said_at : (w u : World) (b : ℕ) → IsMet w u → IsWantedAt w → AreLetters b u × AreSpared b u → IsSaid q w.net over v b u
    said_at w u b met is both =
        let g = met.1.0 in
        let here = wanted_at w u met.0 is in
        subst (λ (z : Net). IsSaid q z over v b u) met.0.same.net
        (record {
          carried = both.0;
          spared = λ y m i born spelt o takes. both.1 y m i born spelt o;
          taken = λ y i born says. takes_it u g met.1.1 here y i says;
          asks = asks_it u g met.1.1 here;
          known = knows_them u g met.1.1 here;
        })

    pub unit_kept : (w : World) (rs : List (List Step)) → Rounds (machine q) rs w → Hold (machine q) 0 rs w (λ u. IsSteady q s u × AreExactTo s k u) → IsWantedAt w
        → Hold (machine q) 2 rs w (Stands (machine q) (soft_resv q w (resv_key w.net over)) v)
    unit_kept w rs calm steady is =
        let first = hold_start (machine q) (λ u. IsSteady q s u × AreExactTo s k u) rs w steady in
        let bounds : Hold (machine q) 0 rs w (AreBounds q) = hold_map (machine q) (λ u. IsSteady q s u × AreExactTo s k u) (AreBounds q) (λ u h. h.0.ready.bounds) 0 rs w steady in
        let met : Hold (machine q) 0 rs w (IsMet w) = hold_both (machine q) (IsKnown q w) (λ u. IsSteady q s u × AreExactTo s k u) 0 rs w (known_hold q w rs calm bounds) steady in
        let none : (y : Item) → In y w.flight → w.made ≤ y.born → ⊥ = (λ y i born. let old = (first.0.ready.bounds.flight y i).born in omega (arith, old, born)) in
        let letters : Hold (machine q) 0 rs w (AreLetters w.made) =
        hold_keep (machine q) (IsMet w) (AreLetters w.made)
        (λ t u c a a' j. letters_step w t u (quiet_of q t c) a.0 a'.0 a.1.0 a'.1.0 a.1.1 a'.1.1 (wanted_at w u a.0 is) (wanted_at w (step q t u) a'.0 is) w.made j) rs w calm met
        (λ y m i born spelt o. absurd (none y i born)) in
        let spared : Hold (machine q) 0 rs w (AreSpared w.made) =
        hold_keep (machine q) (IsMet w) (AreSpared w.made)
        (λ t u c a a' j. spared_step w t u (quiet_of q t c) a.0 a'.0 a.1.0 a'.1.0 a.1.1 a'.1.1 (wanted_at w u a.0 is) (wanted_at w (step q t u) a'.0 is) w.made j) rs w calm met
        (λ y m i born spelt o. none y i born) in
        said_resvs_are_kept q w over v is.there rs calm bounds
        (hold_map (machine q) (λ u. IsMet w u × (AreLetters w.made u × AreSpared w.made u)) (IsSaid q w.net over v w.made) (λ u h. said_at w u w.made h.0 is h.1) 0 rs w
        (hold_both (machine q) (IsMet w) (λ u. AreLetters w.made u × AreSpared w.made u) 0 rs w met (hold_both (machine q) (AreLetters w.made) (AreSpared w.made) 0 rs w letters spared)))

  -- ---- all units over all hops of the next rank
  pub record Spot (w : World) : Type 0 where
    pub st : StyleKind
    pub h : LinkHop
    pub uu : UnitOf
    pub v : Part
    pub is : IsWantedAt st h uu v w

  pub exact_at : (w u : World) → IsKnown q w u → IsSteady q s u → ((a : Spot w) → Stands (machine q) (soft_resv q w (resv_key w.net (over a.st a.h a.uu a.v))) a.v u) → AreExactTo s (suc k) u
  exact_at w u known g stand st h there near =
      let valid = g.ready.bounds.net in
      let inside = ends_there u.net valid s.group h there in
      let lt : h.from < length w.net.ends = subst (λ (z : Net). h.from < length z.ends) known.same.net inside.0 in
      let f = node_there q w (subst IsValid known.same.net valid) u h.from known lt in
      let at : slice_get u.nodes (node_of u.net.ends h.from) ≡ Some f.0 = ap (λ (z : Net). slice_get u.nodes (node_of z.ends h.from)) known.same.net ∙ f.1 in
      let kept : (uu : UnitOf) (p : Part) → get (want st u.net (locals_of u) s h) uu ≡ Some p
      → (r : ResvState) × (get (resvs_of st f.0) (s, ((iface_of u.net.ends h.from, addr_of u.net h.to), uu)) ≡ Some r) × (r.part ≡ p) =
      (λ uu p e. stood st h there near f.0 f.1 uu p e) in
      record {
        facts = f.0;
        node = at;
        wanted = kept;
        stands = λ uu r e. held st h there f.0 at kept uu r e;
      }
    where
      stood : (st : StyleKind) (h : LinkHop) → In h (hops_of u.net.hops s.group) → rank u.net s.group h ≤ suc k → (f : Facts) → slice_get u.nodes (node_of w.net.ends h.from) ≡ Some f
          → (uu : UnitOf) (p : Part) → get (want st u.net (locals_of u) s h) uu ≡ Some p
          → (r : ResvState) × (get (resvs_of st f) (s, ((iface_of u.net.ends h.from, addr_of u.net h.to), uu)) ≡ Some r) × (r.part ≡ p)
      stood st h there near f at uu p e =
          let is : IsWantedAt st h uu p w = record {
            there = subst (λ (z : Net). In h (hops_of z.hops s.group)) known.same.net there;
            near = subst (λ (z : Net). rank z s.group h ≤ suc k) known.same.net near;
            wanted = subst (λ (z : Net × Locals). get (want st z.0 z.1 s h) uu ≡ Some p) (λ j. (known.same.net j, known.same.locals j)) e;
          } in
          let x = stand (record { st = st; h = h; uu = uu; v = p; is = is }) in
          let key = line_key_of w.net (resv_key w.net (over st h uu p)) in
          let r = kept_found (resv_at u (node_of w.net.ends h.from) st key) p x.0 x.1 in
          let found = resv_found u (node_of w.net.ends h.from) st key r.0 r.1 in
          let same : found.0 ≡ f = of_some found.0 f (sym found.1 ∙ at) in
          (r.0, (λ j. get (resvs_of st (sym same j)) (s, ((iface_of (known.same.net j).ends h.from, addr_of (known.same.net j) h.to), uu))) ∙ found.2, sym r.2)

      held : (st : StyleKind) (h : LinkHop) → In h (hops_of u.net.hops s.group) → (f : Facts) → slice_get u.nodes (node_of u.net.ends h.from) ≡ Some f
          → ((uu : UnitOf) (p : Part) → get (want st u.net (locals_of u) s h) uu ≡ Some p
          → (r : ResvState) × (get (resvs_of st f) (s, ((iface_of u.net.ends h.from, addr_of u.net h.to), uu)) ≡ Some r) × (r.part ≡ p))
          → (uu : UnitOf) (r : ResvState) → get (resvs_of st f) (s, ((iface_of u.net.ends h.from, addr_of u.net h.to), uu)) ≡ Some r → get (want st u.net (locals_of u) s h) uu ≡ Some r.part
      held st h there f at kept uu r e =
          let valid = g.ready.bounds.net in
          let x = g.ready.resvs.facts st (node_of u.net.ends h.from) f (s, ((iface_of u.net.ends h.from, addr_of u.net h.to), uu)) r at e in
          let inside = ends_there u.net valid s.group h there in
          let theirs = ends_there u.net valid s.group x.sound.hop x.sound.there in
          let of = (interfaces_are_ends u.net).iface_of_end (node_of u.net.ends h.from) (iface_of u.net.ends h.from) x.end x.at in
          let from : x.sound.hop.from ≡ h.from = x.sound.from ∙ same_end u.net x.end h.from of.0 inside.0 of.1 of.2 in
          let to : x.sound.hop.to ≡ h.to = same_by_addr u.net valid x.sound.hop.to h.to theirs.1 inside.1 x.sound.to in
          let same : x.sound.hop ≡ h = (λ j. record { from = from j; to = to j }) in
          let wanted : get (want st u.net (locals_of u) s h) uu ≡ Some x.sound.wanted = ap (λ (z : LinkHop). get (want st u.net (locals_of u) s z) uu) (sym same) ∙ x.sound.is in
          let y = kept uu x.sound.wanted wanted in
          let one : r ≡ y.0 = of_some r y.0 (sym e ∙ y.1) in
          wanted ∙ ap Some (sym (ap (λ (z : ResvState). z.part) one ∙ y.2))

  exact_up : (rs : List (List Step)) (w : World) → Rounds (machine q) rs w → Hold (machine q) 0 rs w (λ u. IsSteady q s u × AreExactTo s k u) → Hold (machine q) 2 rs w (AreExactTo s (suc k))
  exact_up rs w calm steady =
      let bounds : Hold (machine q) 0 rs w (AreBounds q) = hold_map (machine q) (λ u. IsSteady q s u × AreExactTo s k u) (AreBounds q) (λ u h. h.0.ready.bounds) 0 rs w steady in
      hold_map (machine q) (λ u. (IsKnown q w u × IsSteady q s u) × ((a : Spot w) → Stands (machine q) (soft_resv q w (resv_key w.net (over a.st a.h a.uu a.v))) a.v u)) (AreExactTo s (suc k))
      (λ u h. exact_at w u h.0.0 h.0.1 h.1) 2 rs w
      (hold_both (machine q) (λ u. IsKnown q w u × IsSteady q s u) (λ u. (a : Spot w) → Stands (machine q) (soft_resv q w (resv_key w.net (over a.st a.h a.uu a.v))) a.v u) 2 rs w
      (hold_later (machine q) (λ u. IsKnown q w u × IsSteady q s u) 0 2 rs w (omega arith)
      (hold_both (machine q) (IsKnown q w) (IsSteady q s) 0 rs w (known_hold q w rs calm bounds) (hold_map (machine q) (λ u. IsSteady q s u × AreExactTo s k u) (IsSteady q s) (λ u h. h.0) 0 rs w steady)))
      (hold_all (machine q) (λ (a : Spot w) u. Stands (machine q) (soft_resv q w (resv_key w.net (over a.st a.h a.uu a.v))) a.v u) 2 rs w
      (λ a. unit_kept a.st a.h a.uu a.v w rs calm steady a.is)))

-- ---- two rounds at each rank
pub exact_to : (q : ℕ) (s : Session) (k : ℕ) (rs : List (List Step)) (w : World) → Rounds (machine q) rs w → Hold (machine q) 0 rs w (IsSteady q s) → Hold (machine q) (2 * k) rs w (AreExactTo s k)
exact_to q s zero rs w calm steady =
    hold_map (machine q) (IsSteady q s) (AreExactTo s 0) (λ u g st h there near. let some = rank_some u.net g.ready.bounds.net.loop_free s.group h there in
    absurd (omega (arith, some, near))) 0 rs w steady
exact_to q s (suc k) rs w calm steady =
    let e : 2 * k + 2 ≡ 2 * suc k = omega arith in
    rw (← e)
    (hold_stack (machine q) (λ u. IsSteady q s u × AreExactTo s k u) (AreExactTo s (suc k)) 2 (exact_up q s k) (2 * k) rs w calm
    (hold_both (machine q) (IsSteady q s) (AreExactTo s k) (2 * k) rs w (hold_later (machine q) (IsSteady q s) 0 (2 * k) rs w (omega arith) steady) (exact_to q s k rs w calm steady)))

pub reservations_are_exact : (q : ℕ) (s : Session) (rs : List (List Step)) (w : World) → Rounds (machine q) rs w → Hold (machine q) 0 rs w (IsSteady q s) → Hold (machine q) (2 * longest w.net) rs w (AreExactOf s)
reservations_are_exact q s rs w calm steady =
    let k : ℕ = longest w.net in
    let bounds : Hold (machine q) 0 rs w (AreBounds q) = hold_map (machine q) (IsSteady q s) (AreBounds q) (λ u g. g.ready.bounds) 0 rs w steady in
    hold_map (machine q) (λ u. (IsKnown q w u × IsSteady q s u) × AreExactTo s k u) (AreExactOf s)
    (λ u h st hop there.
    let most = (rank_falls u.net h.0.1.ready.bounds.net.loop_free).hops s.group hop there in
    let same : longest u.net ≡ k = ap longest h.0.0.same.net in
    h.1 st hop there (omega (arith, most.1, same))) (2 * k) rs w
    (hold_both (machine q) (λ u. IsKnown q w u × IsSteady q s u) (AreExactTo s k) (2 * k) rs w
    (hold_later (machine q) (λ u. IsKnown q w u × IsSteady q s u) 0 (2 * k) rs w (omega arith) (hold_both (machine q) (IsKnown q w) (IsSteady q s) 0 rs w (known_hold q w rs calm bounds) steady))
    (exact_to q s k rs w calm steady))

-- from ready worlds without blockades; one round more for what goes where
pub reservations_become_exact : (q : ℕ) (s : Session) (w : World) (rs : List (List Step)) → Rounds (machine q) rs w → AreHosts w → SessionFits w.net (locals_of w) s → Hold (machine q) 0 rs w (AreBounds q)
    → Hold (machine q) 0 rs w (λ u. IsSettledSoFar u × IsFreeOfBlockadesOf s u)
    → Hold (machine q) (1 + 2 * longest w.net) rs w (AreExactOf s)
reservations_become_exact q s w rs calm locals fit bounds so_far =
    let settled = hold_map (machine q) (λ u. IsSettledSoFar u × IsFreeOfBlockadesOf s u) IsSettledSoFar (λ u h. h.0) 0 rs w so_far in
    let free = hold_map (machine q) (λ u. IsSettledSoFar u × IsFreeOfBlockadesOf s u) (IsFreeOfBlockadesOf s) (λ u h. h.1) 0 rs w so_far in
    let known = known_hold q w rs calm bounds in
    let valid = (hold_start (machine q) (AreBounds q) rs w bounds).net in
    let firm = firm_hold q w rs calm bounds (hold_map (machine q) IsSettledSoFar ArePathsSound (λ u h. h.0) 0 rs w settled) in
    let early : Hold (machine q) 0 rs w (λ u. (IsKnown q w u × IsReady q s u) × IsFreeOfBlockadesOf s u) =
    hold_both (machine q) (λ u. IsKnown q w u × IsReady q s u) (IsFreeOfBlockadesOf s) 0 rs w (hold_both (machine q) (IsKnown q w) (IsReady q s) 0 rs w known
    (ready_hold q s w rs calm locals fit bounds settled)) free in
    hold_stack (machine q) (λ u. IsKnown q w u × IsSteady q s u) (AreExactOf s) (2 * longest w.net)
    (λ us u c h.
    let net = (hold_start (machine q) (λ x. IsKnown q w x × IsSteady q s x) us u h).0.same.net in
    subst (λ (z : Net). Hold (machine q) (2 * longest z) us u (AreExactOf s)) net
    (reservations_are_exact q s us u c (hold_map (machine q) (λ x. IsKnown q w x × IsSteady q s x) (IsSteady q s) (λ x g. g.1) 0 us u h)))
    1 rs w calm
    (hold_map (machine q) (λ u. ((IsKnown q w u × IsReady q s u) × IsFreeOfBlockadesOf s u) × IsAddressed 0 u) (λ u. IsKnown q w u × IsSteady q s u)
    (λ u h. (h.0.0.0, record { ready = h.0.0.1; free = h.0.1; addressed = h.1 })) 1 rs w
    (hold_both (machine q) (λ u. (IsKnown q w u × IsReady q s u) × IsFreeOfBlockadesOf s u) (IsAddressed 0) 1 rs w
    (hold_later (machine q) (λ u. (IsKnown q w u × IsReady q s u) × IsFreeOfBlockadesOf s u) 0 1 rs w (omega arith) early) (addressed q w valid rs w calm firm)))
