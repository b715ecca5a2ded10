-- A step by which a node follows its rule at most: who is known stays known, and what is sent comes from those that know its senders.
use Rattle.std.proofs.Common.{◌≡◌, ℕ, ◌<◌, Bool, true, Option, Some, ◌⊎◌, ⊎_elim, sym, refl, ap, subst, ◌∙◌}
use Rattle.std.specs.Prelude.{slice_get, is_some, ◌||◌}
use Rattle.rsvp_base.specs.declared.part.Part.{Part}
use Rattle.rsvp_base.specs.declared.session.Sender.{Sender}
use Rattle.rsvp_base.specs.declared.session.Session.{Session}
use Rattle.rsvp_base.specs.declared.style.StyleKind.{StyleKind}
use Rattle.rsvp_base.specs.Members.{In}
use Rattle.rsvp_base.specs.Orders.{Names}
use Rattle.rsvp_base.specs.Styles.{name_of}
use Rattle.rsvp_base.specs.Table.{get, has}
use Rattle.rsvp_base.specs.TokenBucket.{TokenBucket}
use Rattle.rsvp_messages.specs.declared.message.Message.TheVariants as message
use Rattle.rsvp_messages.specs.declared.message.PathMsg.{PathMsg}
use Rattle.rsvp_messages.specs.declared.message.ResvMsg.{ResvMsg}
use Rattle.rsvp_messages.specs.Units.{AskedUnit, ask_style, asked_units}
use Rattle.laws_bounds.specs.SendLaws.{IsAskedOf}
use Rattle.laws_bounds.proofs.Asks.{units_told}
use Rattle.laws_bounds.proofs.Knowing.{has-known, known_and_via}
use Rattle.laws_steps.specs.ReservationLaws.{Touches}
use Rattle.laws_steps.proofs.Asking.{what_keeps_a_reservation_fact}
use Rattle.router_rules.specs.Facts.{Facts, PathState, SenderKey, resvs_of}
use Rattle.router_rules.specs.Inputs.{Spelt}
use Rattle.router_rules.specs.Known.{known, named_as, names_via}
use Rattle.router_rules.specs.NodeConfig.{NodeConfig}
use Rattle.router_rules.specs.Requests.{toward}
use Rattle.router_rules.specs.Rule.{Outcome}
use Rattle.router_rules.specs.Steps.{facts_then, node_step}
use Rattle.tree_model.specs.declared.hops.LinkHop.{LinkHop}
use Rattle.tree_model.specs.Networks.{node_of}
use Rattle.tree_model.specs.Trees.{inward, outward, tree}
use Rattle.tree_model.proofs.Links.{one_sending_end_on_a_link}
use Rattle.tree_model.proofs.TreeLaws.{one, out_tested, way_in_tested}
use Rattle.network_model.specs.Bounds.{AreBounds}
use Rattle.network_model.specs.Sound.{ArePathsSound}
use Rattle.network_model.specs.Steps.{Step, outcome, sent, still}
use Rattle.network_model.specs.Worlds.{Item, World}
use Rattle.network_model.proofs.Stepping.{facts_after_made}
use Rattle.laws_network.proofs.Known.{of_some, or_true}
use Rattle.settle_paths.proofs.PathSends.{IsPathSent}
use Rattle.settle_paths.proofs.PreviousHops.{ahead, one_previous}
use Rattle.settle_resvs.specs.Said.{HopKey, resv_key}
use Rattle.settle_resvs.specs.SoftResvs.{line_key_of}
use Rattle.settle_resvs.proofs.ResvSends.{over_hop}
use Rattle.settle_resvs.proofs.SoftResvs.{resv_found, resv_made}
use Rattle.settle_resvs.proofs.TowardNames.{parts_of_style, toward_names}
use Rattle.settle_passes.specs.Passes.{Knows}
use Rattle.settle_passes.specs.Reserving.{IsKeptOver}
use Rattle.settle_passes.proofs.Turns.{Turns, addressed_in_turn, left, moment, place, resv_in_turn}
use Rattle.settle_senders.specs.Following.{ArePathsFromKnown, HasSenderNamed}

-- a node knows a sender that is its own, and one that it has a path of
pub own_known : (f : Facts) (s : Session) (x : Sender) (t : TokenBucket) → get f.senders (s, x) ≡ Some t → has (known f s) x ≡ true
own_known f s x t e = has-known f s x ∙ ap (λ (o : Option TokenBucket). is_some o || has f.paths (s, x)) e

pub path_known : (f : Facts) (s : Session) (x : Sender) (p : PathState) → get f.paths (s, x) ≡ Some p → has (known f s) x ≡ true
path_known f s x p e = has-known f s x ∙ ap (λ (o : Option PathState). has f.senders (s, x) || is_some o) e ∙ or_true (has f.senders (s, x))

-- the name is among those of the senders that are known
pub name_known : (w : World) (e : ℕ) (s : Session) (st : StyleKind) (x : Sender) → HasSenderNamed w e s st x → (f : Facts) → slice_get w.nodes (node_of w.net.ends e) ≡ Some f
    → has (named_as st (known f s)) x ≡ true
name_known w e s st x h f at =
    let same : h.knows.facts ≡ f = of_some h.knows.facts f (sym h.knows.there ∙ at) in
    (known_and_via.named_by st (known f s) x).1
    (record { sender = h.sender; among = ap (λ (z : Facts). has (known z s) h.sender) (sym same) ∙ h.knows.known_one; passes = refl; name = h.name })

module _ (q : ℕ) (t : Step) (u : World) (bounds : AreBounds q u) (turns : (n : ℕ) (f : Facts) → slice_get u.nodes n ≡ Some f → (outcome q t u n f ≡ still f) ⊎ Turns q t u n f)
    (known_on : (n : ℕ) (f : Facts) (s : Session) (x : Sender) → slice_get u.nodes n ≡ Some f → has (known f s) x ≡ true → has (known (outcome q t u n f).facts s) x ≡ true) where
  pub knows_on : (n : ℕ) (k : SenderKey) → Knows u n k → Knows (left q t u) n k
  knows_on n k x = record {
    facts = (outcome q t u n x.facts).facts;
    there = facts_after_made q t u n x.facts x.there;
    known_one = known_on n x.facts k.0 k.1 x.there x.known_one;
  }

  pub named_on : (e : ℕ) (s : Session) (st : StyleKind) (x : Sender) → HasSenderNamed u e s st x → HasSenderNamed (left q t u) e s st x
  named_on e s st x h = record { sender = h.sender; knows = knows_on (node_of u.net.ends e) (s, h.sender) h.knows; leaves = h.leaves; name = h.name }

  -- ---- a reservation whose names are known stays where nothing touches it and no time goes by
  pub kept_named : moment q t u ≡ u.clock → (k : HopKey) (v : Part) (c : IsKeptOver u k v) → ((x : Sender) → has v.senders x ≡ true → HasSenderNamed u k.to k.session k.style x)
      → ((f : Facts) → slice_get u.nodes (node_of u.net.ends k.to) ≡ Some f → (h : Turns q t u (node_of u.net.ends k.to) f) → Touches h.input k.style (line_key_of u.net (resv_key u.net k)) c.resv → ⊥)
      → IsKeptOver (left q t u) k v
  kept_named now k v c names untouched =
      let n : ℕ = node_of u.net.ends k.to in
      let here : NodeConfig = place q t u n in
      let key = line_key_of u.net (resv_key u.net k) in
      let f = resv_found u n k.style key c.resv c.there in
      let g : Facts = (outcome q t u n f.0).facts in
      let after : slice_get (left q t u).nodes n ≡ Some g = facts_after_made q t u n f.0 f.1 in
      let ends : get (resvs_of k.style g) key ≡ Some c.resv → IsKeptOver (left q t u) k v =
      (λ e. record { resv = c.resv; there = resv_made (left q t u) n k.style key g after ∙ e; is = c.is }) in
      ⊎_elim (λ (z : outcome q t u n f.0 ≡ still f.0). ends (ap (λ (o : Outcome). get (resvs_of k.style o.facts) key) z ∙ f.2))
      (λ (h : Turns q t u n f.0).
      let same : g ≡ facts_then here here (moment q t u) h.input f.0 = ap (λ (o : Outcome). o.facts) h.is in
      let lives : moment q t u < c.resv.dies = subst (λ (z : ℕ). z < c.resv.dies) (sym now) ((bounds.facts n f.0 f.1).alive.resvs k.style key c.resv f.2).later in
      ends
      (ap (λ (z : Facts). get (resvs_of k.style z) key) same
      ∙ what_keeps_a_reservation_fact.whole (node_step here here u.clock (moment q t u) h.input f.0) (bounds.facts n f.0 f.1) k.style key c.resv f.2 lives (untouched f.0 f.1 h)
      (λ x e.
      let d = named_on k.to k.session k.style x (names x (ap (λ (z : Part). has z.senders x) (sym c.is) ∙ e)) in
      ap (λ (z : Facts). has (named_as k.style (known z k.session)) x) (sym same) ∙ name_known (left q t u) k.to k.session k.style x d g after)))
      (turns n f.0 f.1)

-- ---- a Path that is sent comes from a node that knows its sender
pub path_from_known : (q : ℕ) (t : Step) (u : World) → AreBounds q u → (y : Item) (m : PathMsg) (x : Sender) (flow : TokenBucket) (h : LinkHop) → IsPathSent q u.net (left q t u) y m
    → m.sender ≡ Some (x, flow) → In h (tree u.net.hops m.session.group x.addr) → h.to ≡ y.end → Knows (left q t u) (node_of u.net.ends h.from) (m.session, x)
path_from_known q t u bounds y m x flow h p sender there to =
    let name : p.sender ≡ x = ap (λ (z : Sender × TokenBucket). z.0) (of_some (p.sender, p.tspec) (x, flow) (sym p.of ∙ sender)) in
    let leaves : In p.end (outward u.net (node_of u.net.ends p.end) m.session.group x.addr) =
    subst (λ (z : ℕ). In p.end (outward u.net z m.session.group x.addr)) (sym p.at) (subst (λ (z : Sender). In p.end (outward u.net p.node m.session.group z.addr)) name p.leaves) in
    let way : inward u.net (node_of u.net.ends y.end) m.session.group x.addr ≡ Some y.end =
    way_in_tested u.net bounds.net (node_of u.net.ends y.end) y.end m.session.group x.addr (h, there, to, refl) in
    let g = (one_sending_end_on_a_link u.net bounds.net).hop m.session.group x.addr p.end y.end leaves p.to way in
    let same : h ≡ g.0 = one u.net bounds.net m.session.group x.addr h g.0 there g.1 (ap (node_of u.net.ends) (to ∙ sym g.3)) in
    let node : node_of u.net.ends h.from ≡ p.node = ap (λ (z : LinkHop). node_of u.net.ends z.from) same ∙ ap (node_of u.net.ends) g.2 ∙ p.at in
    record {
      facts = p.facts;
      there = ap (λ (z : ℕ). slice_get (left q t u).nodes z) node ∙ p.after;
      known_one = ⊎_elim
          (λ (own : get p.facts.senders (m.session, p.sender) ≡ Some p.tspec). own_known p.facts m.session x p.tspec (ap (λ (z : Sender). get p.facts.senders (m.session, z)) (sym name) ∙ own))
          (λ (path : (z : PathState) × (get p.facts.paths (m.session, p.sender) ≡ Some z) × (p.tspec ≡ z.tspec)).
          path_known p.facts m.session x path.0 (ap (λ (z : Sender). get p.facts.paths (m.session, z)) (sym name) ∙ path.1)) p.source;
    }

-- ---- each name of a Resv that is sent is known where it goes
pub names_sent : (q : ℕ) (t : Step) (u : World) (bounds : AreBounds q u) → ((n : ℕ) (f : Facts) → slice_get u.nodes n ≡ Some f → (outcome q t u n f ≡ still f) ⊎ Turns q t u n f)
    → AreBounds q (left q t u) → ArePathsSound (left q t u) → ArePathsFromKnown (left q t u) → (y : Item) (b : Bool) (m : ResvMsg) → In (y, b) (sent q t u) → y.arrival ≡ Spelt (message.Resv m)
    → (v : AskedUnit) (names : Names) (x : Sender) → In v (asked_units m.ask) → v.names ≡ Some names → has names x ≡ true → HasSenderNamed (left q t u) y.end m.session (ask_style m.ask) x
names_sent q t u bounds turns bounds' sound from_known y b m i spelt v names x asks named there =
    let p = resv_in_turn q t u bounds turns y b m i spelt in
    let h = over_hop q (left q t u) bounds' sound y m p (addressed_in_turn q t u bounds turns bounds' sound y b m i spelt) in
    let here = place q t u p.node in
    let within = bounds'.facts p.node p.facts p.after in
    let asked : IsAskedOf (toward here p.facts p.lane) v =
    (units_told p.lane.style (toward here p.facts p.lane) m.ask v (parts_of_style here (left q t u).clock p.facts within p.lane) p.asks).0 asks in
    let same : names ≡ asked.part.senders = of_some names asked.part.senders (sym named ∙ asked.names) in
    let via : has (names_via p.facts p.lane) x ≡ true =
    (toward_names here (left q t u).clock p.facts within p.lane v.unit asked.part asked.there).1 x (ap (λ (z : Names). has z x) (sym same) ∙ there) in
    let a = (known_and_via.all_by p.facts p.lane x).0 via in
    let comes = (known_and_via.via_by p.facts p.lane.session p.lane.hop a.sender).0 a.among in
    let w = ahead (left q t u) p.node p.facts sound p.after p.lane.session p.lane.hop a.sender comes in
    let over : w.way ≡ h.0 = one_previous u.net bounds.net p.node p.lane.session p.lane.hop w.way h.0 w.previous h.1 in
    let from : w.way.from ≡ y.end = ap (λ (z : LinkHop). z.from) over ∙ h.2 in
    let knows : Knows (left q t u) (node_of u.net.ends w.way.from) (p.lane.session, a.sender) =
    from_known.facts p.node p.facts (p.lane.session, a.sender) comes.path w.way p.after comes.there w.there w.previous.node in
    record {
      sender = a.sender;
      knows = subst (λ (z : ℕ × Session). Knows (left q t u) (node_of u.net.ends z.0) (z.1, a.sender)) (λ j. (from j, sym p.session j)) knows;
      leaves = out_tested u.net (node_of u.net.ends y.end) y.end m.session.group a.sender.addr
          (w.way, subst (λ (z : Session). In w.way (tree u.net.hops z.group a.sender.addr)) (sym p.session) w.there, from, refl);
      name = a.name ∙ ap (λ (z : StyleKind). name_of z a.sender) (sym p.style);
    }
