-- One delivery: paths spread still, and the reservations of the session follow them still.
use Rattle.std.proofs.Common.{◌≡◌, ℕ, ◌+◌, Bool, true, Option, Some, ◌⊎◌, ⊎_elim, arith, sym, refl, ap, subst, ◌∙◌}
use Rattle.std.specs.Prelude.{slice_get}
use Rattle.rsvp_base.specs.declared.part.Part.{Part}
use Rattle.rsvp_base.specs.declared.session.Sender.{Sender}
use Rattle.rsvp_base.specs.declared.session.Session.{Session}
use Rattle.rsvp_base.specs.declared.style.StyleKind.{StyleKind}
use Rattle.rsvp_base.specs.Members.{In}
use Rattle.rsvp_base.specs.Orders.{Names}
use Rattle.rsvp_base.specs.Table.{has}
use Rattle.rsvp_messages.specs.declared.message.Message.TheVariants as message
use Rattle.rsvp_messages.specs.declared.message.ResvMsg.{ResvMsg}
use Rattle.rsvp_messages.specs.Units.{AskedUnit, ask_style, asked_units}
use Rattle.laws_steps.specs.AcceptingLaws.{IsTakenWhole}
use Rattle.laws_steps.specs.ReservationLaws.{Touches}
use Rattle.router_rules.specs.Facts.{Facts, SenderKey}
use Rattle.router_rules.specs.Inputs.{Spelt}
use Rattle.router_rules.specs.Known.{known}
use Rattle.router_rules.specs.NodeConfig.{NodeConfig}
use Rattle.tree_model.specs.declared.hops.LinkHop.{LinkHop}
use Rattle.tree_model.specs.Networks.{iface_of, node_of}
use Rattle.tree_model.specs.Trees.{hops_of, tree}
use Rattle.tree_model.proofs.TreeLaws.{one, way_in_told}
use Rattle.network_model.specs.Bounds.{AreBounds}
use Rattle.network_model.specs.Locals.{locals_of}
use Rattle.network_model.specs.Sound.{ArePathsSound}
use Rattle.network_model.specs.Steps.{Deliver, outcome, sent, step, still}
use Rattle.network_model.specs.Worlds.{Item, World, config_of}
use Rattle.network_model.proofs.Machines.{in_arrived, in_flight_after}
use Rattle.network_model.proofs.Stepping.{facts_after_made}
use Rattle.laws_network.specs.Known.{IsSameNet}
use Rattle.settle_paths.specs.SoftPaths.{path_at}
use Rattle.settle_paths.proofs.PathSends.{path_sent}
use Rattle.settle_paths.proofs.PreviousHops.{ends_there}
use Rattle.settle_paths.proofs.SoftPaths.{IsBrought, path_found, path_made, path_source}
use Rattle.settle_resvs.specs.GoalByIface.{goal_at}
use Rattle.settle_resvs.specs.Said.{HopKey, hop_over, resv_key}
use Rattle.settle_resvs.specs.SoftResvs.{AsksFor, line_key_of}
use Rattle.settle_resvs.proofs.Accepting.{fits_again}
use Rattle.settle_resvs.proofs.SoftResvs.{IsAsked, WasThere, resv_source}
use Rattle.settle_passes.specs.Passes.{Knows}
use Rattle.settle_passes.specs.Reserving.{IsKeptOver}
use Rattle.settle_passes.proofs.Deliveries.{bounds_next, known_self, known_stays, same_next, sound_next, spreading_next, tear_of_none}
use Rattle.settle_passes.proofs.Turns.{Turns, addressed_in_turn}
use Rattle.settle_passes.proofs.Arriving.{asked_next, free_next, no_error_next, resvs_next, turns as turns_of}
use Rattle.settle_senders.specs.Following.{ArePathsFromKnown, AreNamesKnown, HasSenderNamed, IsFollowing}
use Rattle.settle_senders.proofs.Knowing.{kept_named, knows_on, named_on, names_sent, path_from_known}
use Rattle.settle_senders.proofs.Accepting.{taken_whole}

module _ (q : ℕ) (s : Session) (u : World) (r : IsFollowing q s u) where
  abbrev next : World
  next = step q (Deliver 0) u

  bounds : AreBounds q u
  bounds = r.paths.bounds

  bounds' : AreBounds q next
  bounds' = bounds_next q 0 u bounds

  paths' : ArePathsSound next
  paths' = sound_next q 0 u bounds r.paths.sound

  same : IsSameNet u next
  same = same_next q 0 u bounds u (known_self q u bounds).same

  -- a node that gets something gets a datagram
  pub turns : (n : ℕ) (f : Facts) → slice_get u.nodes n ≡ Some f → (outcome q (Deliver 0) u n f ≡ still f) ⊎ Turns q (Deliver 0) u n f
  turns = turns_of q u bounds

  -- who is known stays known
  known_on : (n : ℕ) (f : Facts) (z : Session) (x : Sender) → slice_get u.nodes n ≡ Some f → has (known f z) x ≡ true → has (known (outcome q (Deliver 0) u n f).facts z) x ≡ true
  known_on n f z x at sure = known_stays q 0 u bounds n f (outcome q (Deliver 0) u n f).facts (z, x) (tear_of_none u r.paths.no_tear (z, x)) at (facts_after_made q (Deliver 0) u n f at) sure

  knows_next : (n : ℕ) (k : SenderKey) → Knows u n k → Knows next n k
  knows_next n k x = knows_on q (Deliver 0) u bounds turns known_on n k x

  named_next : (e : ℕ) (z : Session) (st : StyleKind) (x : Sender) → HasSenderNamed u e z st x → HasSenderNamed next e z st x
  named_next e z st x h = named_on q (Deliver 0) u bounds turns known_on e z st x h

  -- ---- a Resv of the session that arrives is taken whole
  pub taken : (y : Item) (m : ResvMsg) (f : Facts) → In y u.flight → y.arrival ≡ Spelt (message.Resv m) → m.session ≡ s → slice_get u.nodes (node_of u.net.ends y.end) ≡ Some f
      → IsTakenWhole (config_of q u.net u.trees (node_of u.net.ends y.end)) (config_of q u.net u.trees (node_of u.net.ends y.end)) (u.clock + 0) (iface_of u.net.ends y.end) m f
      (goal_at u.net (locals_of u) (node_of u.net.ends y.end))
  taken y m f i spelt of at =
      let n : ℕ = node_of u.net.ends y.end in
      let p : NodeConfig = config_of q u.net u.trees n in
      let now : u.clock ≡ u.clock + 0 = omega arith in
      subst (λ (z : ℕ). IsTakenWhole p p z (iface_of u.net.ends y.end) m f (goal_at u.net (locals_of u) n)) now (taken_whole q s u bounds r.fit r.sound r.names y m i spelt of f at)

  -- ---- a reservation stays that nothing touches
  stays : (k : HopKey) (v : Part) → In (hop_over k) (hops_of u.net.hops k.session.group) → (c : IsKeptOver u k v)
      → ((f : Facts) → slice_get u.nodes (node_of u.net.ends k.to) ≡ Some f → (h : Turns q (Deliver 0) u (node_of u.net.ends k.to) f)
      → Touches h.input k.style (line_key_of u.net (resv_key u.net k)) c.resv → ⊥)
      → IsKeptOver next k v
  stays k v there c untouched =
      let now : u.clock + 0 ≡ u.clock = omega arith in
      kept_named q (Deliver 0) u bounds turns known_on now k v c (λ x e. r.names.kept k v x there c e) untouched

  listed : (y : Item) (m : ResvMsg) (v : AskedUnit) → In y u.flight → y.arrival ≡ Spelt (message.Resv m) → In v (asked_units m.ask) → (ns : Names) × (v.names ≡ Some ns)
  listed y m v i spelt asks = let x = r.sound.items y m v i spelt asks in (x.names, x.named)

  -- ---- paths come from nodes that know their senders
  from_known_next : ArePathsFromKnown next
  from_known_next = record {
    facts = λ n g k x h at e there node.
        ⊎_elim
        (λ (old : path_at u n k ≡ Some x). let f = path_found u n k x old in knows_next (node_of u.net.ends h.from) k (r.from_known.facts n f.0 k x h f.1 f.2 there node))
        (λ (new : IsBrought q u.net (Deliver 0) u n k x).
        let way = way_in_told u.net bounds.net n new.item.end k.0.group k.1.addr new.inward in
        let same : h ≡ way.0 = one u.net bounds.net k.0.group k.1.addr h way.0 there way.1 (node ∙ sym (ap (node_of u.net.ends) way.2 ∙ way.3)) in
        let to : h.to ≡ new.item.end = ap (λ (z : LinkHop). z.to) same ∙ way.2 in
        let key : ◌≡◌ {A = SenderKey} (new.path.session, k.1) k = (λ j. (new.session j, k.1)) in
        let knows : Knows u (node_of u.net.ends h.from) (new.path.session, k.1) =
        r.from_known.items new.item new.path k.1 new.tspec h (in_arrived (Deliver 0) u new.item new.arrives) new.spelt new.sender
        (subst (λ (z : Session). In h (tree u.net.hops z.group k.1.addr)) (sym new.session) there) to in
        knows_next (node_of u.net.ends h.from) k (subst (λ (z : SenderKey). Knows u (node_of u.net.ends h.from) z) key knows))
        (path_source q (Deliver 0) u refl bounds n k x (path_made next n k x g at e));
    items = λ y m x t h i spelt sender there to.
        ⊎_elim (λ (old : In y u.flight). knows_next (node_of u.net.ends h.from) (m.session, x) (r.from_known.items y m x t h old spelt sender there to))
        (λ (new : (b : Bool) × In (y, b) (sent q (Deliver 0) u)).
        path_from_known q (Deliver 0) u bounds y m x t h (path_sent q (Deliver 0) u refl bounds y new.0 m new.1 spelt) sender there to) (in_flight_after q (Deliver 0) u y refl i);
  }

  -- ---- names stay known
  names_next : AreNamesKnown next
  names_next = record {
    kept = λ k v x there c e.
        let lt = (ends_there u.net bounds.net k.session.group (hop_over k) there).0 in
        let has_it : has c.resv.part.senders x ≡ true = ap (λ (z : Part). has z.senders x) c.is ∙ e in
        ⊎_elim
        (λ (old : WasThere u.net (resv_key u.net k) u c.resv).
        named_next k.to k.session k.style x (r.names.kept k old.resv.part x there (record { resv = old.resv; there = old.there; is = refl }) (old.left.names x has_it)))
        (λ (new : IsAsked u.net (resv_key u.net k) (Deliver 0) u c.resv).
        let i : In new.item u.flight = in_arrived (Deliver 0) u new.item new.arrives in
        let y = r.sound.items new.item new.says.resv new.says.unit i new.says.spelt new.says.asks in
        let listed : AsksFor (Some y.names) new.part.senders = subst (λ (z : Option Names). AsksFor z new.part.senders) y.named new.says.names in
        let d = r.names.items new.item new.says.resv new.says.unit y.names x i new.says.spelt new.says.asks y.named (ap (λ (z : Names). has z x) (sym listed) ∙ new.cut.names x has_it) in
        named_next k.to k.session k.style x (subst (λ (z : ℕ × Session × StyleKind). HasSenderNamed u z.0 z.1 z.2 x) (λ j. (new.says.end j, new.says.session j, new.says.style j)) d))
        (resv_source q u (resv_key u.net k) lt (Deliver 0) u refl (known_self q u bounds) c.resv c.there);
    items = λ y m v names x i spelt asks named e.
        ⊎_elim (λ (old : In y u.flight). named_next y.end m.session (ask_style m.ask) x (r.names.items y m v names x old spelt asks named e))
        (λ (new : (b : Bool) × In (y, b) (sent q (Deliver 0) u)).
        names_sent q (Deliver 0) u bounds turns bounds' paths' from_known_next y new.0 m new.1 spelt v names x asks named e) (in_flight_after q (Deliver 0) u y refl i);
  }

  pub following_next : IsFollowing q s next
  following_next = record {
    paths = spreading_next q 0 u bounds r.paths.hosts r.paths.sound r.paths.no_tear r.paths.offered;
    from_known = from_known_next;
    names = names_next;
    sound = resvs_next q u bounds bounds' paths' r.sound;
    fit = fits_again s u next same r.fit;
    free = free_next q s u bounds (locals_of u) taken r.no_error r.free;
    no_error = no_error_next q s u bounds (locals_of u) taken r.no_error;
    addressed = λ y m i spelt.
        ⊎_elim (λ (old : In y u.flight). r.addressed y m old spelt)
        (λ (new : (b : Bool) × In (y, b) (sent q (Deliver 0) u)). addressed_in_turn q (Deliver 0) u bounds turns bounds' paths' y new.0 m new.1 spelt) (in_flight_after q (Deliver 0) u y refl i);
    asked = asked_next q s u bounds (locals_of u) taken listed bounds' paths' stays r.asked;
  }
