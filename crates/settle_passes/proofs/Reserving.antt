-- One delivery: what it keeps of reservations that are set up.
use Rattle.std.proofs.Common.{◌≡◌, ℕ, ◌+◌, List, [], ◌∷◌, Bool, Some, ◌⊎◌, inl, inr, ⊎_elim, arith, refl, subst}
use Rattle.std.specs.Prelude.{slice_get}
use Rattle.rsvp_base.specs.declared.part.Part.{Part}
use Rattle.rsvp_base.specs.declared.session.Session.{Session}
use Rattle.rsvp_base.specs.Members.{In}
use Rattle.rsvp_base.specs.Orders.{Names}
use Rattle.rsvp_messages.specs.declared.message.Message.TheVariants as message
use Rattle.rsvp_messages.specs.declared.message.ResvMsg.{ResvMsg}
use Rattle.rsvp_messages.specs.Units.{AskedUnit, asked_units}
use Rattle.laws_steps.specs.AcceptingLaws.{IsTakenWhole}
use Rattle.laws_steps.specs.ReservationLaws.{Touches}
use Rattle.laws_steps.proofs.Admitting.{what_is_accepted}
use Rattle.router_rules.specs.Facts.{Facts}
use Rattle.router_rules.specs.Inputs.{Spelt}
use Rattle.router_rules.specs.NodeConfig.{NodeConfig}
use Rattle.tree_model.specs.Networks.{Net, iface_of, node_of}
use Rattle.tree_model.specs.Trees.{hops_of}
use Rattle.network_model.specs.Bounds.{AreBounds}
use Rattle.network_model.specs.Locals.{locals_of}
use Rattle.network_model.specs.Sound.{ArePathsSound}
use Rattle.network_model.specs.Steps.{Deliver, outcome, sent, step, still}
use Rattle.network_model.specs.Worlds.{Item, World, config_of}
use Rattle.network_model.proofs.Machines.{in_flight_after}
use Rattle.network_model.proofs.Stepping.{facts_after_made}
use Rattle.laws_network.specs.Known.{IsSameNet}
use Rattle.settle_resvs.specs.GoalByIface.{goal_at}
use Rattle.settle_resvs.specs.Said.{HopKey, hop_over, resv_key}
use Rattle.settle_resvs.specs.SoftResvs.{SaysResv, line_key_of}
use Rattle.settle_resvs.proofs.Accepting.{IsReady, can_be_taken, fits_again}
use Rattle.settle_passes.specs.Reserving.{AllAsk, IsAskedLast, IsKeptOver, IsReserving}
use Rattle.settle_passes.proofs.Deliveries.{bounds_next, hosts_next, known_self, known_stays, live_back, no_tear_next, path_at_next, same_next, sound_next, tear_of_none}
use Rattle.settle_passes.proofs.Turns.{Turns, addressed_in_turn, kept_on}
use Rattle.settle_passes.proofs.Arriving.{asked_next, free_next, no_error_next, resvs_next, turns as turns_of}

-- ---- lists of what is in flight
pub some_asks : (net : Net) (k : HopKey) (v : Part) (ys : List Item) → IsAskedLast net k v ys → (y : Item) × In y ys × SaysResv net (resv_key net k) y v
some_asks net k v [] l = absurd l
some_asks net k v (y ∷ ys) l =
    ⊎_elim (λ (more : IsAskedLast net k v ys). let r = some_asks net k v ys more in (r.0, inr r.1, r.2)) (λ (now : SaysResv net (resv_key net k) y v × AllAsk net k v ys). (y, inl refl, now.0)) l

-- ---- what the world has for the laws on a session that fits
pub ready : (q : ℕ) (s : Session) (w : World) → IsReserving q s w → IsReady q s w
ready q s w r = record { bounds = r.paths.bounds; locals = r.paths.hosts; fit = r.fit; sound = r.paths.sound; complete = r.paths.complete; resvs = r.sound }

module _ (q : ℕ) (s : Session) (u : World) (r : IsReserving q s u) where
  abbrev next : World
  next = step q (Deliver 0) u

  bounds : AreBounds q u
  bounds = r.paths.bounds

  bounds' : AreBounds q next
  bounds' = bounds_next q 0 u bounds

  paths' : ArePathsSound next
  paths' = sound_next q 0 u bounds r.paths.sound

  same : IsSameNet u next
  same = same_next q 0 u bounds u (known_self q u bounds).same

  -- a node that gets something gets a datagram
  pub turns : (n : ℕ) (f : Facts) → slice_get u.nodes n ≡ Some f → (outcome q (Deliver 0) u n f ≡ still f) ⊎ Turns q (Deliver 0) u n f
  turns = turns_of q u bounds

  -- ---- a Resv of the session that arrives is taken whole
  taken : (y : Item) (m : ResvMsg) (f : Facts) → In y u.flight → y.arrival ≡ Spelt (message.Resv m) → m.session ≡ s → slice_get u.nodes (node_of u.net.ends y.end) ≡ Some f
      → IsTakenWhole (config_of q u.net u.trees (node_of u.net.ends y.end)) (config_of q u.net u.trees (node_of u.net.ends y.end)) (u.clock + 0) (iface_of u.net.ends y.end) m f
      (goal_at u.net (locals_of u) (node_of u.net.ends y.end))
  taken y m f i spelt of at =
      let n : ℕ = node_of u.net.ends y.end in
      let p : NodeConfig = config_of q u.net u.trees n in
      let now : u.clock ≡ u.clock + 0 = omega arith in
      subst (λ (z : ℕ). IsTakenWhole p p z (iface_of u.net.ends y.end) m f (goal_at u.net (locals_of u) n)) now
      (what_is_accepted.whole p p u.clock u.clock (iface_of u.net.ends y.end) m f (goal_at u.net (locals_of u) n) (bounds.facts n f at) (can_be_taken q s u (ready q s u r) y m i spelt of f at))

  -- ---- a reservation stays that nothing touches
  stays : (k : HopKey) (v : Part) → In (hop_over k) (hops_of u.net.hops k.session.group) → (c : IsKeptOver u k v)
      → ((f : Facts) → slice_get u.nodes (node_of u.net.ends k.to) ≡ Some f → (h : Turns q (Deliver 0) u (node_of u.net.ends k.to) f)
      → Touches h.input k.style (line_key_of u.net (resv_key u.net k)) c.resv → ⊥)
      → IsKeptOver next k v
  stays k v there c untouched =
      let now : u.clock + 0 ≡ u.clock = omega arith in
      kept_on q (Deliver 0) u bounds turns r.paths.hosts r.paths.sound r.paths.complete r.sound now
      (λ n f z x at sure. known_stays q 0 u bounds n f (outcome q (Deliver 0) u n f).facts (z, x) (tear_of_none u r.paths.no_tear (z, x)) at (facts_after_made q (Deliver 0) u n f at) sure)
      k v c untouched

  listed : (y : Item) (m : ResvMsg) (v : AskedUnit) → In y u.flight → y.arrival ≡ Spelt (message.Resv m) → In v (asked_units m.ask) → (ns : Names) × (v.names ≡ Some ns)
  listed y m v i spelt asks = let x = r.sound.items y m v i spelt asks in (x.names, x.named)

  pub reserving_next : IsReserving q s next
  reserving_next = record {
    paths = record {
      bounds = bounds';
      hosts = hosts_next q 0 u bounds r.paths.hosts;
      sound = paths';
      complete = λ k t h live there.
          path_at_next q 0 u bounds r.paths.hosts r.paths.no_tear paths' k t h (live_back q 0 u bounds k t live) there (r.paths.complete k t h (live_back q 0 u bounds k t live) there);
      no_tear = no_tear_next q 0 u bounds r.paths.no_tear;
    };
    sound = resvs_next q u bounds bounds' paths' r.sound;
    fit = fits_again s u next same r.fit;
    free = free_next q s u bounds (locals_of u) taken r.no_error r.free;
    no_error = no_error_next q s u bounds (locals_of u) taken r.no_error;
    addressed = λ y m i spelt.
        ⊎_elim (λ (old : In y u.flight). r.addressed y m old spelt)
        (λ (new : (b : Bool) × In (y, b) (sent q (Deliver 0) u)). addressed_in_turn q (Deliver 0) u bounds turns bounds' paths' y new.0 m new.1 spelt) (in_flight_after q (Deliver 0) u y refl i);
    asked = asked_next q s u bounds (locals_of u) taken listed bounds' paths' stays r.asked;
  }
