-- A call while reservations follow paths: they do so still.
use Rattle.std.proofs.Common.{◌≡◌, ℕ, ◌+◌, Bool, true, Some, ◌⊎◌, ⊎_elim, arith, sym, refl, ap, subst, ◌∙◌}
use Rattle.std.specs.Prelude.{slice_get}
use Rattle.rsvp_base.specs.declared.part.Part.{Part}
use Rattle.rsvp_base.specs.declared.session.Sender.{Sender}
use Rattle.rsvp_base.specs.declared.session.Session.{Session}
use Rattle.rsvp_base.specs.declared.style.StyleKind.{StyleKind}
use Rattle.rsvp_base.specs.declared.style.Unit.{Unit as UnitOf}
use Rattle.rsvp_base.specs.declared.addr.Addr.{Addr}
use Rattle.rsvp_base.specs.Members.{In}
use Rattle.rsvp_base.specs.Table.{get, has}
use Rattle.rsvp_messages.specs.declared.message.Message.TheVariants as message
use Rattle.rsvp_messages.specs.Units.{ask_style}
use Rattle.style_rules.specs.Lines.{LineKey}
use Rattle.laws_steps.specs.ReservationLaws.{IsAskedFor, Touches}
use Rattle.laws_steps.proofs.Asking.{where_a_reservation_fact_comes_from}
use Rattle.router_rules.specs.Facts.{Facts, ResvState, resvs_of}
use Rattle.router_rules.specs.Inputs.{Call, Came, Input, Local, Spelt}
use Rattle.router_rules.specs.Known.{known}
use Rattle.router_rules.specs.NodeConfig.{NodeConfig, own}
use Rattle.router_rules.specs.Rule.{Outcome}
use Rattle.router_rules.specs.Steps.{IsLeftOf, node_step}
use Rattle.tree_model.specs.Networks.{node_of}
use Rattle.tree_model.specs.Trees.{hops_of}
use Rattle.network_model.specs.Locals.{locals_of}
use Rattle.network_model.specs.Sound.{AreResvsSound, IsSoundPart, IsSoundResv}
use Rattle.network_model.specs.Steps.{At, ms_of, outcome, sent, step, still}
use Rattle.network_model.specs.Worlds.{World, config_of}
use Rattle.network_model.proofs.Quiet.{at_node_found}
use Rattle.network_model.proofs.Stepping.{facts_after_found}
use Rattle.settle_resvs.specs.Said.{HopKey, hop_over, resv_key}
use Rattle.settle_resvs.specs.Sessions.{SessionFits}
use Rattle.settle_resvs.specs.SoftResvs.{line_key_of}
use Rattle.settle_resvs.proofs.SoftResvs.{resv_found, resv_made}
use Rattle.settle_passes.specs.Passes.{AreSpreading}
use Rattle.settle_passes.specs.Reserving.{IsKeptOver}
use Rattle.settle_passes.proofs.SoundParts.{sound_cut}
use Rattle.settle_passes.proofs.Turns.{Turns, addressed_in_turn, unit_in_turn}
use Rattle.settle_passes.proofs.Called.{IsCalled, called, free_then, in_flight_then, no_error_then, path_sent_by_call, paths_same, turns}
use Rattle.settle_passes.proofs.Arriving.{asked_then}
use Rattle.settle_senders.specs.Following.{ArePathsFromKnown, AreNamesKnown, IsFollowing}
use Rattle.settle_senders.proofs.Knowing.{kept_named, knows_on, named_on, names_sent, path_from_known}

-- ---- a call at a node, after which paths spread still, and by which who is known stays known and what is sound stays so
module _ (q n : ℕ) (call : Local) (w : World) (start : AreSpreading q w) (spreads : AreSpreading q (step q (At n call) w))
    (known_on : (m : ℕ) (f : Facts) (s : Session) (x : Sender) → slice_get w.nodes m ≡ Some f → has (known f s) x ≡ true → has (known (outcome q (At n call) w m f).facts s) x ≡ true)
    (sound_on : (st : StyleKind) (s : Session) (e : ℕ) (next : Addr) (u : UnitOf) (p : Part) → IsSoundPart st w s e next u p → IsSoundPart st (step q (At n call) w) s e next u p) where
  abbrev asked : World
  asked = step q (At n call) w

  turned : (m : ℕ) (f : Facts) → slice_get w.nodes m ≡ Some f → (outcome q (At n call) w m f ≡ still f) ⊎ Turns q (At n call) w m f
  turned = turns q n call w

  -- a reservation was there, with its flow and no fewer names
  resv_before : (st : StyleKind) (m : ℕ) (g : Facts) (key : LineKey) (x : ResvState) → slice_get asked.nodes m ≡ Some g → get (resvs_of st g) key ≡ Some x
      → (f : Facts) × (slice_get w.nodes m ≡ Some f) × (r : ResvState) × (get (resvs_of st f) key ≡ Some r) × IsLeftOf r x
  resv_before st m g key x at e =
      let f = facts_after_found q (At n call) w m g at in
      let now : get (resvs_of st (outcome q (At n call) w m f.0).facts) key ≡ Some x = ap (λ (z : Facts). get (resvs_of st z) key) (sym f.2) ∙ e in
      let p : NodeConfig = config_of q w.net w.trees m in
      let d : ℕ = w.clock + ms_of (At n call) in
      let r : (r : ResvState) × (get (resvs_of st f.0) key ≡ Some r) × IsLeftOf r x =
      ⊎_elim
      (λ (z : outcome q (At n call) w m f.0 ≡ still f.0).
      let old : get (resvs_of st f.0) key ≡ Some x = sym (ap (λ (o : Outcome). get (resvs_of st o.facts) key) z) ∙ now in
      (x, old, record { names = λ y i. i; flow = refl; named = ((start.bounds.facts m f.0 f.1).shapes.resvs st key x old).style.named; dies = refl }))
      (λ (h : IsCalled q w n call m f.0).
      ⊎_elim (λ (old : (r : ResvState) × (get (resvs_of st f.0) key ≡ Some r) × IsLeftOf r x). old)
      (λ (asked : IsAskedFor p d (Call call) f.0 st key x). let bad : Call call ≡ Came key.1.0.0 (own p key.1.0.0) (Spelt (message.Resv asked.by.resv)) = asked.by.came in absurd (cc))
      (where_a_reservation_fact_comes_from (node_step p p w.clock d (Call call) f.0) (start.bounds.facts m f.0 f.1) st key x
      (sym (ap (λ (o : Outcome). get (resvs_of st o.facts) key) h.is) ∙ now)))
      (called q w n call m f.0) in
      (f.0, f.1, r.0, r.1, r.2)

  -- ---- paths come from nodes that know their senders, and names stay known
  from_known_then : ArePathsFromKnown w → ArePathsFromKnown asked
  from_known_then from_known = record {
    facts = λ m g k' x h at e there node.
        let f = facts_after_found q (At n call) w m g at in
        let old : get f.0.paths k' ≡ Some x = sym (ap (λ (z : _). get z k') (ap (λ (z : Facts). z.paths) f.2 ∙ paths_same q n call w m f.0)) ∙ e in
        knows_on q (At n call) w start.bounds turned known_on (node_of w.net.ends h.from) k' (from_known.facts m f.0 k' x h f.1 old there node);
    items = λ y m x t' h i spelt sender there to.
        ⊎_elim
        (λ (old : In y w.flight).
        knows_on q (At n call) w start.bounds turned known_on (node_of w.net.ends h.from) (m.session, x) (from_known.items y m x t' h old spelt sender there to))
        (λ (now : (b : Bool) × In (y, b) (sent q (At n call) w)).
        path_from_known q (At n call) w start.bounds y m x t' h (path_sent_by_call q w n call start.bounds y now.0 m now.1 spelt) sender there to) (in_flight_then q n call w y i);
  }

  names_then : ArePathsFromKnown w → AreNamesKnown w → AreNamesKnown asked
  names_then from_known names_known = record {
    kept = λ k' v x there c i.
        let key : LineKey = line_key_of w.net (resv_key w.net k') in
        let g = resv_found asked (node_of w.net.ends k'.to) k'.style key c.resv c.there in
        let r = resv_before k'.style (node_of w.net.ends k'.to) g.0 key c.resv g.1 g.2 in
        let was : IsKeptOver w k' r.2.part = record { resv = r.2; there = resv_made w (node_of w.net.ends k'.to) k'.style key r.0 r.1 ∙ r.3; is = refl } in
        named_on q (At n call) w start.bounds turned known_on k'.to k'.session k'.style x
        (names_known.kept k' r.2.part x there was (r.4.names x (ap (λ (z : Part). has z.senders x) c.is ∙ i)));
    items = λ y m v names x i spelt asks named there.
        ⊎_elim
        (λ (old : In y w.flight).
        named_on q (At n call) w start.bounds turned known_on y.end m.session (ask_style m.ask) x (names_known.items y m v names x old spelt asks named there))
        (λ (now : (b : Bool) × In (y, b) (sent q (At n call) w)).
        names_sent q (At n call) w start.bounds turned spreads.bounds spreads.sound (from_known_then from_known) y now.0 m now.1 spelt v names x asks named there) (in_flight_then q n call w y i);
  }

  -- ---- no reservation says more than is wanted
  resv_sound : AreResvsSound w → (st : StyleKind) (m : ℕ) (g : Facts) (key : LineKey) (x : ResvState) → slice_get asked.nodes m ≡ Some g → get (resvs_of st g) key ≡ Some x
      → IsSoundResv st asked m key x
  resv_sound sound st m g key x at e =
      let r = resv_before st m g key x at e in
      let y = sound.facts st m r.0 key r.2 r.1 r.3 in
      record {
        end = y.end;
        at = y.at;
        sound = sound_cut st asked key.0 y.end key.1.0.1 key.1.1 x.part r.2.part (record { names = r.4.names; flow = r.4.flow; named = r.4.named })
            (sound_on st key.0 y.end key.1.0.1 key.1.1 r.2.part y.sound);
      }

  resvs_then : AreResvsSound w → AreResvsSound asked
  resvs_then sound = record {
    facts = resv_sound sound;
    items = λ y m v i spelt asks.
        ⊎_elim
        (λ (old : In y w.flight).
        let x = sound.items y m v old spelt asks in
        record { names = x.names; named = x.named; sound = sound_on (ask_style m.ask) m.session y.end m.hop.addr v.unit (record { senders = x.names; flow = v.flow }) x.sound })
        (λ (now : (b : Bool) × In (y, b) (sent q (At n call) w)).
        unit_in_turn q (At n call) w start.bounds turned spreads.bounds spreads.sound (resv_sound sound) y now.0 m now.1 spelt v asks) (in_flight_then q n call w y i);
  }

  -- ---- a session whose reservations follow
  module _ (s : Session) (r : IsFollowing q s w) (fits : SessionFits asked.net (locals_of asked) s) where
    kept_then : (k' : HopKey) (v : Part) → In (hop_over k') (hops_of w.net.hops k'.session.group) → IsKeptOver w k' v → IsKeptOver asked k' v
    kept_then k' v there x =
        let now : w.clock + 0 ≡ w.clock = omega arith in
        kept_named q (At n call) w start.bounds turned known_on now k' v x (λ y i. r.names.kept k' v y there x i)
        (λ f at h touch. subst (λ (z : Input). Touches z k'.style (line_key_of w.net (resv_key w.net k')) x.resv)
        (at_node_found n (node_of w.net.ends k'.to) (Call call) h.input h.came).1 touch)

    pub following_then : IsFollowing q s asked
    following_then = record {
      paths = spreads;
      from_known = from_known_then r.from_known;
      names = names_then r.from_known r.names;
      sound = resvs_then r.sound;
      fit = fits;
      free = free_then q n call w s r.free;
      no_error = no_error_then q n call w start.bounds s r.no_error;
      addressed = λ y m i spelt.
          ⊎_elim (λ (old : In y w.flight). r.addressed y m old spelt)
          (λ (now : (b : Bool) × In (y, b) (sent q (At n call) w)). addressed_in_turn q (At n call) w start.bounds turned spreads.bounds spreads.sound y now.0 m now.1 spelt)
          (in_flight_then q n call w y i);
      asked = asked_then q n call w start.bounds spreads.bounds spreads.sound s kept_then r.asked;
    }
