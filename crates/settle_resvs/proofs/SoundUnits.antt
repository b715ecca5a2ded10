-- The Resvs in flight are sound too: each goes to the end whose address it is sent to, since no end has the address of a group.
use Rattle.std.proofs.Common.{◌≡◌, ℕ, ◌+◌, ◌*◌, ◌<◌, ◌≤◌, List, length, Bool, true, false, None, Some, Option, ⊎_elim, arith, sym, refl, ap, subst, ◌∙◌}
use Rattle.std.specs.Prelude.{not, ◌==◌}
use Rattle.tree_model.proofs.Following.{same_number, number_same}
use Rattle.rsvp_base.specs.declared.addr.Addr.{Addr}
use Rattle.rsvp_base.specs.declared.part.Part.{Part}
use Rattle.rsvp_base.specs.Members.{In}
use Rattle.rsvp_base.specs.Orders.{Names}
use Rattle.rsvp_base.specs.Table.{empty}
use Rattle.rsvp_messages.specs.declared.message.Message.TheVariants as message
use Rattle.rsvp_messages.specs.declared.message.ResvMsg.{ResvMsg}
use Rattle.rsvp_messages.specs.Units.{AskedUnit, ask_style, asked_units}
use Rattle.calm_rounds.specs.Machine.{Fresh}
use Rattle.calm_rounds.specs.Rounds.{Rounds}
use Rattle.calm_rounds.specs.Hold.{Hold}
use Rattle.calm_rounds.proofs.Holding.{hold_map, hold_both, hold_later, hold_start, hold_stack, hold_keep, hold_flush}
use Rattle.tree_model.specs.Goals.{addr_of, addr_of_end}
use Rattle.router_rules.specs.Inputs.{Spelt}
use Rattle.tree_model.specs.declared.hops.End.{End}
use Rattle.tree_model.specs.Networks.{Net, peers}
use Rattle.tree_model.specs.Ranks.{longest}
use Rattle.tree_model.specs.Valid.{IsValid}
use Rattle.tree_model.proofs.RankLaws.{rank_falls}
use Rattle.network_model.specs.Bounds.{AreBounds}
use Rattle.network_model.specs.Links.{is_group}
use Rattle.network_model.specs.Sound.{ArePathsSound, IsSoundUnit, AreResvsSound}
use Rattle.network_model.specs.Steps.{Step, is_quiet, sent, step, machine}
use Rattle.network_model.specs.Worlds.{Item, World}
use Rattle.network_model.proofs.Machines.{quiet_of, items_are_numbered, in_flight_after}
use Rattle.network_model.proofs.Changing.{where_a_send_goes}
use Rattle.laws_network.specs.Known.{IsKnown}
use Rattle.laws_network.proofs.Known.{known_hold}
use Rattle.laws_network.proofs.Standing.{some_at, same_end}
use Rattle.settle_paths.proofs.SoundPaths.{paths_are_sound}
use Rattle.tree_model.proofs.Ifaces.{interfaces_are_ends}
use Rattle.tree_model.proofs.Links.{hop_linked, peers_both}
use Rattle.settle_paths.proofs.PreviousHops.{ahead, ends_there}
use Rattle.settle_resvs.proofs.ResvSends.{IsResvSent}
use Rattle.settle_resvs.specs.SoftResvs.{ResvKey, AsksFor}
use Rattle.settle_resvs.proofs.SoundResvs.{IsFirm, IsGood, Level, levels, firm_hold, sent_here, all_facts_sound, part_again}

abbrev spot_of : Item → ResvMsg → AskedUnit → ResvKey
spot_of y m v = record { session = m.session; style = ask_style m.ask; unit = v.unit; next = m.hop.addr; to = y.end }

-- a unit of a Resv that comes to the end whose address it is sent to
pub unit_sound : (q : ℕ) (o : World) (valid : IsValid o.net) (u : World) → IsFirm q o u → Level q o valid (longest o.net) u → (y : Item) (m : ResvMsg) (v : AskedUnit) → In y u.flight
    → y.arrival ≡ Spelt (message.Resv m) → In v (asked_units m.ask)
    → y.dst ≡ addr_of u.net y.end → IsSoundUnit u y m v
unit_sound q o valid u firm level y m v i spelt asks own = by v.names refl
  where
    less : y.end < length o.net.ends
    less = subst (λ (z : Net). y.end < length z.ends) firm.known.same.net (firm.known.bounds.flight y i).end

    good : (p : Part) → AsksFor v.names p.senders → p.flow ≡ v.flow → IsGood o (longest o.net) (spot_of y m v) p
    good p names flow =
        (level (spot_of y m v, less)).1 y p i (omega arith)
        (record {
          end = refl;
          dst = own
              ∙ ap (λ (z : Net). addr_of z y.end) firm.known.same.net;
          resv = m;
          spelt = spelt;
          session = refl;
          style = refl;
          hop = refl;
          unit = v;
          asks = asks;
          at = refl;
          names = names;
          flow = flow;
        })

    by : (n : Option Names) → v.names ≡ n → IsSoundUnit u y m v
    by None e =
        let g = good (record { senders = empty; flow = v.flow }) (subst (λ (z : Option Names). AsksFor z empty) (sym e) tt) refl in
        let no : false ≡ true = g.named.some in absurd (cc)
    by (Some names) e =
        let part : Part = record { senders = names; flow = v.flow } in
        let g = good part (subst (λ (z : Option Names). AsksFor z names) (sym e) refl) refl in
        let most = (rank_falls o.net valid.loop_free).hops m.session.group g.named.hop g.named.there in
        record { names = names; named = e; sound = part_again (ask_style m.ask) o u m.session y.end m.hop.addr v.unit part (sym firm.known.same.net) (sym firm.known.same.locals) (g.sound most.1) }

-- ---- each Resv goes to the end whose address it is sent to
abbrev pub IsAddressed : ℕ → World → Type 0
IsAddressed n u = (y : Item) (m : ResvMsg) → In y u.flight → n ≤ y.born → y.arrival ≡ Spelt (message.Resv m) → y.dst ≡ addr_of u.net y.end

module _ (q : ℕ) (o : World) (valid : IsValid o.net) where
  not_group : (u : World) → IsFirm q o u → (e : ℕ) → e < length u.net.ends → is_group (addr_of u.net e) ≡ false
  not_group u firm e lt =
      let x = some_at u.net.ends e lt in
      ap (λ (z : Option End). is_group (addr_of_end z)) x.1 ∙ firm.known.bounds.hosts e x.0 x.1

  sent_addressed : (u : World) → IsFirm q o u → (y : Item) (m : ResvMsg) → IsResvSent q u.net u.trees u y m → y.dst ≡ addr_of u.net y.end
  sent_addressed u firm y m p =
      let a = ahead u p.node p.facts firm.paths p.after p.lane.session p.lane.hop p.by.0 p.by.1 in
      let h = a.way in
      let there = ends_there u.net firm.known.bounds.net p.lane.session.group h a.previous.there in
      let of = (interfaces_are_ends u.net).iface_of_end p.node p.lane.hop.0 p.end p.at in
      let to : h.to ≡ p.end = same_end u.net h.to p.end there.1 of.0 (a.previous.node ∙ sym of.1) (a.previous.iface ∙ sym of.2) in
      let linked : In h.to (peers u.net.links h.from) = hop_linked u.net firm.known.bounds.net p.lane.session.group p.by.0.addr h a.there in
      let back : In h.from (peers u.net.links p.end) = subst (λ (z : ℕ). In h.from (peers u.net.links z)) to (peers_both u.net firm.known.bounds.net h.from h.to linked) in
      let group : is_group p.lane.hop.1 ≡ false = subst (λ (z : Addr). is_group z ≡ false) a.previous.addr (not_group u firm h.from there.0) in
      p.dst ∙ sym (((where_a_send_goes u.net p.end p.lane.hop.1).one group h.from back a.previous.addr y.end).0 p.goes).1

  pub addressed_step : (n : ℕ) (s : Step) (u : World) → is_quiet s ≡ true → IsFirm q o u → IsFirm q o (step q s u) → IsAddressed n u → IsAddressed n (step q s u)
  addressed_step n s u quiet a a' j y m i born spelt =
      ⊎_elim
      (λ (old : In y u.flight). j y m old born spelt ∙ ap (λ (z : Net). addr_of z y.end) (a.known.same.net ∙ sym a'.known.same.net))
      (λ (new : (b : Bool) × In (y, b) (sent q s u)). sent_addressed (step q s u) a' y m (sent_here q o valid s u quiet a a' y new.0 m new.1 spelt))
      (in_flight_after q s u y quiet i)

  pub addressed : (rs : List (List Step)) (w : World) → Rounds (machine q) rs w → Hold (machine q) 0 rs w (IsFirm q o) → Hold (machine q) 1 rs w (IsAddressed 0)
  addressed rs w calm firm =
      hold_map (machine q) (λ u. IsAddressed w.made u × Fresh (machine q) w.made u) (IsAddressed 0) (λ u h y m i le. h.0 y m i (h.1 y i)) 1 rs w
      (hold_both (machine q) (IsAddressed w.made) (Fresh (machine q) w.made) 1 rs w
      (hold_later (machine q) (IsAddressed w.made) 0 1 rs w (omega arith)
      (hold_keep (machine q) (IsFirm q o) (IsAddressed w.made) (λ s u quiet a a' j. addressed_step w.made s u (quiet_of q s quiet) a a' j) rs w calm firm
      (λ y m i born. let old = ((hold_start (machine q) (IsFirm q o) rs w firm).known.bounds.flight y i).born in absurd (omega arith))))
      (hold_flush (machine q) (items_are_numbered q) rs w calm))

pub reservations_are_sound : (q : ℕ) (w : World) (rs : List (List Step)) → Rounds (machine q) rs w → Hold (machine q) 0 rs w (AreBounds q) → Hold (machine q) 0 rs w ArePathsSound
    → Hold (machine q) (5 + 5 * longest w.net) rs w AreResvsSound
reservations_are_sound q w rs calm bounds paths =
    let valid : IsValid w.net = (hold_start (machine q) (AreBounds q) rs w bounds).net in
    let firm = firm_hold q w rs calm bounds paths in
    let k : ℕ = 5 + 5 * longest w.net in
    hold_map (machine q) (λ u. (IsFirm q w u × Level q w valid (longest w.net) u) × IsAddressed 0 u) AreResvsSound
    (λ u h. record {
      facts = all_facts_sound q w valid u h.0.0 h.0.1;
      items = λ y m v i spelt asks. unit_sound q w valid u h.0.0 h.0.1 y m v i spelt asks (h.1 y m i (omega arith) spelt);
    }) k rs w
    (hold_both (machine q) (λ u. IsFirm q w u × Level q w valid (longest w.net) u) (IsAddressed 0) k rs w
    (hold_both (machine q) (IsFirm q w) (Level q w valid (longest w.net)) k rs w (hold_later (machine q) (IsFirm q w) 0 k rs w (omega arith) firm) (levels q w valid (longest w.net) rs w calm firm))
    (hold_later (machine q) (IsAddressed 0) 1 k rs w (omega arith) (addressed q w valid rs w calm firm)))

-- from any world within bounds: first paths, then reservations
pub reservations_become_sound : (q : ℕ) (w : World) (rs : List (List Step)) → Rounds (machine q) rs w → Hold (machine q) 0 rs w (AreBounds q)
    → Hold (machine q) ((4 + 5 * longest w.net) + (5 + 5 * longest w.net)) rs w AreResvsSound
reservations_become_sound q w rs calm bounds =
    let k : ℕ = 4 + 5 * longest w.net in
    let known : Hold (machine q) 0 rs w (IsKnown q w) = known_hold q w rs calm bounds in
    hold_stack (machine q) (λ u. IsKnown q w u × ArePathsSound u) AreResvsSound (5 + 5 * longest w.net)
    (λ us u c h.
    let start = (hold_start (machine q) (λ x. IsKnown q w x × ArePathsSound x) us u h).0 in
    subst (λ (z : Net). Hold (machine q) (5 + 5 * longest z) us u AreResvsSound) start.same.net
    (reservations_are_sound q u us c (hold_map (machine q) (λ x. IsKnown q w x × ArePathsSound x) (AreBounds q) (λ x g. g.0.bounds) 0 us u h)
    (hold_map (machine q) (λ x. IsKnown q w x × ArePathsSound x) ArePathsSound (λ x g. g.1) 0 us u h)))
    k rs w calm
    (hold_both (machine q) (IsKnown q w) ArePathsSound k rs w (hold_later (machine q) (IsKnown q w) 0 k rs w (omega arith) known) (paths_are_sound q w rs calm bounds))
