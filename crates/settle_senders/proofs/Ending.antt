-- A host ends to send: what nodes keep and what they ask for is never more than was wanted before, and H passes on no reservation names the
-- sender.
use Rattle.std.proofs.Common.{◌≡◌, ℕ, zero, suc, ◌+◌, ◌≤◌, List, [], ◌∷◌, length, Bool, true, false, Option, None, Some, ◌⊎◌, inl, inr, ⊎_elim, arith, sym, refl, ap, subst, ◌∙◌}
use Rattle.std.specs.Prelude.{slice_get, is_some, ◌||◌, map as each}
use Rattle.std.specs.Ordering.{eq_by_cmp}
use Rattle.rsvp_base.specs.declared.addr.Addr.{Addr}
use Rattle.rsvp_base.specs.declared.part.Part.{Part}
use Rattle.rsvp_base.specs.declared.session.Sender.{Sender}
use Rattle.rsvp_base.specs.declared.session.Session.{Session}
use Rattle.rsvp_base.specs.declared.style.StyleKind.{StyleKind}
use Rattle.rsvp_base.specs.declared.style.StyleKind.TheVariants.{Fixed, Shared, Wild}
use Rattle.rsvp_base.specs.declared.style.Unit.{Unit as UnitOf}
use Rattle.rsvp_base.specs.Members.{In}
use Rattle.rsvp_base.specs.Orders.{Names}
use Rattle.rsvp_base.specs.Sets.{IsWithin}
use Rattle.rsvp_base.specs.Styles.{name_of}
use Rattle.rsvp_base.specs.Table.{Table, get, has}
use Rattle.rsvp_base.specs.TokenBucket.{TokenBucket}
use Rattle.rsvp_base.proofs.Members.{in_append, in_each}
use Rattle.rsvp_base.proofs.SetLaws.{and_both, and_made}
use Rattle.rsvp_base.proofs.Tables.{either, tied_same}
use Rattle.rsvp_messages.specs.declared.message.Message.TheVariants as message
use Rattle.rsvp_messages.specs.declared.message.ResvMsg.{ResvMsg}
use Rattle.rsvp_messages.specs.Units.{AskedUnit, ask_style, asked_units}
use Rattle.style_rules.specs.Lines.{AreUnder, BookTable, NextHop, held}
use Rattle.style_rules.specs.PartLaws.{part_at_most_told, same_part}
use Rattle.style_rules.proofs.Books.{held_at_end_below}
use Rattle.laws_bounds.specs.FactLaws.{ComesBy}
use Rattle.laws_bounds.specs.SendLaws.{IsAskedOf}
use Rattle.laws_bounds.proofs.Asks.{units_told}
use Rattle.laws_bounds.proofs.Knowing.{has-known, known_and_via}
use Rattle.laws_bounds.proofs.Tests.{came_told}
use Rattle.laws_steps.specs.AcceptingLaws.{IsTakenWhole}
use Rattle.laws_steps.specs.ReservationLaws.{IsAskedFor}
use Rattle.laws_steps.proofs.Asking.{where_a_reservation_fact_comes_from}
use Rattle.router_rules.specs.Books.{book, lines}
use Rattle.router_rules.specs.Facts.{Facts, PathState, ResvState, SenderKey, resvs_of, sender_keys}
use Rattle.router_rules.specs.Inputs.{Call, Came, DropAs, Input, Local, Spelt}
use Rattle.router_rules.specs.Known.{Lane, known, names_via}
use Rattle.router_rules.specs.NodeConfig.{NodeConfig, own}
use Rattle.router_rules.specs.Requests.{toward}
use Rattle.router_rules.specs.Rule.{Outcome}
use Rattle.router_rules.specs.Steps.{IsLeftOf, facts_then, node_step}
use Rattle.tree_model.specs.declared.hops.LinkHop.{LinkHop}
use Rattle.tree_model.specs.declared.locals.LocalWant.{LocalWant}
use Rattle.tree_model.specs.Goals.{DemandsFit, addr_of}
use Rattle.tree_model.specs.Networks.{Net, end_at, iface_of, node_of}
use Rattle.tree_model.specs.Ranks.{longest, rank}
use Rattle.tree_model.specs.Trees.{outward, tree}
use Rattle.tree_model.specs.Wants.{Locals, goes_over, live, names}
use Rattle.tree_model.proofs.Following.{has_hop_in, in_has_hop, tree_group}
use Rattle.tree_model.proofs.Ifaces.{interfaces_are_ends}
use Rattle.tree_model.proofs.TreeLaws.{out_tested, the_root_has_no_inward}
use Rattle.tree_model.proofs.WantLaws.{name_made, name_told, want_names}
use Rattle.network_model.specs.Bounds.{AreBounds, AreHosts, IsStart}
use Rattle.network_model.specs.Events.{pass, passes}
use Rattle.network_model.specs.Locals.{IsLive, locals_of}
use Rattle.network_model.specs.Sound.{AreResvsSound, IsSoundPart, IsSoundUnit, TakesAll}
use Rattle.network_model.specs.Steps.{At, Deliver, Step, input_at, is_quiet, ms_of, outcome, sent, step, still}
use Rattle.network_model.specs.Worlds.{Item, World, config_of}
use Rattle.network_model.proofs.Machines.{in_arrived, in_flight_after}
use Rattle.network_model.proofs.NodeLocals.{is_live}
use Rattle.network_model.proofs.Quiet.{arrival_takes_no_time, outcome_by}
use Rattle.network_model.proofs.Stepping.{facts_after_found}
use Rattle.laws_network.specs.Known.{IsSameNet}
use Rattle.laws_network.proofs.Known.{came_there, has_some, of_some}
use Rattle.laws_network.proofs.Standing.{end_of, own_end}
use Rattle.settle_paths.specs.PreviousHops.{IsPrevious}
use Rattle.settle_paths.proofs.LiveSenders.{senders_found}
use Rattle.settle_paths.proofs.PreviousHops.{live_among, one_previous, previous_hops_are_all_hops}
use Rattle.settle_resvs.specs.GoalByIface.{goal_at}
use Rattle.settle_resvs.specs.Laws.{AreWantParts}
use Rattle.settle_resvs.specs.Sessions.{SessionFits}
use Rattle.settle_resvs.specs.SoftResvs.{AsksFor, ResvKey, line_key_of, resv_at}
use Rattle.settle_resvs.proofs.GoalByIface.{book_at, each_fits}
use Rattle.settle_resvs.proofs.SoftResvs.{IsAsked, WasThere, resv_found, resv_made, resv_source}
use Rattle.settle_resvs.proofs.SoundResvs.{part_again}
use Rattle.settle_resvs.proofs.TowardNames.{parts_of_style}
use Rattle.settle_resvs.proofs.UnderTheGoal.{sound_under}
use Rattle.settle_resvs.proofs.WantStyles.{want_parts}
use Rattle.settle_network.specs.Settled.{HasSettled}
use Rattle.settle_passes.specs.Calls.{HasItsPaths, HasNoPathOf, SendsAt, after_drop}
use Rattle.settle_passes.specs.Passes.{after_passes}
use Rattle.settle_passes.proofs.Deliveries.{known_self, live_back, same_next}
use Rattle.settle_passes.proofs.Dropping.{an_ended_sender_is_forgotten, fades}
use Rattle.settle_passes.proofs.Fading.{fading_next, not_tied}
use Rattle.settle_passes.proofs.Growing.{HasNoLess, still_wanted}
use Rattle.settle_passes.proofs.Leaving.{IsFading}
use Rattle.settle_passes.proofs.SoundParts.{sound_cut}
use Rattle.settle_passes.proofs.Spreading.{after_deliveries, run_then}
use Rattle.settle_passes.proofs.Turns.{HaveWays, Turns, addressed_back, left, over_way, place, resv_in_turn}
use Rattle.settle_releases.proofs.Accepting.{AreResvsWithin}
use Rattle.settle_passes.proofs.Fitting.{as_before}
use Rattle.settle_passes.proofs.Called.{IsCalled, called, turns as called_turns, wants_same}
use Rattle.settle_passes.proofs.Arriving.{turns as turns_of}
use Rattle.settle_releases.proofs.Within.{AreKeptWithin, named_within, toward_is_within_what_was_wanted}
use Rattle.settle_senders.specs.Ending.{AreAsksOfLive, AreNamesLive, AreNoMoreThanWanted, EndsHoldNoMore, IsNameOfLive}
use Rattle.settle_senders.specs.Following.{HasSenderNamed}
use Rattle.settle_senders.proofs.Accepting.{taken_as_wanted}
use Rattle.settle_senders.proofs.Asking.{asks_of_live, paths_stay}
use Rattle.settle_senders.proofs.Fewer.{hosts_after, sender_before}
use Rattle.settle_senders.proofs.Knowing.{name_known}
use Rattle.settle_senders.proofs.Naming.{KnowWhomTheyName, names_called, names_next}
use Rattle.settle_senders.proofs.Sending.{name_there}
use Rattle.settle_senders.proofs.Serving.{net_stays, passes_sum}

-- ---- what comes from a previous hop comes over a hop of the sender's tree, and in the earlier world somebody sent as the sender
pub record CameBefore (w : World) (net : Net) (n : ℕ) (s : Session) (hop : NextHop) (x : Sender) : Type 0 where
  pub way : LinkHop
  pub there : In way (tree net.hops s.group x.addr)
  pub previous : IsPrevious net n s hop way
  pub live : In x (live (locals_of w) s)

abbrev pub AllCameBefore : World → World → Type 0
AllCameBefore w u = (n : ℕ) (f : Facts) (s : Session) (hop : NextHop) (x : Sender) → slice_get u.nodes n ≡ Some f → ComesBy f s hop x → CameBefore w u.net n s hop x

-- so it is while a sender fades that sent before, where all others sent before too
pub all_came : (q : ℕ) (d : SenderKey) (flow : TokenBucket) (w u : World) → IsLive w d flow → IsFading q d u → ((k : SenderKey) (t : TokenBucket) → IsLive u k t → IsLive w k t) → AllCameBefore w u
all_came q d flow w u was fading lived n f s hop x at c =
    let by = came_told hop c.path c.by in
    either (eq_by_cmp sender_keys.cmp (s, x) d)
    (λ tied.
    let e : (s, x) ≡ d = tied_same sender_keys (s, x) d tied in
    let l = fading.left n f c.path at (ap (λ (z : SenderKey). get f.paths z) (sym e) ∙ c.there) in
    let there : In l.hop (tree u.net.hops s.group x.addr) = subst (λ (z : SenderKey). In l.hop (tree u.net.hops z.0.group z.1.addr)) (sym e) l.there in
    record {
      way = l.hop;
      there = there;
      previous = record { there = tree_group u.net.hops s.group x.addr l.hop there; node = l.node; iface = sym l.iface ∙ by.0; addr = sym l.from ∙ by.1 };
      live = live_among w s x flow (subst (λ (z : SenderKey). IsLive w z flow) (sym e) was);
    })
    (λ apart.
    let p = (fading.sound (s, x) (not_tied (s, x) d apart)).facts n f c.path at c.there in
    let is = (interfaces_are_ends u.net).iface_of_end n c.path.iface p.end p.at in
    record {
      way = p.sound.hop;
      there = p.sound.there;
      previous = record {
        there = tree_group u.net.hops s.group x.addr p.sound.hop p.sound.there;
        node = ap (node_of u.net.ends) p.sound.to ∙ is.1;
        iface = ap (iface_of u.net.ends) p.sound.to ∙ is.2 ∙ by.0;
        addr = sym p.sound.from ∙ by.1;
      };
      live = live_among w s x c.path.tspec (lived (s, x) c.path.tspec p.sound.live);
    })

pub ways_before : (w u : World) → AllCameBefore w u → HaveWays u
ways_before w u came n f s hop x at c = let a = came n f s hop x at c in record { way = a.way; there = a.there; previous = a.previous }

-- ---- a step by which a node follows its rule at most: what is sent asks for no more than was wanted, where nodes keep no more
module _ (q : ℕ) (t : Step) (u w : World) (bounds : AreBounds q u) (turns : (n : ℕ) (f : Facts) → slice_get u.nodes n ≡ Some f → (outcome q t u n f ≡ still f) ⊎ Turns q t u n f)
    (bounds' : AreBounds q (left q t u)) (came : AllCameBefore w (left q t u)) (kinds : AreWantParts (locals_of w))
    (wanted : (x : LocalWant) → In x (locals_of (left q t u)).wants → HasNoLess (locals_of w).wants x) (facts : AreKeptWithin w.nodes (left q t u)) where
  abbrev after : World
  after = left q t u

  -- names via a hop are over it, by who sent before
  via : (n : ℕ) (f : Facts) → slice_get after.nodes n ≡ Some f → (l : Lane) (h : LinkHop) → IsPrevious u.net n l.session l.hop h
      → IsWithin (names_via f l) (names l.style u.net (locals_of w) l.session (h ∷ []))
  via n f at l h is x e =
      let named = (known_and_via.all_by f l x).0 e in
      let comes = (known_and_via.via_by f l.session l.hop named.sender).0 named.among in
      let a = came n f l.session l.hop named.sender at comes in
      let one = one_previous u.net bounds.net n l.session l.hop a.way h a.previous is in
      let over : goes_over u.net l.session (h ∷ []) named.sender ≡ true =
      and_made _ _ (in_has_hop (tree u.net.hops l.session.group named.sender.addr) h (subst (λ (z : LinkHop). In z (tree u.net.hops l.session.group named.sender.addr)) one a.there)) refl in
      subst (λ (z : Sender). has (names l.style u.net (locals_of w) l.session (h ∷ [])) z ≡ true) (sym named.name)
      (name_made l.style u.net (locals_of w) l.session (h ∷ []) named.sender a.live over)

  pub unit_within : (y : Item) (b : Bool) (m : ResvMsg) → In (y, b) (sent q t u) → y.arrival ≡ Spelt (message.Resv m) → (v : AskedUnit) → In v (asked_units m.ask)
      → IsSoundUnit (as_before w.nodes after) y m v
  unit_within y b m i spelt v asks =
      let p = resv_in_turn q t u bounds turns y b m i spelt in
      let h = over_way q t u bounds turns bounds' (ways_before w after came) y m p in
      let parts = parts_of_style (place q t u p.node) after.clock p.facts (bounds'.facts p.node p.facts p.after) p.lane in
      let asked : IsAskedOf (toward (place q t u p.node) p.facts p.lane) v = (units_told p.lane.style (toward (place q t u p.node) p.facts p.lane) m.ask v parts p.asks).0 asks in
      let x = toward_is_within_what_was_wanted q w.nodes after bounds.net kinds wanted p.node p.facts p.after p.lane h.0 h.1 (via p.node p.facts p.after p.lane h.0 h.1)
      (named_within w.nodes after facts p.lane.style p.node p.facts p.lane.session (rank u.net p.lane.session.group h.0) p.after) v.unit asked.part asked.there in
      record {
        names = asked.part.senders;
        named = asked.names;
        sound = subst (λ (z : StyleKind × Session × ℕ × Addr × TokenBucket). IsSoundPart z.0 (as_before w.nodes after) z.1 z.2 z.3 v.unit (record { senders = asked.part.senders; flow = z.4 }))
            (λ j. (sym p.style j, sym p.session j, h.2 j, (ap (addr_of u.net) h.3 ∙ sym p.hop) j, sym asked.flow j)) x;
      }

-- ---- a network from which a sender fades: its reservations, and the Resvs in flight, are within what was wanted when it sent
pub record IsLettingGo (q : ℕ) (d : SenderKey) (w u : World) : Type 0 where
  pub fading : IsFading q d u
  pub names : KnowWhomTheyName u
  pub within : AreResvsWithin w.nodes u
  pub lived : (k : SenderKey) (t : TokenBucket) → IsLive u k t → IsLive w k t
  pub wanted : (x : LocalWant) → In x (locals_of u).wants → HasNoLess (locals_of w).wants x
  -- each Resv goes to the end whose address it is sent to
  pub addressed : (y : Item) (m : ResvMsg) → In y u.flight → y.arrival ≡ Spelt (message.Resv m) → y.dst ≡ addr_of u.net y.end

-- ---- one delivery
module _ (q : ℕ) (d : SenderKey) (flow : TokenBucket) (w u : World) (was : IsLive w d flow) (kinds : AreWantParts (locals_of w)) (r : IsLettingGo q d w u) where
  abbrev next : World
  next = step q (Deliver 0) u

  bounds : AreBounds q u
  bounds = r.fading.bounds

  pub faded : IsFading q d next
  faded = fading_next q 0 d u r.fading

  same : IsSameNet u next
  same = same_next q 0 u bounds u (known_self q u bounds).same

  pub lived_next : (k : SenderKey) (t : TokenBucket) → IsLive next k t → IsLive w k t
  lived_next k t l = r.lived k t (live_back q 0 u bounds k t l)

  pub wanted_next : (x : LocalWant) → In x (locals_of next).wants → HasNoLess (locals_of w).wants x
  wanted_next x i = r.wanted x (subst (λ (z : Locals). In x z.wants) same.locals i)

  -- a node that gets something gets a datagram
  pub turns : (n : ℕ) (f : Facts) → slice_get u.nodes n ≡ Some f → (outcome q (Deliver 0) u n f ≡ still f) ⊎ Turns q (Deliver 0) u n f
  turns = turns_of q u bounds

  -- what a node keeps it kept, or an item asked for it
  pub kept_within : AreKeptWithin w.nodes next
  kept_within st n g k x at h =
      let e = end_of q u.net u.trees n k.1.0.0 ((faded.bounds.facts n g at).shapes.resvs st k x h).iface in
      let of = (interfaces_are_ends u.net).iface_of_end n k.1.0.0 e.0 e.1 in
      let spot : ResvKey = record { session = k.0; style = st; unit = k.1.1; next = k.1.0.1; to = e.0 } in
      let found : resv_at next (node_of u.net.ends e.0) st (line_key_of u.net spot) ≡ Some x =
      ap (λ (z : ℕ). resv_at next z st (line_key_of u.net spot)) of.1 ∙ ap (λ (z : ℕ). resv_at next n st (k.0, ((z, k.1.0.1), k.1.1))) of.2 ∙ resv_made next n st k g at ∙ h in
      let good : IsSoundPart st (as_before w.nodes u) k.0 e.0 k.1.0.1 k.1.1 x.part =
      ⊎_elim
      (λ (old : WasThere u.net spot u x).
      let f = resv_found u (node_of u.net.ends e.0) st (line_key_of u.net spot) old.resv old.there in
      let y = r.within.facts st (node_of u.net.ends e.0) f.0 (line_key_of u.net spot) old.resv f.1 f.2 in
      let end : y.end ≡ e.0 = of_some y.end e.0 (sym y.at ∙ (interfaces_are_ends u.net).end_of_iface e.0 of.0) in
      sound_cut st (as_before w.nodes u) k.0 e.0 k.1.0.1 k.1.1 x.part old.resv.part (record { names = old.left.names; flow = old.left.flow; named = old.left.named })
      (subst (λ (z : ℕ). IsSoundPart st (as_before w.nodes u) k.0 z k.1.0.1 k.1.1 old.resv.part) end y.sound))
      (λ (new : IsAsked u.net spot (Deliver 0) u x).
      let y = r.within.items new.item new.says.resv new.says.unit (in_arrived (Deliver 0) u new.item new.arrives) new.says.spelt new.says.asks in
      let listed : AsksFor (Some y.names) new.part.senders = subst (λ (z : Option Names). AsksFor z new.part.senders) y.named new.says.names in
      let part : new.part ≡ record { senders = y.names; flow = new.says.unit.flow } = same_part new.part (record { senders = y.names; flow = new.says.unit.flow }) listed new.says.flow in
      sound_cut st (as_before w.nodes u) k.0 e.0 k.1.0.1 k.1.1 x.part new.part new.cut
      (subst (λ (z : StyleKind × Session × ℕ × Addr × UnitOf × Part). IsSoundPart z.0 (as_before w.nodes u) z.1 z.2 z.3 z.4 z.5)
      (λ i. (new.says.style i, new.says.session i, new.says.end i, new.says.hop i, new.says.at i, sym part i)) y.sound))
      (resv_source q u spot of.0 (Deliver 0) u refl (known_self q u bounds) x found) in
      record { end = e.0; at = e.1; sound = part_again st (as_before w.nodes u) (as_before w.nodes next) k.0 e.0 k.1.0.1 k.1.1 x.part refl refl good }

  pub letting_go_next : IsLettingGo q d w next
  letting_go_next = record {
    fading = faded;
    names = names_next q 0 u bounds r.names;
    within = record {
      facts = kept_within;
      items = λ y m v i spelt asks.
          ⊎_elim
          (λ (old : In y u.flight).
          let x = r.within.items y m v old spelt asks in
          record {
            names = x.names;
            named = x.named;
            sound = part_again (ask_style m.ask) (as_before w.nodes u) (as_before w.nodes next) m.session y.end m.hop.addr v.unit (record { senders = x.names; flow = v.flow }) refl refl x.sound;
          })
          (λ (new : (b : Bool) × In (y, b) (sent q (Deliver 0) u)).
          unit_within q (Deliver 0) u w bounds turns faded.bounds (all_came q d flow w next was faded lived_next) kinds wanted_next kept_within y new.0 m new.1 spelt v asks)
          (in_flight_after q (Deliver 0) u y refl i);
    };
    lived = lived_next;
    wanted = wanted_next;
    addressed = λ y m i spelt.
        ⊎_elim (λ (old : In y u.flight). r.addressed y m old spelt)
        (λ (new : (b : Bool) × In (y, b) (sent q (Deliver 0) u)).
        addressed_back q (Deliver 0) u bounds turns faded.bounds (ways_before w next (all_came q d flow w next was faded lived_next)) y new.0 m new.1 spelt)
        (in_flight_after q (Deliver 0) u y refl i);
  }

-- ---- passes, one after the other
module _ (q : ℕ) (d : SenderKey) (flow : TokenBucket) (w : World) (was : IsLive w d flow) (kinds : AreWantParts (locals_of w)) where
  deliveries_on : (m : ℕ) (u : World) → IsLettingGo q d w u → IsLettingGo q d w (after_deliveries q m u)
  deliveries_on zero u r = r
  deliveries_on (suc m) u r = deliveries_on m (step q (Deliver 0) u) (letting_go_next q d flow w u was kinds r)

  passes_on : (m : ℕ) (u : World) → IsLettingGo q d w u → IsLettingGo q d w (after_passes q m u)
  passes_on zero u r = r
  passes_on (suc m) u r =
      let v : World = after_deliveries q (length u.flight) u in
      subst (λ (z : World). IsLettingGo q d w z) (sym (run_then q (pass q u) (passes q m v) u)) (passes_on m v (deliveries_on (length u.flight) u r))

-- ---- so no node keeps more than was wanted
module _ (q : ℕ) (d : SenderKey) (w u : World) (r : IsLettingGo q d w u) (net : u.net ≡ w.net) where
  pub asks_for_no_more : AreNoMoreThanWanted w u
  asks_for_no_more st m f k x at e =
      let y = r.within.facts st m f k x at e in
      record {
        end = y.end;
        at = subst (λ (z : Net). end_at z.ends m k.1.0.0 ≡ Some y.end) net y.at;
        sound = part_again st (as_before w.nodes u) w k.0 y.end k.1.0.1 k.1.1 x.part net refl y.sound;
      }

  pub no_end_holds_more : AreBounds q w → EndsHoldNoMore w u
  no_end_holds_more bounds e f lt at =
      let m : ℕ = node_of w.net.ends e in
      let j : ℕ = iface_of w.net.ends e in
      let under : AreUnder (lines f) (goal_at w.net (locals_of w) m) = sound_under w m f (λ st k x h. asks_for_no_more st m f k x at h) in
      subst (λ (z : BookTable). held (book f j) ≤ held z) (book_at w.net bounds.net (locals_of w) m j e ((interfaces_are_ends w.net).end_of_iface e lt))
      (held_at_end_below j (lines f) (goal_at w.net (locals_of w) m) under)

-- ---- and where paths are those of the live senders, whom a node knows is live
module _ (q : ℕ) (d : SenderKey) (w u : World) (r : IsLettingGo q d w u) (has_them : HasItsPaths q u) where
  live_by : (m : ℕ) (f : Facts) → slice_get u.nodes m ≡ Some f → (s : Session) (st : StyleKind) (x y : Sender) → x ≡ name_of st y → (o : Option TokenBucket) (p : Option PathState)
      → get f.senders (s, y) ≡ o → get f.paths (s, y) ≡ p → (has f.senders (s, y) || has f.paths (s, y)) ≡ true → IsNameOfLive u s st x
  live_by m f at s st x y name (Some t) p e g sure = record { sender = y; flow = t; live = is_live u m f (s, y) t at e; name = name }
  live_by m f at s st x y name None (Some p) e g sure = record { sender = y; flow = p.tspec; live = (has_them.sound.facts m f (s, y) p at g).sound.live; name = name }
  live_by m f at s st x y name None None e g sure = let bad : true ≡ false = sym sure ∙ (λ i. is_some (e i) || is_some (g i)) in absurd (cc)

  pub names_live : AreNamesLive u
  names_live st m f k y x at e named =
      let z = (known_and_via.named_by st (known f k.0) x).0 (r.names m f at st k y x e named) in
      live_by m f at k.0 st x z.sender z.name (get f.senders (k.0, z.sender)) (get f.paths (k.0, z.sender)) refl refl (sym (has-known f k.0 z.sender) ∙ z.among)

-- ---- the host ends
module _ (q n : ℕ) (d : SenderKey) (w : World) (start : HasItsPaths q w) (sound : AreResvsSound w) (sends : SendsAt w n d) (quiet : HasNoPathOf w d)
    (addressed : (y : Item) (m : ResvMsg) → In y w.flight → y.arrival ≡ Spelt (message.Resv m) → y.dst ≡ addr_of w.net y.end) where
  abbrev call : Local
  call = DropAs d.0 d.1

  abbrev begun : World
  begun = after_drop q n d w

  hosts : AreHosts begun
  hosts = hosts_after q n d w start.hosts

  pub fades_now : IsFading q d begun
  fades_now = fades q n d w start sends quiet hosts

  pub flow : (t : TokenBucket) × (get sends.facts.senders d ≡ Some t)
  flow = has_some (get sends.facts.senders d) sends.sends

  pub was : IsLive w d flow.0
  was = is_live w n sends.facts d flow.0 sends.there flow.1

  pub kinds : AreWantParts (locals_of w)
  kinds = want_parts q w start.bounds

  turned : (m : ℕ) (f : Facts) → slice_get w.nodes m ≡ Some f → (outcome q (At n call) w m f ≡ still f) ⊎ Turns q (At n call) w m f
  turned = called_turns q n call w

  pub lived_now : (k : SenderKey) (t : TokenBucket) → IsLive begun k t → IsLive w k t
  lived_now k t l =
      let g = senders_found begun l.node l.senders l.at in
      let f = sender_before q n d w start.hosts l.node g.0 k t g.1 (ap (λ (z : Table sender_keys TokenBucket). get z k) g.2 ∙ l.sends) in
      is_live w l.node f.0 k t f.1 f.2

  pub wanted_now : (x : LocalWant) → In x (locals_of begun).wants → HasNoLess (locals_of w).wants x
  wanted_now = still_wanted (locals_of begun).wants (locals_of w).wants (wants_same q n call w refl)

  -- what nodes keep they kept before, perhaps with fewer names
  pub kept_now : AreKeptWithin w.nodes begun
  kept_now st m g k x at e =
      let f = facts_after_found q (At n call) w m g at in
      let now : get (resvs_of st (outcome q (At n call) w m f.0).facts) k ≡ Some x = ap (λ (z : Facts). get (resvs_of st z) k) (sym f.2) ∙ e in
      let p : NodeConfig = config_of q w.net w.trees m in
      let c : ℕ = w.clock + ms_of (At n call) in
      let r : (r : ResvState) × (get (resvs_of st f.0) k ≡ Some r) × IsLeftOf r x =
      ⊎_elim
      (λ (z : outcome q (At n call) w m f.0 ≡ still f.0).
      let old : get (resvs_of st f.0) k ≡ Some x = sym (ap (λ (o : Outcome). get (resvs_of st o.facts) k) z) ∙ now in
      (x, old, record { names = λ y i. i; flow = refl; named = ((start.bounds.facts m f.0 f.1).shapes.resvs st k x old).style.named; dies = refl }))
      (λ (h : IsCalled q w n call m f.0).
      ⊎_elim (λ (old : (r : ResvState) × (get (resvs_of st f.0) k ≡ Some r) × IsLeftOf r x). old)
      (λ (asked : IsAskedFor p c (Call call) f.0 st k x). let bad : Call call ≡ Came k.1.0.0 (own p k.1.0.0) (Spelt (message.Resv asked.by.resv)) = asked.by.came in absurd (cc))
      (where_a_reservation_fact_comes_from (node_step p p w.clock c (Call call) f.0) (start.bounds.facts m f.0 f.1) st k x
      (sym (ap (λ (o : Outcome). get (resvs_of st o.facts) k) h.is) ∙ now)))
      (called q w n call m f.0) in
      let y = sound.facts st m f.0 k r.0 f.1 r.1 in
      record {
        end = y.end;
        at = y.at;
        sound = part_again st w (as_before w.nodes begun) k.0 y.end k.1.0.1 k.1.1 x.part refl refl
            (sound_cut st w k.0 y.end k.1.0.1 k.1.1 x.part r.0.part (record { names = r.2.names; flow = r.2.flow; named = r.2.named }) y.sound);
      }

  pub in_flight_now : (y : Item) → In y begun.flight → In y w.flight ⊎ ((b : Bool) × In (y, b) (sent q (At n call) w))
  in_flight_now y i =
      ⊎_elim (λ (old : In y w.flight). inl old)
      (λ (j : In y (each (λ (z : Item × Bool). z.0) (sent q (At n call) w))).
      let r = in_each (λ (z : Item × Bool). z.0) y (sent q (At n call) w) j in
      inr (r.0.1, subst (λ (z : Item). In (z, r.0.1) (sent q (At n call) w)) (sym r.2) r.1))
      (in_append y w.flight (each (λ (z : Item × Bool). z.0) (sent q (At n call) w)) i)

  -- nodes knew whom their reservations name
  knew : KnowWhomTheyName w
  knew m f at st k r x e named =
      let y = sound.facts st m f k r at e in
      let of = (interfaces_are_ends w.net).iface_of_end m k.1.0.0 y.end y.at in
      name_known w y.end k.0 st x (name_there q w start st k.0 y.end k.1.0.1 k.1.1 r.part y.sound x named) f (ap (λ (z : ℕ). slice_get w.nodes z) of.1 ∙ at)

  pub lets_go : IsLettingGo q d w begun
  lets_go = record {
    fading = fades_now;
    names = names_called q n call w start.bounds knew;
    within = record {
      facts = kept_now;
      items = λ y m v i spelt asks.
          ⊎_elim
          (λ (old : In y w.flight).
          let x = sound.items y m v old spelt asks in
          record {
            names = x.names;
            named = x.named;
            sound = part_again (ask_style m.ask) w (as_before w.nodes begun) m.session y.end m.hop.addr v.unit (record { senders = x.names; flow = v.flow }) refl refl x.sound;
          })
          (λ (new : (b : Bool) × In (y, b) (sent q (At n call) w)).
          unit_within q (At n call) w w start.bounds turned fades_now.bounds (all_came q d flow.0 w begun was fades_now lived_now) kinds wanted_now kept_now y new.0 m new.1 spelt v asks)
          (in_flight_now y i);
    };
    lived = lived_now;
    wanted = wanted_now;
    addressed = λ y m i spelt.
        ⊎_elim (λ (old : In y w.flight). addressed y m old spelt)
        (λ (new : (b : Bool) × In (y, b) (sent q (At n call) w)).
        addressed_back q (At n call) w start.bounds turned fades_now.bounds (ways_before w begun (all_came q d flow.0 w begun was fades_now lived_now)) y new.0 m new.1 spelt)
        (in_flight_now y i);
  }

  pub then_on : (i : ℕ) → IsLettingGo q d w (after_passes q i begun)
  then_on i = passes_on q d flow.0 w was kinds i begun lets_go

  -- from H passes on
  abbrev later : ℕ → World
  later i = after_passes q (longest w.net + i) begun

  pub forgotten : (i : ℕ) → HasItsPaths q (later i)
  forgotten i =
      subst (λ (z : World). HasItsPaths q z) (sym (passes_sum q (longest w.net) i begun))
      (paths_stay q i (after_passes q (longest w.net) begun) (an_ended_sender_is_forgotten q n d w start sends quiet hosts))

  -- whom a node knows when its path is gone is live
  pub no_reservation_names_it : (i : ℕ) → HasItsPaths q (later i) × AreNamesLive (later i)
  no_reservation_names_it i = (forgotten i, names_live q d w (later i) (then_on (longest w.net + i)) (forgotten i))

  -- and a pass later no Resv in flight does
  pub no_resv_names_it : (i : ℕ) → AreAsksOfLive (later (suc i))
  no_resv_names_it i =
      let sum : (longest w.net + i) + 1 ≡ longest w.net + suc i = omega arith in
      subst (λ (m : ℕ). AreAsksOfLive (after_passes q m begun)) sum
      (subst AreAsksOfLive (sym (passes_sum q (longest w.net + i) 1 begun)) (asks_of_live q (later i) (forgotten i)))

  -- so each Resv that arrives then is taken whole, where the demands fitted before
  same_addr : (st : StyleKind) (a b : Sender) → name_of st a ≡ name_of st b → a.addr ≡ b.addr
  same_addr Wild a b e = ap (λ (z : Sender). z.addr) e
  same_addr Fixed a b e = ap (λ (z : Sender). z.addr) e
  same_addr Shared a b e = ap (λ (z : Sender). z.addr) e

  module _ (u : World) (r : IsLettingGo q d w u) (has_them : HasItsPaths q u) (live_ones : AreAsksOfLive u) (net : u.net ≡ w.net) (fit : DemandsFit w.net (locals_of w)) where
    known_there : (y : Item) (m : ResvMsg) (f : Facts) → In y u.flight → y.arrival ≡ Spelt (message.Resv m) → slice_get u.nodes (node_of u.net.ends y.end) ≡ Some f
        → (v : AskedUnit) (ns : Names) (x : Sender) → In v (asked_units m.ask) → v.names ≡ Some ns → has ns x ≡ true → HasSenderNamed u y.end m.session (ask_style m.ask) x
    known_there y m f i spelt at v ns x asks listed there =
        let st : StyleKind = ask_style m.ask in
        let e : ℕ = node_of u.net.ends y.end in
        let k = r.within.items y m v i spelt asks in
        let same : ns ≡ k.names = of_some ns k.names (sym listed ∙ k.named) in
        let up = part_at_most_told (record { senders = k.names; flow = v.flow }) k.sound.wanted k.sound.below in
        let a = name_told st u.net (locals_of w) m.session (k.sound.hop ∷ []) x
        (want_names st u.net (locals_of w) m.session k.sound.hop v.unit k.sound.wanted k.sound.is x (up.names x (ap (λ (z : Names). has z x) (sym same) ∙ there))) in
        let b = live_ones y m v ns x i spelt asks listed there in
        let addr : a.0.addr ≡ b.sender.addr = same_addr st a.0 b.sender (sym a.3 ∙ b.name) in
        let hop : In k.sound.hop (tree u.net.hops m.session.group b.sender.addr) =
        subst (λ (z : Addr). In k.sound.hop (tree u.net.hops m.session.group z)) addr (has_hop_in (tree u.net.hops m.session.group a.0.addr) k.sound.hop (and_both _ _ a.2).0) in
        let leaves : In y.end (outward u.net e m.session.group b.sender.addr) = out_tested u.net e y.end m.session.group b.sender.addr (k.sound.hop, hop, k.sound.from, refl) in
        let reaches = (the_root_has_no_inward u.net has_them.bounds.net).entered e y.end m.session.group b.sender.addr leaves in
        record {
          sender = b.sender;
          knows = record {
            facts = f;
            there = at;
            known_one = ((previous_hops_are_all_hops u has_them.bounds.net has_them.hosts has_them.sound has_them.complete).known e f m.session b.sender at).1
                (live_among u m.session b.sender b.flow b.live, reaches);
          };
          leaves = leaves;
          name = b.name;
        }

    pub taken_then : (y : Item) (m : ResvMsg) (f : Facts) → In y u.flight → y.arrival ≡ Spelt (message.Resv m) → slice_get u.nodes (node_of u.net.ends y.end) ≡ Some f
        → IsTakenWhole (config_of q u.net u.trees (node_of u.net.ends y.end)) (config_of q u.net u.trees (node_of u.net.ends y.end)) u.clock (iface_of u.net.ends y.end) m f
        (goal_at u.net (locals_of w) (node_of u.net.ends y.end))
    taken_then y m f i spelt at =
        let fits : SessionFits u.net (locals_of w) m.session = subst (λ (z : Net). SessionFits z (locals_of w) m.session) (sym net) (each_fits w.net (locals_of w) fit m.session) in
        taken_as_wanted q m.session w.nodes u has_them.bounds r.wanted fits r.within y m i spelt refl f at (known_there y m f i spelt at)

    pub takes_all_then : (t : Step) → is_quiet t ≡ true → TakesAll q t u
    takes_all_then t quiet_one y m f v arr spelt at asked =
        let i : In y u.flight = in_arrived t u y arr in
        let e : ℕ = node_of u.net.ends y.end in
        let j : ℕ = iface_of u.net.ends y.end in
        let p : NodeConfig = config_of q u.net u.trees e in
        let lt = (has_them.bounds.flight y i).end in
        let end : end_at u.net.ends e j ≡ Some y.end = (interfaces_are_ends u.net).end_of_iface y.end lt in
        let dst : y.dst ≡ own p j = r.addressed y m i spelt ∙ sym (own_end q u.net u.trees e j y.end end) in
        let input : Input = Came j (own p j) (Spelt (message.Resv m)) in
        let came : input_at t u e ≡ Some input = came_there q u u (known_self q u has_them.bounds) y.end lt t y arr refl ∙ (λ z. Some (Came j (dst z) (spelt z))) in
        let ms : u.clock + ms_of t ≡ u.clock = (let z = arrival_takes_no_time t u y arr in omega arith) in
        let is = outcome_by q t u e f input quiet_one came in
        let taken = taken_then y m f i spelt at in
        let k = r.within.items y m v i spelt asked in
        let x = taken.facts v k.names asked k.named in (
          x.0,
          ap (λ (o : Outcome). get (resvs_of (ask_style m.ask) o.facts) (m.session, ((j, m.hop.addr), v.unit))) is
              ∙ (λ z. get (resvs_of (ask_style m.ask) (facts_then p p (ms z) input f)) (m.session, ((j, m.hop.addr), v.unit))) ∙ x.1,
          k.named ∙ ap (λ (z : Part). Some z.senders) (sym x.2),
          ap (λ (z : Part). z.flow) (sym x.2),
        )

  pub all_is_taken : DemandsFit w.net (locals_of w) → (i : ℕ) (t : Step) → is_quiet t ≡ true → TakesAll q t (later (suc i))
  all_is_taken fit i t quiet_one = takes_all_then (later (suc i)) (then_on (longest w.net + suc i)) (forgotten (suc i)) (no_resv_names_it i) (net_stays q (longest w.net + suc i) begun) fit t quiet_one

-- ---- a settled network in which nothing is in flight
pub settled_has_paths : (q : ℕ) (w : World) → AreBounds q w → AreHosts w → HasSettled q w → w.flight ≡ [] → HasItsPaths q w
settled_has_paths q w bounds locals settled quiet = record {
  bounds = bounds;
  hosts = locals;
  sound = settled.paths_sound;
  complete = settled.paths_complete;
  no_tear = λ y m i. absurd (subst (λ (z : List Item). In y z) quiet i);
}

pub a_settled_network_takes_all : (q n i : ℕ) (d : SenderKey) (w : World) → IsStart q w → HasSettled q w → w.flight ≡ [] → SendsAt w n d → (t : Step) → is_quiet t ≡ true
    → TakesAll q t (after_passes q (longest w.net + suc i) (after_drop q n d w))
a_settled_network_takes_all q n i d w begins settled quiet sends t quiet_one =
    all_is_taken q n d w (settled_has_paths q w begins.bounds begins.locals settled quiet) settled.resvs_sound sends (λ y m f j. absurd (subst (λ (z : List Item). In y z) quiet j))
    (λ y m j. absurd (subst (λ (z : List Item). In y z) quiet j)) begins.fit i t quiet_one
