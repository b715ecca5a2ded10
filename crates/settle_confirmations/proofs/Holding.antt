-- The last answer comes when no request is in flight any more: then what the end asked for is held along the whole way.
use Rattle.std.proofs.Common.{◌≡◌, ℕ, zero, suc, ◌+◌, ◌*◌, ◌<◌, ◌≤◌, List, [], ◌∷◌, ◌++◌, length, Bool, true, false, Option, Some, ◌⊎◌, inl, inr, ⊎_elim, arith, sym, refl, ap, subst, ◌∙◌}
use Rattle.std.specs.Prelude.{slice_get, not, map as each}
use Rattle.std.specs.List.{flat_map, remove, repeat}
use Rattle.rsvp_base.specs.declared.part.Part.{Part}
use Rattle.rsvp_base.specs.declared.session.Sender.{Sender}
use Rattle.rsvp_base.specs.declared.session.Session.{Session}
use Rattle.rsvp_base.specs.declared.style.StyleKind.{StyleKind}
use Rattle.rsvp_base.specs.declared.style.Unit.{Unit as UnitOf}
use Rattle.rsvp_base.specs.Members.{In}
use Rattle.rsvp_base.specs.Orders.{Names, senders, units}
use Rattle.rsvp_base.specs.Sets.{cut, is_none}
use Rattle.rsvp_base.specs.Styles.{name_of, part_unit}
use Rattle.rsvp_base.specs.Table.{get, has, values}
use Rattle.rsvp_base.specs.TokenBucket.{TokenBucket}
use Rattle.rsvp_base.proofs.Members.{in_all, in_left, in_right, to_flat_map}
use Rattle.rsvp_base.proofs.SetLaws.{and_made, has-cut}
use Rattle.rsvp_base.proofs.Tables.{either}
use Rattle.rsvp_messages.specs.declared.message.Message.TheVariants as message
use Rattle.rsvp_messages.specs.declared.message.ResvMsg.{ResvMsg}
use Rattle.rsvp_messages.specs.Proper.{IsProperAsk}
use Rattle.rsvp_messages.specs.Units.{ask_style}
use Rattle.style_rules.specs.CutLaws.{part_of_some}
use Rattle.style_rules.specs.FlowOrder.{IsAtMost}
use Rattle.style_rules.specs.Merge.{PartTable}
use Rattle.style_rules.specs.PartLaws.{part_at_most_told}
use Rattle.style_rules.specs.Parts.{part_cut}
use Rattle.style_rules.proofs.Lattice.{at_most_along}
use Rattle.style_rules.proofs.Merges.{merge_above}
use Rattle.calm_rounds.specs.Machine.{Happens, run}
use Rattle.laws_bounds.proofs.Lists.{to_values}
use Rattle.router_rules.specs.Facts.{Facts, resvs_of}
use Rattle.router_rules.specs.Inputs.{Arrival, Spelt}
use Rattle.router_rules.specs.Rule.{Outcome}
use Rattle.tree_model.specs.declared.hops.LinkHop.{LinkHop}
use Rattle.tree_model.specs.Goals.{addr_of}
use Rattle.tree_model.specs.Networks.{Net, iface_of, node_of}
use Rattle.tree_model.specs.Ranks.{followers, has_hop, longest}
use Rattle.tree_model.specs.Trees.{tree}
use Rattle.tree_model.specs.Valid.{IsValid}
use Rattle.tree_model.specs.Wants.{Locals, as_list, brought, goes_over, live, names, own, want}
use Rattle.tree_model.proofs.Following.{follows_follower, in_has_hop, tree_group}
use Rattle.tree_model.proofs.TreeLaws.{one}
use Rattle.tree_model.proofs.WantLaws.{name_made, name_told, want_equation, want_names}
use Rattle.network_model.specs.Bounds.{IsProperArrival}
use Rattle.network_model.specs.Events.{pass, passes}
use Rattle.network_model.specs.Locals.{locals_of}
use Rattle.network_model.specs.Sound.{IsExact}
use Rattle.network_model.specs.Steps.{Deliver, Step, machine, outcome, rest, sent, step, still}
use Rattle.network_model.specs.Worlds.{Item, World}
use Rattle.network_model.proofs.Changing.{what_is_sent_is_copied}
use Rattle.network_model.proofs.Machines.{in_arrived, in_flight_after}
use Rattle.network_model.proofs.NodeLocals.{live_told}
use Rattle.network_model.proofs.Stepping.{facts_after_found}
use Rattle.settle_paths.proofs.PreviousHops.{ends_there, same_by_addr}
use Rattle.settle_resvs.specs.Sessions.{AreExactOf}
use Rattle.settle_resvs.proofs.SoftResvs.{resv_made}
use Rattle.settle_passes.specs.Passes.{after_passes}
use Rattle.settle_passes.specs.Reserving.{IsReserving}
use Rattle.settle_passes.proofs.Deliveries.{came_by_delivery, known_self, now_or_later, same_next}
use Rattle.settle_passes.proofs.Reserving.{reserving_next, turns}
use Rattle.settle_passes.proofs.Rising.{reservations_are_set_up}
use Rattle.settle_passes.proofs.Serving.{settled_again}
use Rattle.settle_passes.proofs.Spreading.{run_then}
use Rattle.settle_passes.proofs.Turns.{Turns}
use Rattle.settle_confirmations.specs.Requests.{IsAnswered, IsConfirmed, IsForAtLeast, IsHeldAlong, IsOnlySender, IsReached, IsRequest, IsWay, arrival_units}
use Rattle.settle_confirmations.proofs.Answering.{GoesOnThere, IsAnsweredThere, IsOnward, new_item, up_moves}
use Rattle.settle_confirmations.proofs.Keeping.{nobody}
use Rattle.settle_confirmations.proofs.Moving.{IsAsking, IsConf, IsDown, IsUp, down_next, in_tree, listed_one}
use Rattle.settle_confirmations.proofs.Passing.{Answers, all_asking, answered_in, begins, ranks_down}
use Rattle.settle_confirmations.proofs.Returning.{GoesDown, asking_next, conf_item, conf_keeps, down_moves}
use Rattle.settle_confirmations.proofs.Taken.{some_unit}
use Rattle.settle_confirmations.proofs.Waiting.{happens_first, happens_so, happens_then}

-- ---- what is wanted of the sender over the hops of a way
record IsWantedOver (st : StyleKind) (net : Net) (l : Locals) (s : Session) (x : Sender) (flow : TokenBucket) (h : LinkHop) : Type 0 where
  unit : UnitOf
  part : Part
  is : get (want st net l s h) unit ≡ Some part
  named : has part.senders (name_of st x) ≡ true
  covers : IsAtMost flow part.flow

module _ (st : StyleKind) (net : Net) (valid : IsValid net) (l : Locals) (s : Session) (x : Sender) (only : (z : Sender) → In z (live l s) → z ≡ x) (flow : TokenBucket) where
  abbrev hops : List LinkHop
  hops = tree net.hops s.group x.addr

  -- over the hop before as well
  one_up : (h h' : LinkHop) → In h hops → In h' hops → node_of net.ends h'.from ≡ node_of net.ends h.to → IsWantedOver st net l s x flow h' → IsWantedOver st net l s x flow h
  one_up h h' there there' meet w =
      let told = name_told st net l s (h' ∷ []) (name_of st x) (want_names st net l s h' w.unit w.part w.is (name_of st x) w.named) in
      let lives : In x (live l s) = subst (λ (z : Sender). In z (live l s)) (only told.0 told.1) told.1 in
      let over : goes_over net s (h ∷ h' ∷ []) x ≡ true =
      in_all (has_hop hops) (h ∷ h' ∷ [])
      (λ y i. in_has_hop hops y
      (⊎_elim (λ (e : y ≡ h). subst (λ (z : LinkHop). In z hops) (sym e) there)
      (λ (k : In y (h' ∷ [])). ⊎_elim (λ (e : y ≡ h'). subst (λ (z : LinkHop). In z hops) (sym e) there') (λ (no : ⊥). absurd no) k) i)) in
      let both : Names = names st net l s (h ∷ h' ∷ []) in
      let in_both : has both (name_of st x) ≡ true = name_made st net l s (h ∷ h' ∷ []) x lives over in
      let in_cut : has (cut w.part.senders both) (name_of st x) ≡ true = has-cut senders w.part.senders both (name_of st x) ∙ and_made _ _ w.named in_both in
      let some : is_none (cut w.part.senders both) ≡ false =
      either (is_none (cut w.part.senders both)) (λ none. absurd (nobody (cut w.part.senders both) (name_of st x) none in_cut)) (λ no. no) in
      let part : Part = record { senders = cut w.part.senders both; flow = w.part.flow } in
      let made : part_cut w.part both ≡ Some part = part_of_some (cut w.part.senders both) w.part.flow some in
      let follows : In h' (followers net s.group h) = follows_follower net s.group h h' (record { source = x.addr; first = there; second = there'; meet = meet }) in
      let listed : In part (as_list (part_cut w.part both)) = subst (λ (o : Option Part). In part (as_list o)) (sym made) (inl refl) in
      let brings : In part (brought st net l s h (want st net l s) h') =
      to_flat_map (λ (p : Part). as_list (part_cut p both)) w.part part (values (want st net l s h')) (to_values units (want st net l s h') w.unit w.part w.is) listed in
      let among : In part (own st net l s h ++ flat_map (brought st net l s h (want st net l s)) (followers net s.group h)) =
      in_right part (own st net l s h) (flat_map (brought st net l s h (want st net l s)) (followers net s.group h))
      (to_flat_map (brought st net l s h (want st net l s)) h' part (followers net s.group h) follows brings) in
      let above = merge_above units (part_unit st) (λ (p : Part). p) (own st net l s h ++ flat_map (brought st net l s h (want st net l s)) (followers net s.group h)) part among (ap not some) in
      record {
        unit = part_unit st part;
        part = above.0;
        is = ap (λ (t : PartTable). get t (part_unit st part)) ((want_equation st net l s valid.loop_free).equation h) ∙ above.1;
        named = above.2.names (name_of st x) in_cut;
        covers = at_most_along flow w.part.flow above.0.flow w.covers above.2.flow;
      }

  along : (e : ℕ) → ((h : LinkHop) → In h hops → h.to ≡ e → IsWantedOver st net l s x flow h) → (hs : List LinkHop) (h : LinkHop) → In h hops → IsWay net s x e h hs → IsWantedOver st net l s x flow h
  along e last [] h there way = last h there way
  along e last (h' ∷ hs) h there way = one_up h h' there way.0 way.1 (along e last hs h' way.0 way.2)

-- ---- ResvConfs alone
abbrev AreConfs : World → Type 0
AreConfs w = (y : Item) → In y w.flight → IsConf y

no_conf : (y : Item) (m : ResvMsg) → y.arrival ≡ Spelt (message.Resv m) → IsConf y → ⊥
no_conf y m says k = let bad : Spelt (message.Resv m) ≡ Spelt (message.ResvConf k.0) = sym says ∙ k.1 in cc

module _ (q : ℕ) (s : Session) (st : StyleKind) (x : Sender) (flow : TokenBucket) (e : ℕ) where
  abbrev Then : ℕ → World → World
  Then m u = run (machine q) (repeat m (Deliver 0 ∷ [])) u

  -- over each hop into the end the flow is wanted of the sender
  abbrev IsWantedAtTheEnd : World → Type 0
  IsWantedAtTheEnd u = (h : LinkHop) → In h (tree u.net.hops s.group x.addr) → h.to ≡ e → IsWantedOver st u.net (locals_of u) s x flow h

  same_locals : (u : World) → IsAsking q s st x e u → locals_of (step q (Deliver 0) u) ≡ locals_of u
  same_locals u a = (same_next q 0 u a.reserving.paths.bounds u (known_self q u a.reserving.paths.bounds).same).locals

  wanted_next : (u : World) → IsAsking q s st x e u → IsWantedAtTheEnd u → IsWantedAtTheEnd (step q (Deliver 0) u)
  wanted_next u a wanted h there to = subst (λ (l : Locals). IsWantedOver st u.net l s x flow h) (sym (same_locals u a)) (wanted h there to)

  -- what a ResvConf makes a node send
  conf_sent : (u : World) → IsAsking q s st x e u → AreConfs u → (z : Item) (b : Bool) → In (z, b) (sent q (Deliver 0) u) → IsConf z
  conf_sent u a confs z b sends =
      let c = (what_is_sent_is_copied q (Deliver 0) u (z, b)).0 sends in
      ⊎_elim
      (λ (h : outcome q (Deliver 0) u c.node c.facts ≡ still c.facts). absurd (subst (λ (w : Outcome). In c.send w.sent) h c.sent))
      (λ (t : Turns q (Deliver 0) u c.node c.facts).
      let d = came_by_delivery q 0 u a.reserving.paths.bounds c.node t.input t.came in
      conf_item q s u a.reserving d.item d.arrives (confs d.item (in_arrived (Deliver 0) u d.item d.arrives)) z b sends)
      (turns q s u a.reserving c.node c.facts c.there)

  -- ---- where ResvConfs alone are in flight, all stays as it is
  record IsWhole (u : World) : Type 0 where
    asking : IsAsking q s st x e u
    confs : AreConfs u
    all : (c : Session) → IsReserving q c u
    reached : IsReached u.net s x e
    wanted : IsWantedAtTheEnd u

  whole_next : (u : World) → IsWhole u → IsWhole (step q (Deliver 0) u)
  whole_next u k = record {
    asking = asking_next q s st x e u k.asking;
    confs = λ y i.
        ⊎_elim (λ (old : In y u.flight). k.confs y old) (λ (new : (b : Bool) × In (y, b) (sent q (Deliver 0) u)). conf_sent u k.asking k.confs y new.0 new.1)
        (in_flight_after q (Deliver 0) u y refl i);
    all = λ c. reserving_next q c u (k.all c);
    reached = k.reached;
    wanted = wanted_next u k.asking k.wanted;
  }

  -- so reservations that are exact when it is over are exact now
  exact_back : (u : World) → IsWhole u → (c : Session) → AreExactOf c (step q (Deliver 0) u) → AreExactOf c u
  exact_back u k c exact st' h there =
      let ex : IsExact st' (step q (Deliver 0) u) c h = exact st' h there in
      let f = facts_after_found q (Deliver 0) u (node_of u.net.ends h.from) ex.facts ex.node in
      let same : ex.facts ≡ f.0 = f.2 ∙ conf_keeps q s u k.asking.reserving k.confs (node_of u.net.ends h.from) f.0 f.1 in
      let locals = same_locals u k.asking in
      record {
        facts = f.0;
        node = f.1;
        wanted = λ un p w.
            let r = ex.wanted un p (ap (λ (l : Locals). get (want st' u.net l c h) un) locals ∙ w) in
            (r.0, ap (λ (z : Facts). get (resvs_of st' z) (c, ((iface_of u.net.ends h.from, addr_of u.net h.to), un))) (sym same) ∙ r.1, r.2);
        stands = λ un r w.
            ap (λ (l : Locals). get (want st' u.net l c h) un) (sym locals)
            ∙ ex.stands un r (ap (λ (z : Facts). get (resvs_of st' z) (c, ((iface_of u.net.ends h.from, addr_of u.net h.to), un))) same ∙ w);
      }

  whole_on : (m : ℕ) (u : World) → IsWhole u → IsWhole (Then m u)
  whole_on zero u k = k
  whole_on (suc m) u k = whole_on m (step q (Deliver 0) u) (whole_next u k)

  back_on : (m : ℕ) (u : World) → IsWhole u → (c : Session) → AreExactOf c (Then m u) → AreExactOf c u
  back_on zero u k c exact = exact
  back_on (suc m) u k c exact = exact_back u k c (back_on m (step q (Deliver 0) u) (whole_next u k) c exact)

  back_passes : (n : ℕ) (u : World) → IsWhole u → (c : Session) → AreExactOf c (after_passes q n u) → AreExactOf c u
  back_passes zero u k c exact = exact
  back_passes (suc n) u k c exact =
      let m : ℕ = length u.flight in
      let v : World = Then m u in
      let is : after_passes q (suc n) u ≡ after_passes q n v = run_then q (pass q u) (passes q n v) u in
      back_on m u k c (back_passes n v (whole_on m u k) c (subst (λ (w : World). AreExactOf c w) is exact))

  exact_now : (u : World) → IsWhole u → (c : Session) → AreExactOf c u
  exact_now u k c = back_passes (longest u.net) u k c (reservations_are_set_up q c u (k.all c)).exact

  keeps_whole : (u : World) → IsAsking q s st x e u → IsWhole u → IsWhole (step q (Deliver 0) u)
  keeps_whole u a k = whole_next u k

  abbrev Answered : Step → World → Type 0
  Answered = Answers q s st x flow e IsWhole keeps_whole

  is_confirmed : (t : Step) (u : World) → Answered t u → IsConfirmed q s st x flow e t u
  is_confirmed t u z = record { answered = z.0; settled = settled_again q s u z.1.all (exact_now u z.1); reached = z.1.reached; held = held_over }
    where
      only_live : (y : Sender) → In y (live (locals_of u) s) → y ≡ x
      only_live y i = let l = live_told u s y i in z.1.asking.only y l.0 l.1

      held_over : IsHeldAlong u s st x flow e
      held_over h hs there way =
          let w = along st u.net z.1.asking.reserving.paths.bounds.net (locals_of u) s x only_live flow e z.1.wanted hs h there way in
          let ex : IsExact st u s h = exact_now u z.1 s st h (tree_group u.net.hops s.group x.addr h there) in
          let r = ex.wanted w.unit w.part w.is in
          record {
            unit = w.unit;
            resv = r.0;
            there = resv_made u (node_of u.net.ends h.from) st (s, ((iface_of u.net.ends h.from, addr_of u.net h.to), w.unit)) ex.facts ex.node ∙ r.1;
            named = subst (λ (v : Part). has v.senders (name_of st x) ≡ true) (sym r.2) w.named;
            covers = subst (λ (v : Part). IsAtMost flow v.flow) (sym r.2) w.covers;
          }

  -- ---- as long as requests are in flight, each asks for as much
  record IsRising (u : World) : Type 0 where
    asking : IsAsking q s st x e u
    all : (c : Session) → IsReserving q c u
    reached : IsReached u.net s x e
    wanted : IsWantedAtTheEnd u
    least : (z : Item) (m : ResvMsg) → In z u.flight → z.arrival ≡ Spelt (message.Resv m) → IsForAtLeast flow z

  rising_next : (u : World) → IsRising u → IsRising (step q (Deliver 0) u)
  rising_next u k =
      record { asking = asking_next q s st x e u k.asking; all = λ c. reserving_next q c u (k.all c); reached = k.reached; wanted = wanted_next u k.asking k.wanted; least = least_next }
    where
      new_one : (z : Item) (m : ResvMsg) (b : Bool) → In (z, b) (sent q (Deliver 0) u) → z.arrival ≡ Spelt (message.Resv m) → IsForAtLeast flow z
      new_one z m b sends says =
          let c = (what_is_sent_is_copied q (Deliver 0) u (z, b)).0 sends in
          ⊎_elim
          (λ (h : outcome q (Deliver 0) u c.node c.facts ≡ still c.facts). absurd (subst (λ (w : Outcome). In c.send w.sent) h c.sent))
          (λ (t : Turns q (Deliver 0) u c.node c.facts).
          let d = came_by_delivery q 0 u k.asking.reserving.paths.bounds c.node t.input t.came in
          let flies = in_arrived (Deliver 0) u d.item d.arrives in
          ⊎_elim
          (λ (v : IsUp u s st x e d.item).
          ⊎_elim (λ (o : IsConf z). absurd (no_conf z m says o)) (λ (o : IsOnward q s st x e u k.asking d.item d.arrives v z). o.least flow (k.least d.item v.resv flies v.says))
          (new_item q s st x e u k.asking d.item d.arrives v z b sends))
          (λ (o : IsConf d.item). absurd (no_conf z m says (conf_item q s u k.asking.reserving d.item d.arrives o z b sends)))
          (k.asking.each d.item flies))
          (turns q s u k.asking.reserving c.node c.facts c.there)

      least_next : (z : Item) (m : ResvMsg) → In z (step q (Deliver 0) u).flight → z.arrival ≡ Spelt (message.Resv m) → IsForAtLeast flow z
      least_next z m i says =
          ⊎_elim (λ (old : In z u.flight). k.least z m old says) (λ (new : (b : Bool) × In (z, b) (sent q (Deliver 0) u)). new_one z m new.0 new.1 says)
          (in_flight_after q (Deliver 0) u z refl i)

  -- a request is in flight, or an answer and ResvConfs alone
  abbrev IsOnTheWay : World → Type 0
  IsOnTheWay u = ((y : Item) × In y u.flight × IsUp u s st x e y) ⊎ (AreConfs u × (y : Item) × In y u.flight × IsDown u s st x e y × IsForAtLeast flow y)

  some_or_none : (u : World) (ys : List Item) → ((y : Item) → In y ys → IsUp u s st x e y ⊎ IsConf y) → ((y : Item) × In y ys × IsUp u s st x e y) ⊎ ((y : Item) → In y ys → IsConf y)
  some_or_none u [] every = inr (λ y i. absurd i)
  some_or_none u (z ∷ zs) every =
      ⊎_elim (λ (v : IsUp u s st x e z). inl (z, inl refl, v))
      (λ (k : IsConf z).
      ⊎_elim (λ (v : (y : Item) × In y zs × IsUp u s st x e y). inl (v.0, inr v.1, v.2))
      (λ (none : (y : Item) → In y zs → IsConf y). inr (λ y i. ⊎_elim (λ (is : y ≡ z). subst IsConf (sym is) k) (λ (j : In y zs). none y j) i))
      (some_or_none u zs (λ y i. every y (inr i))))
      (every z (inl refl))

  module _ (u : World) (k : IsRising u) where
    abbrev next : World
    next = step q (Deliver 0) u

    stays : (y : Item) → In y (remove u.flight 0) → In y next.flight
    stays y later = in_left y (rest (Deliver 0) u) (each (λ (w : Item × Bool). w.0) (sent q (Deliver 0) u)) later

    -- the last request is answered where it arrives
    request_goes_on : (y : Item) → In y u.flight → IsUp u s st x e y → IsOnTheWay next
    request_goes_on y i v =
        ⊎_elim (λ (more : (z : Item) × In z next.flight × IsUp next s st x e z). inl more)
        (λ (none : (z : Item) → In z next.flight → IsConf z).
        ⊎_elim
        (λ (now : slice_get u.flight 0 ≡ Some y).
        ⊎_elim
        (λ (t : IsAnsweredThere q s st x e u k.asking y now v). inr (none, t.item, t.flight, t.down, t.least flow (k.least y v.resv i v.says)))
        (λ (t : GoesOnThere q s st x e u k.asking y now v). absurd (no_conf t.item t.onward.up.resv t.onward.up.says (none t.item t.flight)))
        (up_moves q s st x e u k.asking y now v))
        (λ (later : In y (remove u.flight 0)). absurd (no_conf y v.resv v.says (none y (stays y later))))
        (now_or_later y 0 u.flight i))
        (some_or_none next next.flight (asking_next q s st x e u k.asking).each)

    whole : AreConfs u → IsWhole u
    whole confs = record { asking = k.asking; confs = confs; all = k.all; reached = k.reached; wanted = k.wanted }

    answer_goes_on : AreConfs u → (y : Item) → In y u.flight → IsDown u s st x e y → IsForAtLeast flow y → Answered (Deliver 0) u ⊎ IsOnTheWay next
    answer_goes_on confs y i d least =
        ⊎_elim
        (λ (now : slice_get u.flight 0 ≡ Some y).
        ⊎_elim (λ (t : IsAnswered s st x flow e (Deliver 0) u). inl (t, whole confs))
        (λ (t : GoesDown q s st x e u k.asking y d).
        inr (inr ((whole_next u (whole confs)).confs, t.item, t.flight, t.down, λ b j. least b (subst (λ (w : Arrival). In b (arrival_units w)) (sym t.same) j))))
        (down_moves q s st x e u k.asking flow y now d least))
        (λ (later : In y (remove u.flight 0)). inr (inr ((whole_next u (whole confs)).confs, y, stays y later, down_next q s st x e u k.asking y d, least)))
        (now_or_later y 0 u.flight i)

    goes_on : IsOnTheWay u → Answered (Deliver 0) u ⊎ IsOnTheWay next
    goes_on way =
        ⊎_elim (λ (v : (y : Item) × In y u.flight × IsUp u s st x e y). inr (request_goes_on v.0 v.1 v.2))
        (λ (d : AreConfs u × (y : Item) × In y u.flight × IsDown u s st x e y × IsForAtLeast flow y). answer_goes_on d.0 d.1 d.2 d.3 d.4) way

  rise_on : (m : ℕ) (u : World) → IsRising u → IsOnTheWay u → Happens (machine q) Answered (repeat m (Deliver 0 ∷ [])) u ⊎ (IsRising (Then m u) × IsOnTheWay (Then m u))
  rise_on zero u k way = inr (k, way)
  rise_on (suc m) u k way =
      ⊎_elim (λ (t : Answered (Deliver 0) u). inl (inl t))
      (λ (on : IsOnTheWay (step q (Deliver 0) u)).
      ⊎_elim (λ (t : Happens (machine q) Answered (repeat m (Deliver 0 ∷ [])) (step q (Deliver 0) u)). inl (inr t))
      (λ (z : IsRising (Then m (step q (Deliver 0) u)) × IsOnTheWay (Then m (step q (Deliver 0) u))). inr z)
      (rise_on m (step q (Deliver 0) u) (rising_next u k) on))
      (goes_on u k way)

  net_on : (m : ℕ) (u : World) → (Then m u).net ≡ u.net
  net_on zero u = refl
  net_on (suc m) u = net_on m (step q (Deliver 0) u)

  -- so many passes on no request is in flight any more, and the last answer comes down
  in_the_end : (n j k : ℕ) (u : World) → n + j ≡ k → IsRising u → IsOnTheWay u → longest u.net ≤ j
      → ((z : Item) (m : ResvMsg) → In z (after_passes q n u).flight → z.arrival ≡ Spelt (message.Resv m) → m.session ≡ s → ⊥) → Happens (machine q) Answered (passes q k u) u
  in_the_end zero j k u sum r way long none =
      ⊎_elim (λ (v : (y : Item) × In y u.flight × IsUp u s st x e y). absurd (none v.0 v.2.resv v.1 v.2.says v.2.session))
      (λ (d : AreConfs u × (y : Item) × In y u.flight × IsDown u s st x e y × IsForAtLeast flow y).
      let most = (ranks_down q s st x flow e IsWhole keeps_whole u r.asking d.1 d.3).1 in
      answered_in q s st x flow e IsWhole keeps_whole k u r.asking (whole u r d.0) (d.1, d.2, inr (d.3, omega (arith, most, long, sum)), d.4)) way
  in_the_end (suc n) j zero u sum r way long none = absurd (omega (arith, sum))
  in_the_end (suc n) j (suc k) u sum r way long none =
      let m : ℕ = length u.flight in
      let v : World = Then m u in
      let is : after_passes q (suc n) u ≡ after_passes q n v = run_then q (pass q u) (passes q n v) u in
      let long' : longest v.net ≤ j = subst (λ (z : Net). longest z ≤ j) (sym (net_on m u)) long in
      let less : n + j ≡ k = omega (arith, sum) in
      ⊎_elim (λ (p : Happens (machine q) Answered (pass q u) u). happens_first q Answered (pass q u) (passes q k v) u p)
      (λ (z : IsRising v × IsOnTheWay v).
      happens_then q Answered (pass q u) (passes q k v) u
      (in_the_end n j k v less z.0 z.1 long' (λ y w i. none y w (subst (λ (o : World). In y o.flight) (sym is) i))))
      (rise_on m u r way)

  -- ---- requests of an end for as much, in a network that reserves
  module _ (w : World) (r : (c : Session) → IsReserving q c w) (only : IsOnlySender w s x) (lt : e < length w.net.ends) where
    at_the_end : (y : Item) → In y w.flight → IsRequest w s st e y → IsForAtLeast flow y → IsReached w.net s x e × IsWantedAtTheEnd w
    at_the_end y i t least =
        let bounds = (r s).paths.bounds in
        let proper : IsProperAsk t.resv.ask = subst IsProperArrival t.says (bounds.flight y i).proper in
        let unit = some_unit t.resv.ask proper in
        let item = (r s).sound.items y t.resv unit.0 i t.says unit.1 in
        let sound = item.sound in
        let part : Part = record { senders = item.names; flow = unit.0.flow } in
        let only_m : IsOnlySender w t.resv.session x = subst (λ (z : Session). IsOnlySender w z x) (sym t.session) only in
        let listed : has item.names (name_of (ask_style t.resv.ask) x) ≡ true =
        listed_one w t.resv.session x only_m (ask_style t.resv.ask) y.end t.resv.hop.addr unit.0.unit part sound in
        let mine : In sound.hop (tree w.net.hops s.group x.addr) =
        subst (λ (z : Session). In sound.hop (tree w.net.hops z.group x.addr)) t.session
        (in_tree w t.resv.session x only_m (ask_style t.resv.ask) y.end t.resv.hop.addr unit.0.unit part sound) in
        let inside = ends_there w.net bounds.net t.resv.session.group sound.hop sound.there in
        let end : sound.hop.to ≡ e = same_by_addr w.net bounds.net sound.hop.to e inside.1 lt (sound.to ∙ t.hop) in
        let up = part_at_most_told part sound.wanted sound.below in (
          record { hop = sound.hop; there = mine; to = end },
          λ h there to.
              let same : sound.hop ≡ h = one w.net bounds.net s.group x.addr sound.hop h mine there (ap (node_of w.net.ends) (end ∙ sym to)) in
              record {
                unit = unit.0.unit;
                part = sound.wanted;
                is = (λ j. get (want (sym t.style j) w.net (locals_of w) (sym t.session j) (sym same j)) unit.0.unit) ∙ sound.is;
                named = subst (λ (k : StyleKind). has sound.wanted.senders (name_of k x) ≡ true) t.style (up.names (name_of (ask_style t.resv.ask) x) listed);
                covers = at_most_along flow unit.0.flow sound.wanted.flow (least unit.0 (subst (λ (o : Arrival). In unit.0 (arrival_units o)) (sym t.says) unit.1)) up.flow;
              },
        )

    pub what_is_confirmed_is_held : (y : Item) → In y w.flight → ((z : Item) → In z w.flight → IsRequest w s st e z × IsForAtLeast flow z)
        → Happens (machine q) (IsConfirmed q s st x flow e) (passes q (2 * longest w.net) w) w
    what_is_confirmed_is_held y i every =
        let a : IsAsking q s st x e w = all_asking q s st x e w (r s) only lt (λ z j. (every z j).0) in
        let v : IsUp w s st x e y = begins q s st x e w (r s) only lt y i (every y i).0 in
        let end = at_the_end y i (every y i).0 (every y i).1 in
        let begin : IsRising w = record { asking = a; all = r; reached = end.0; wanted = end.1; least = λ z m j says. (every z j).1 } in
        let sum : longest w.net + longest w.net ≡ 2 * longest w.net = omega arith in
        let itself : longest w.net ≤ longest w.net = omega arith in
        happens_so q Answered (IsConfirmed q s st x flow e) is_confirmed (passes q (2 * longest w.net) w) w
        (in_the_end (longest w.net) (longest w.net) (2 * longest w.net) w sum begin (inl (y, i, v)) itself (reservations_are_set_up q s w (r s)).no_resv)
