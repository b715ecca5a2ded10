-- Errors of a session with a flow are gone: none is made where each arrival of it is taken, and those in flight go on along chains of
-- hops, one round a hop.
use Rattle.std.proofs.Common.{◌≡◌, ℕ, zero, suc, ◌+◌, ◌<◌, ◌≤◌, List, [], ◌∷◌, length, Bool, true, false, Option, None, Some, ◌⊎◌, inl, inr, ⊎_elim, arith, sym, refl, ap, subst, ◌∙◌}
use Rattle.std.specs.Prelude.{slice_get, is_some, not}
use Rattle.rsvp_base.specs.declared.addr.Addr.{Addr}
use Rattle.rsvp_base.specs.declared.session.Sender.{Sender}
use Rattle.rsvp_base.specs.declared.hop.Hop.{Hop as RsvpHop}
use Rattle.rsvp_base.specs.declared.session.Session.{Session}
use Rattle.rsvp_base.specs.declared.style.StyleKind.{StyleKind}
use Rattle.rsvp_base.specs.declared.style.StyleKind.TheVariants.{Wild, Fixed, Shared}
use Rattle.rsvp_base.specs.Members.{In}
use Rattle.rsvp_base.specs.Orders.{Names}
use Rattle.rsvp_base.specs.Sets.{IsWithin, is_none}
use Rattle.rsvp_base.specs.Table.{has}
use Rattle.rsvp_base.specs.TokenBucket.{TokenBucket}
use Rattle.rsvp_messages.specs.declared.message.Message.TheVariants as message
use Rattle.rsvp_messages.specs.declared.message.ResvErrMsg.{ResvErrMsg}
use Rattle.rsvp_messages.specs.declared.message.ResvMsg.{ResvMsg}
use Rattle.rsvp_messages.specs.Proper.{IsProperBlame, IsProperBlameOf}
use Rattle.style_rules.specs.PartLaws.{part_at_most_told}
use Rattle.style_rules.proofs.StyleLaws.{unit_name}
use Rattle.calm_rounds.specs.Hold.{Hold}
use Rattle.calm_rounds.specs.Machine.{Fresh}
use Rattle.calm_rounds.specs.Rounds.{Rounds}
use Rattle.calm_rounds.proofs.Holding.{hold_map, hold_both, hold_later, hold_start, hold_stack, hold_keep, hold_flush}
use Rattle.laws_steps.specs.AcceptingLaws.{CanBeTaken}
use Rattle.laws_steps.specs.BlameLaws.{IsRefusal, IsPassedOn}
use Rattle.laws_steps.specs.ReservationLaws.{IsListed}
use Rattle.laws_steps.proofs.Admitting.{what_is_accepted}
use Rattle.laws_steps.proofs.Blaming.{where_an_error_with_a_flow_comes_from}
use Rattle.router_rules.specs.declared.answers.Heard.TheVariants as heard
use Rattle.router_rules.specs.Facts.{Facts}
use Rattle.router_rules.specs.Inputs.{Came, Input, Spelt, Wait}
use Rattle.router_rules.specs.NodeConfig.{NodeConfig, own}
use Rattle.router_rules.specs.Rule.{rule}
use Rattle.tree_model.specs.declared.hops.End.{End}
use Rattle.tree_model.specs.declared.hops.LinkHop.{LinkHop}
use Rattle.tree_model.specs.Goals.{addr_of, addr_of_end}
use Rattle.tree_model.specs.Networks.{Net, node_of, node_of_end, end_at, iface_of, peers}
use Rattle.tree_model.specs.Ranks.{longest, rank}
use Rattle.tree_model.specs.Trees.{hops_of, tree}
use Rattle.tree_model.specs.Valid.{IsValid}
use Rattle.tree_model.specs.Wants.{Locals, names}
use Rattle.tree_model.proofs.Following.{in_group, to_tree}
use Rattle.tree_model.proofs.Ifaces.{interfaces_are_ends}
use Rattle.tree_model.proofs.Links.{hop_linked}
use Rattle.tree_model.proofs.RankLaws.{rank_falls, rank_falls_at, rank_some}
use Rattle.tree_model.proofs.WantLaws.{a_common_name, want_names}
use Rattle.network_model.specs.Bounds.{IsProperArrival, AreBounds, AreHosts}
use Rattle.network_model.specs.Links.{goes_to, is_group}
use Rattle.network_model.specs.Locals.{locals_of}
use Rattle.network_model.specs.Steps.{Step, is_quiet, ms_of, input_at, word_for, sent, step, machine}
use Rattle.network_model.specs.Worlds.{Item, World, config_of}
use Rattle.network_model.proofs.Changing.{where_a_send_goes}
use Rattle.network_model.proofs.Machines.{quiet_of, items_are_numbered, in_flight_after, in_arrived}
use Rattle.network_model.proofs.Quiet.{IsWaited, IsCame, input_found, arrival_takes_no_time}
use Rattle.laws_network.specs.Known.{IsKnown}
use Rattle.laws_network.proofs.Known.{of_some, known_hold}
use Rattle.laws_network.proofs.Sends.{IsSentByRule, sent_by_rule, goes_to_end}
use Rattle.laws_network.proofs.Standing.{own_end, peer_there, some_at}
use Rattle.settle_resvs.specs.GoalByIface.{goal_at}
use Rattle.settle_resvs.specs.Sessions.{HasNoFlowErrorOf, SessionFits}
use Rattle.settle_paths.proofs.PreviousHops.{ends_there, same_by_addr}
use Rattle.settle_resvs.proofs.Accepting.{IsReady, IsSettledSoFar, can_be_taken, ready_hold}
use Rattle.router_rules.specs.Steps.{node_step}

-- ---- how far an error has to go: it comes over a hop whose names it names, from which no chain is longer than a number; or the
-- number is beyond all chains
pub record IsAlong (net : Net) (l : Locals) (j : ℕ) (y : Item) (m : ResvErrMsg) : Type 0 where
  pub named : Names
  pub listed : m.blame.senders ≡ Some named
  pub some : is_none named ≡ false
  pub hop : LinkHop
  pub there : In hop (hops_of net.hops m.session.group)
  pub to : hop.to ≡ y.end
  pub from : addr_of net hop.from ≡ m.hop.addr
  pub within : IsWithin named (names m.blame.style net l m.session (hop ∷ []))
  pub near : rank net m.session.group hop ≤ j

abbrev pub IsLow : Net → Locals → ℕ → Item → ResvErrMsg → Type 0
IsLow net l j y m = (longest net < j) ⊎ IsAlong net l j y m

abbrev pub AreLow : Session → Net → Locals → ℕ → ℕ → World → Type 0
AreLow which net l j b u =
    (y : Item) (m : ResvErrMsg) (flow : TokenBucket) → In y u.flight → b ≤ y.born → y.arrival ≡ Spelt (message.ResvErr m) → m.session ≡ which → m.blame.flow ≡ Some flow → IsLow net l j y m

-- an error with a flow that is proper names senders, or is of a wildcard filter
named_or_wild : (st : StyleKind) (listed : Option Names) (f : Option TokenBucket) (flow : TokenBucket) → f ≡ Some flow → IsProperBlameOf st listed f → (is_some listed ≡ true) ⊎ (st ≡ Wild)
named_or_wild Wild listed f flow e h = inr refl
named_or_wild Fixed (Some names) f flow e h = inl refl
named_or_wild Fixed None (Some x) flow e h = absurd h
named_or_wild Fixed None None flow e h = absurd (cc)
named_or_wild Shared (Some names) f flow e h = inl refl
named_or_wild Shared None (Some x) flow e h = absurd h
named_or_wild Shared None None flow e h = absurd (cc)

module _ (q : ℕ) (which : Session) (u : World) (ready : IsReady q which u) (s : Step) (quiet : is_quiet s ≡ true) where
  -- a Resv of the session that comes to a node is taken, so no refusal is sent
  no_refusal : (n : ℕ) (f : Facts) (i : Input) → slice_get u.nodes n ≡ Some f → input_at s u n ≡ Some i → (at : ℕ) (m : ResvMsg)
      → i ≡ Came at (own (config_of q u.net u.trees n) at) (Spelt (message.Resv m)) → m.session ≡ which
      → (rule (config_of q u.net u.trees n) (config_of q u.net u.trees n) (u.clock + ms_of s) i f).heard ≡ heard.Taken
  no_refusal n f i there came at m is of =
      let p : NodeConfig = config_of q u.net u.trees n in
      ⊎_elim
      (λ (t : IsWaited s u n i). let no : Wait t.ms (word_for u.words n) ≡ Came at (own p at) (Spelt (message.Resv m)) = sym t.is ∙ is in absurd (cc))
      (λ (t : IsCame s u n i).
      let same : Came (iface_of u.net.ends t.item.end) t.item.dst t.item.arrival ≡ Came at (own p at) (Spelt (message.Resv m)) = sym t.is ∙ is in
      let iface : iface_of u.net.ends t.item.end ≡ at = cc in
      let spelt : t.item.arrival ≡ Spelt (message.Resv m) = cc in
      let node : node_of u.net.ends t.item.end ≡ n = ap node_of_end t.there ∙ t.node in
      let flight : In t.item u.flight = in_arrived s u t.item t.arrives in
      let can = can_be_taken q which u ready t.item m flight spelt of f (ap (λ (z : ℕ). slice_get u.nodes z) node ∙ there) in
      let can' : CanBeTaken p u.clock at m f (goal_at u.net (locals_of u) n) = subst (λ (z : ℕ × ℕ). CanBeTaken (config_of q u.net u.trees z.0) u.clock z.1 m f (goal_at u.net (locals_of u) z.0))
      (λ j. (node j, iface j)) can in
      let taken = what_is_accepted.whole p p u.clock u.clock at m f (goal_at u.net (locals_of u) n) (ready.bounds.facts n f there) can' in
      let ms : u.clock + ms_of s ≡ u.clock = (let z = arrival_takes_no_time s u t.item t.arrives in omega arith) in
      (λ j. (rule p p (ms j) (is j) f).heard) ∙ taken.heard_it)
      (input_found s u n i quiet came)

  not_group : (e : ℕ) → e < length u.net.ends → is_group (addr_of u.net e) ≡ false
  not_group e lt = let x = some_at u.net.ends e lt in ap (λ (z : Option End). is_group (addr_of_end z)) x.1 ∙ ready.bounds.hosts e x.0 x.1

  error_came : (n : ℕ) (i : Input) → input_at s u n ≡ Some i → (at : ℕ) (m : ResvErrMsg) → i ≡ Came at (own (config_of q u.net u.trees n) at) (Spelt (message.ResvErr m))
      → (y : Item) × In y u.flight × (y.arrival ≡ Spelt (message.ResvErr m)) × (node_of u.net.ends y.end ≡ n)
  error_came n i came at m is =
      let p : NodeConfig = config_of q u.net u.trees n in
      ⊎_elim
      (λ (t : IsWaited s u n i). let no : Wait t.ms (word_for u.words n) ≡ Came at (own p at) (Spelt (message.ResvErr m)) = sym t.is ∙ is in absurd (cc))
      (λ (t : IsCame s u n i).
      let same : Came (iface_of u.net.ends t.item.end) t.item.dst t.item.arrival ≡ Came at (own p at) (Spelt (message.ResvErr m)) = sym t.is ∙ is in
      let spelt : t.item.arrival ≡ Spelt (message.ResvErr m) = cc in
      (t.item, in_arrived s u t.item t.arrives, spelt, ap node_of_end t.there ∙ t.node))
      (input_found s u n i quiet came)

  -- a hop out of the node to which an error came, over which it goes on: no chain from it is as long
  near : (j : ℕ) → AreLow which u.net (locals_of u) (suc j) 0 u → (y : Item) (e : ResvErrMsg) (flow : TokenBucket) → In y u.flight → y.arrival ≡ Spelt (message.ResvErr e) → e.session ≡ which
      → e.blame.flow ≡ Some flow
      → (h : LinkHop) → In h (hops_of u.net.hops e.session.group) → node_of u.net.ends h.from ≡ node_of u.net.ends y.end → (named : Names) → is_none named ≡ false
      → ((x : Sender) → has named x ≡ true → IsListed e.blame.senders x)
      → IsWithin named (names e.blame.style u.net (locals_of u) e.session (h ∷ [])) → rank u.net e.session.group h ≤ j
  near j low y e flow i spelt of has_flow h there meet named some in_error within =
      ⊎_elim
      (λ (far : longest u.net < suc j). let most = (rank_falls u.net ready.bounds.net.loop_free).hops e.session.group h there in omega (arith, most.1, far))
      (λ (al : IsAlong u.net (locals_of u) (suc j) y e).
      let first = unit_name e.blame.style (record { senders = named; flow = flow }) (ap not some) in
      let in_named : has al.named first.name ≡ true = subst (λ (z : Option Names). IsListed z first.name) al.listed (in_error first.name first.there) in
      let follows = (a_common_name e.blame.style u.net (locals_of u) e.session al.hop h first.name (al.within first.name in_named) (within first.name first.there)
      (meet ∙ ap (node_of u.net.ends) (sym al.to))).1 in
      let falls = rank_falls_at u.net ready.bounds.net.loop_free e.session.group al.hop h follows in
      let close = al.near in
      omega (arith, falls, close))
      (low y e flow i (omega arith) spelt of has_flow)

  -- what goes on goes over a hop that follows, and names some of its names
  along : (j : ℕ) → AreLow which u.net (locals_of u) (suc j) 0 u → (y : Item) (m : ResvErrMsg) (flow : TokenBucket) → m.session ≡ which → m.blame.flow ≡ Some flow → (r : IsSentByRule q s u y (message.ResvErr m))
      → IsPassedOn (config_of q u.net u.trees r.node) r.by.input r.facts r.send m → IsAlong u.net (locals_of u) j y m
  along j low y m flow is_of has_flow r x =
      let valid = ready.bounds.net in
      let p : NodeConfig = config_of q u.net u.trees r.node in
      let st : StyleKind = x.error.blame.style in
      let t = error_came r.node r.by.input r.by.came x.at x.error x.came in
      -- the reservation over whose hop it goes on
      let sound = ready.resvs.facts st r.node r.facts (x.error.session, (x.hop, x.unit)) x.resv r.there x.there in
      let h = sound.sound.hop in
      let of = (interfaces_are_ends u.net).iface_of_end r.node x.hop.0 sound.end sound.at in
      let inside = ends_there u.net valid x.error.session.group h sound.sound.there in
      let leaves : node_of u.net.ends h.from ≡ r.node = ap (node_of u.net.ends) sound.sound.from ∙ of.1 in
      let up = part_at_most_told x.resv.part sound.sound.wanted sound.sound.below in
      -- its names
      let blame : IsProperBlame x.error.blame = subst IsProperArrival t.2 (ready.bounds.flight t.0 t.1).proper in
      let got = where_an_error_with_a_flow_comes_from.names p u.clock r.facts (ready.bounds.facts r.node r.facts r.there) st
      (x.error.session, (x.hop, x.unit)) x.resv x.error.blame.senders m.blame.senders x.there x.blames
      (named_or_wild st x.error.blame.senders x.error.blame.flow flow (sym x.flow ∙ has_flow) blame) in
      let within : IsWithin got.0 (names st u.net (locals_of u) x.error.session (h ∷ [])) =
      (λ z e. want_names st u.net (locals_of u) x.error.session h x.unit sound.sound.wanted sound.sound.is z (up.names z (got.2.in_resv z e))) in
      -- where it goes
      let e = goes_to_end u.net (end_at u.net.ends r.node r.send.iface) r.send.dst y.end r.to in
      let found : Some e.0 ≡ Some sound.end = sym e.1 ∙ ap (end_at u.net.ends r.node) x.iface ∙ sound.at in
      let end : e.0 ≡ sound.end = of_some e.0 sound.end found in
      let goes : In y.end (goes_to u.net (Some sound.end) x.hop.1) = subst (λ (z : Option ℕ × Addr). In y.end (goes_to u.net z.0 z.1)) (λ k. ((e.1 ∙ ap Some end) k, x.dst k)) r.to in
      let g = in_group u.net.hops x.error.session.group h sound.sound.there in
      let in_tree : In h (tree u.net.hops g.0.group g.0.source) = subst (λ (z : LinkHop). In z (tree u.net.hops g.0.group g.0.source)) g.3 (to_tree u.net.hops g.0 g.1) in
      let linked : In h.to (peers u.net.links h.from) = hop_linked u.net valid g.0.group g.0.source h in_tree in
      let peer : In h.to (peers u.net.links sound.end) = subst (λ (z : ℕ). In h.to (peers u.net.links z)) sound.sound.from linked in
      let host : is_group x.hop.1 ≡ false = subst (λ (z : Addr). is_group z ≡ false) sound.sound.to (not_group h.to inside.1) in
      let to = ((where_a_send_goes u.net sound.end x.hop.1).one host h.to peer sound.sound.to y.end).0 goes in
      let own_is : own p x.hop.0 ≡ addr_of u.net sound.end = own_end q u.net u.trees r.node x.hop.0 sound.end sound.at in
      record {
        named = got.0;
        listed = got.1;
        some = got.2.some;
        hop = h;
        there = subst (λ (z : Session). In h (hops_of u.net.hops z.group)) (sym x.session) sound.sound.there;
        to = same_by_addr u.net valid h.to y.end inside.1 (peer_there u.net valid sound.end y.end to.0) (sound.sound.to ∙ sym to.1);
        from = ap (addr_of u.net) sound.sound.from ∙ sym own_is ∙ ap (λ (z : RsvpHop). z.addr) (sym x.here);
        within = subst (λ (z : StyleKind × Session). IsWithin got.0 (names z.0 u.net (locals_of u) z.1 (h ∷ []))) (λ k. (sym x.style k, sym x.session k)) within;
        near = subst (λ (z : Session). rank u.net z.group h ≤ j) (sym x.session) (near j low t.0 x.error flow t.1 t.2 (sym x.session ∙ is_of) (sym x.flow ∙ has_flow) h sound.sound.there
            (leaves ∙ sym t.3) got.0 got.2.some got.2.in_error within);
      }

  passed_on : (j : ℕ) → AreLow which u.net (locals_of u) (suc j) 0 u → (y : Item) (b : Bool) (m : ResvErrMsg) (flow : TokenBucket) → In (y, b) (sent q s u) → y.arrival ≡ Spelt (message.ResvErr m)
      → m.session ≡ which → m.blame.flow ≡ Some flow → IsAlong u.net (locals_of u) j y m
  passed_on j low y b m flow i spelt is_of has_flow =
      let r = sent_by_rule q s u y b (message.ResvErr m) quiet i spelt in
      let p : NodeConfig = config_of q u.net u.trees r.node in
      ⊎_elim
      (λ (x : IsRefusal p p (u.clock + ms_of s) r.by.input r.facts r.send). absurd (x.not_taken (no_refusal r.node r.facts r.by.input r.there r.by.came x.at x.resv x.came (sym (x.session m r.says) ∙ is_of))))
      (λ (x : IsPassedOn p r.by.input r.facts r.send m). along j low y m flow is_of has_flow r x)
      (where_an_error_with_a_flow_comes_from.source (node_step p p u.clock (u.clock + ms_of s) r.by.input r.facts) (ready.bounds.facts r.node r.facts r.there) r.send m flow r.sent r.says has_flow)

-- ---- one round a hop, in worlds with the network of o of which the same is asked
pub record IsCalmed (q : ℕ) (which : Session) (o u : World) : Type 0 where
  pub known : IsKnown q o u
  pub ready : IsReady q which u

module _ (q : ℕ) (which : Session) (o : World) where
  abbrev pub Low : ℕ → World → Type 0
  Low j u = AreLow which o.net (locals_of o) j 0 u

  pub new_low : (j b : ℕ) (s : Step) (u : World) → is_quiet s ≡ true → IsCalmed q which o u → Low (suc j) u → AreLow which o.net (locals_of o) j b u → AreLow which o.net (locals_of o) j b (step q s u)
  new_low j b s u quiet c low k y m flow i born spelt is_of has_flow =
      ⊎_elim
      (λ (old : In y u.flight). k y m flow old born spelt is_of has_flow)
      (λ (new : (mark : Bool) × In (y, mark) (sent q s u)).
      let same : ◌≡◌ {A = Net × Locals} (o.net, locals_of o) (u.net, locals_of u) = (λ i. (sym c.known.same.net i, sym c.known.same.locals i)) in
      let low' : AreLow which u.net (locals_of u) (suc j) 0 u = subst (λ (z : Net × Locals). AreLow which z.0 z.1 (suc j) 0 u) same low in
      inr (subst (λ (z : Net × Locals). IsAlong z.0 z.1 j y m) (sym same) (passed_on q which u c.ready s quiet j low' y new.0 m flow new.1 spelt is_of has_flow)))
      (in_flight_after q s u y quiet i)

  one_round : (j : ℕ) (rs : List (List Step)) (w : World) → Rounds (machine q) rs w → Hold (machine q) 0 rs w (λ u. IsCalmed q which o u × Low (suc j) u) → Hold (machine q) 1 rs w (Low j)
  one_round j rs w calm both =
      hold_map (machine q) (λ u. AreLow which o.net (locals_of o) j w.made u × Fresh (machine q) w.made u) (Low j) (λ u h y m flow i born spelt is_of has_flow. h.0 y m flow i (h.1 y i) spelt is_of has_flow) 1 rs w
      (hold_both (machine q) (AreLow which o.net (locals_of o) j w.made) (Fresh (machine q) w.made) 1 rs w
      (hold_later (machine q) (AreLow which o.net (locals_of o) j w.made) 0 1 rs w (omega arith)
      (hold_keep (machine q) (λ u. IsCalmed q which o u × Low (suc j) u) (AreLow which o.net (locals_of o) j w.made) (λ s u quiet a a' k. new_low j w.made s u (quiet_of q s quiet) a.0 a.1 k) rs w calm both
      (λ y m flow i born spelt is_of has_flow. let old = ((hold_start (machine q) (λ u. IsCalmed q which o u × Low (suc j) u) rs w both).0.known.bounds.flight y i).born in absurd (omega arith))))
      (hold_flush (machine q) (items_are_numbered q) rs w calm))

  -- after d rounds each error with a flow has d hops fewer to go
  fewer : (d j : ℕ) → d + j ≡ suc (longest o.net) → (rs : List (List Step)) (w : World) → Rounds (machine q) rs w → Hold (machine q) 0 rs w (IsCalmed q which o) → Hold (machine q) d rs w (Low j)
  fewer zero j e rs w calm c = hold_map (machine q) (IsCalmed q which o) (Low j) (λ u h y m flow i born spelt is_of has_flow. inl (omega (arith, e))) 0 rs w c
  fewer (suc d) j e rs w calm c =
      let n : d + 1 ≡ suc d = omega arith in
      rw (← n)
      (hold_stack (machine q) (λ u. IsCalmed q which o u × Low (suc j) u) (Low j) 1 (one_round j) d rs w calm
      (hold_both (machine q) (IsCalmed q which o) (Low (suc j)) d rs w (hold_later (machine q) (IsCalmed q which o) 0 d rs w (omega arith) c) (fewer d (suc j) (omega (arith, e)) rs w calm c)))

  pub none_left : (u : World) → IsCalmed q which o u → Low 0 u → HasNoFlowErrorOf which u
  none_left u c low y m i spelt is_of = by m.blame.flow refl
    where
      by : (f : Option TokenBucket) → m.blame.flow ≡ f → m.blame.flow ≡ None
      by None e = e
      by (Some flow) e =
          ⊎_elim (λ (far : longest o.net < 0). absurd (omega (arith, far)))
          (λ (al : IsAlong o.net (locals_of o) 0 y m).
          let valid = subst IsValid c.known.same.net c.known.bounds.net in
          let some = rank_some o.net valid.loop_free m.session.group al.hop al.there in
          let close = al.near in
          absurd (omega (arith, some, close)))
          (low y m flow i (omega arith) spelt is_of e)

  pub errors_are_gone : (rs : List (List Step)) (w : World) → Rounds (machine q) rs w → Hold (machine q) 0 rs w (IsCalmed q which o) → Hold (machine q) (suc (longest o.net)) rs w (HasNoFlowErrorOf which)
  errors_are_gone rs w calm c =
      let k : ℕ = suc (longest o.net) in
      let e : k + 0 ≡ suc (longest o.net) = omega arith in
      hold_map (machine q) (λ u. IsCalmed q which o u × Low 0 u) (HasNoFlowErrorOf which) (λ u h. none_left u h.0 h.1) k rs w
      (hold_both (machine q) (IsCalmed q which o) (Low 0) k rs w (hold_later (machine q) (IsCalmed q which o) 0 k rs w (omega arith) c) (fewer k 0 e rs w calm c))

-- from worlds that are ready
pub errors_go : (q : ℕ) (which : Session) (w : World) (rs : List (List Step)) → Rounds (machine q) rs w → AreHosts w → SessionFits w.net (locals_of w) which → Hold (machine q) 0 rs w (AreBounds q)
    → Hold (machine q) 0 rs w IsSettledSoFar → Hold (machine q) (suc (longest w.net)) rs w (HasNoFlowErrorOf which)
errors_go q which w rs calm locals fit bounds so_far =
    errors_are_gone q which w rs w calm
    (hold_map (machine q) (λ u. IsKnown q w u × IsReady q which u) (IsCalmed q which w) (λ u h. record { known = h.0; ready = h.1 }) 0 rs w
    (hold_both (machine q) (IsKnown q w) (IsReady q which) 0 rs w (known_hold q w rs calm bounds) (ready_hold q which w rs calm locals fit bounds so_far)))
