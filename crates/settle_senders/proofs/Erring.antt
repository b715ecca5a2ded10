-- Errors that were made while a sender that ended was forgotten go on along chains of hops, one hop a pass; once each Resv is taken whole no
-- more is made, so H passes later none is left.
use Rattle.std.proofs.Common.{◌≡◌, ℕ, zero, suc, ◌+◌, ◌<◌, ◌≤◌, List, [], ◌∷◌, drop, length, Bool, true, false, Option, None, Some, ◌⊎◌, inl, inr, ⊎_elim, arith, sym, refl, ap, subst, ◌∙◌}
use Rattle.std.specs.Prelude.{slice_get, is_some, not, map as each}
use Rattle.std.specs.List.{remove}
use Rattle.rsvp_base.specs.declared.addr.Addr.{Addr}
use Rattle.rsvp_base.specs.declared.session.Sender.{Sender}
use Rattle.rsvp_base.specs.declared.hop.Hop.{Hop as RsvpHop}
use Rattle.rsvp_base.specs.declared.session.Session.{Session}
use Rattle.rsvp_base.specs.declared.style.StyleKind.{StyleKind}
use Rattle.rsvp_base.specs.declared.style.StyleKind.TheVariants.{Wild, Fixed, Shared}
use Rattle.rsvp_base.specs.Members.{In}
use Rattle.rsvp_base.proofs.Members.{in_append, in_each}
use Rattle.rsvp_base.specs.Orders.{Names}
use Rattle.rsvp_base.specs.Sets.{IsWithin, is_none}
use Rattle.rsvp_base.specs.Table.{has}
use Rattle.rsvp_base.specs.TokenBucket.{TokenBucket}
use Rattle.rsvp_messages.specs.declared.message.Message.TheVariants as message
use Rattle.rsvp_messages.specs.declared.message.ResvErrMsg.{ResvErrMsg}
use Rattle.rsvp_messages.specs.declared.message.ResvMsg.{ResvMsg}
use Rattle.rsvp_messages.specs.Proper.{IsProperBlame, IsProperBlameOf}
use Rattle.style_rules.specs.PartLaws.{part_at_most_told}
use Rattle.style_rules.proofs.StyleLaws.{unit_name}
use Rattle.laws_steps.specs.BlameLaws.{IsRefusal, IsPassedOn}
use Rattle.laws_steps.specs.ReservationLaws.{IsListed}
use Rattle.laws_steps.proofs.Blaming.{where_an_error_with_a_flow_comes_from}
use Rattle.router_rules.specs.declared.answers.Heard.TheVariants as heard
use Rattle.router_rules.specs.Facts.{Facts}
use Rattle.router_rules.specs.Inputs.{Came, Input, Spelt}
use Rattle.router_rules.specs.NodeConfig.{NodeConfig, own}
use Rattle.router_rules.specs.Rule.{rule}
use Rattle.tree_model.specs.declared.hops.End.{End}
use Rattle.tree_model.specs.declared.hops.LinkHop.{LinkHop}
use Rattle.tree_model.specs.Goals.{addr_of, addr_of_end}
use Rattle.tree_model.specs.Networks.{Net, node_of, node_of_end, end_at, iface_of, peers}
use Rattle.tree_model.specs.Ranks.{IsLoopFree, longest, rank}
use Rattle.tree_model.specs.Trees.{hops_of, tree}
use Rattle.tree_model.specs.Wants.{Locals, names}
use Rattle.tree_model.proofs.Following.{in_group, to_tree}
use Rattle.tree_model.proofs.Ifaces.{interfaces_are_ends}
use Rattle.tree_model.proofs.Links.{hop_linked}
use Rattle.tree_model.proofs.RankLaws.{rank_falls, rank_falls_at, rank_some}
use Rattle.tree_model.proofs.WantLaws.{a_common_name, want_names}
use Rattle.network_model.specs.Bounds.{IsProperArrival, AreBounds}
use Rattle.network_model.specs.Links.{goes_to, is_group}
use Rattle.network_model.specs.Locals.{locals_of}
use Rattle.network_model.specs.Steps.{Deliver, input_at, sent, step}
use Rattle.network_model.specs.Worlds.{Item, World, config_of}
use Rattle.network_model.proofs.Changing.{where_a_send_goes}
use Rattle.network_model.proofs.Machines.{in_arrived, in_rest}
use Rattle.laws_network.proofs.Known.{of_some}
use Rattle.laws_network.proofs.Sends.{IsSentByRule, sent_by_rule, goes_to_end}
use Rattle.laws_network.proofs.Standing.{own_end, peer_there, some_at}
use Rattle.settle_resvs.specs.GoalByIface.{goal_at}
use Rattle.settle_paths.proofs.PreviousHops.{ends_there, same_by_addr}
use Rattle.router_rules.specs.Steps.{node_step}
use Rattle.network_model.specs.Events.{pass, passes}
use Rattle.network_model.specs.Sound.{HasNoFlowError}
use Rattle.laws_steps.specs.AcceptingLaws.{IsTakenWhole}
use Rattle.router_rules.specs.Facts.{SenderKey}
use Rattle.settle_passes.specs.Passes.{after_passes}
use Rattle.settle_passes.proofs.Deliveries.{came_by_delivery}
use Rattle.settle_passes.proofs.Spreading.{after_deliveries, run_then}
use Rattle.settle_passes.proofs.Tearing.{drop_or, no_rest, tail_drop}
use Rattle.settle_resvs.proofs.Errors.{IsAlong, IsLow}
use Rattle.settle_senders.proofs.Ending.{IsLettingGo}

-- each error with a flow has so many hops to go at most
abbrev pub AreAllLow : Net → Locals → ℕ → List Item → Type 0
AreAllLow net l j ys = (y : Item) (m : ResvErrMsg) (flow : TokenBucket) → In y ys → y.arrival ≡ Spelt (message.ResvErr m) → m.blame.flow ≡ Some flow → IsLow net l j y m

pub low_more : (net : Net) (l : Locals) (j : ℕ) (y : Item) (m : ResvErrMsg) → IsLow net l j y m → IsLow net l (suc j) y m
low_more net l j y m low =
    ⊎_elim (λ (far : longest net < j). inl (omega (arith, far)))
    (λ (al : IsAlong net l j y m).
    let close = al.near in
    inr (record { named = al.named; listed = al.listed; some = al.some; hop = al.hop; there = al.there; to = al.to; from = al.from; within = al.within; near = omega (arith, close) })) low

-- an error with a flow that is proper names senders, or is of a wildcard filter
named_or_wild : (st : StyleKind) (listed : Option Names) (f : Option TokenBucket) (flow : TokenBucket) → f ≡ Some flow → IsProperBlameOf st listed f → (is_some listed ≡ true) ⊎ (st ≡ Wild)
named_or_wild Wild listed f flow e h = inr refl
named_or_wild Fixed (Some names) f flow e h = inl refl
named_or_wild Fixed None (Some x) flow e h = absurd h
named_or_wild Fixed None None flow e h = absurd (cc)
named_or_wild Shared (Some names) f flow e h = inl refl
named_or_wild Shared None (Some x) flow e h = absurd h
named_or_wild Shared None None flow e h = absurd (cc)

-- ---- one delivery, where each Resv that arrives is taken whole
module _ (q : ℕ) (d : SenderKey) (w u : World) (going : IsLettingGo q d w u) where
  abbrev pub IsTaking : Type 0
  IsTaking =
      (y : Item) (m : ResvMsg) (f : Facts) → In y u.flight → y.arrival ≡ Spelt (message.Resv m) → slice_get u.nodes (node_of u.net.ends y.end) ≡ Some f
      → IsTakenWhole (config_of q u.net u.trees (node_of u.net.ends y.end)) (config_of q u.net u.trees (node_of u.net.ends y.end)) u.clock (iface_of u.net.ends y.end) m f
      (goal_at u.net (locals_of w) (node_of u.net.ends y.end))

  abbrev was : Locals
  was = locals_of w

  bounds : AreBounds q u
  bounds = going.fading.bounds

  no_refusal : IsTaking → (n : ℕ) (f : Facts) (i : Input) → slice_get u.nodes n ≡ Some f → input_at (Deliver 0) u n ≡ Some i → (at : ℕ) (m : ResvMsg)
      → i ≡ Came at (own (config_of q u.net u.trees n) at) (Spelt (message.Resv m))
      → (rule (config_of q u.net u.trees n) (config_of q u.net u.trees n) (u.clock + 0) i f).heard ≡ heard.Taken
  no_refusal taken n f i there came at m is =
      let t = came_by_delivery q 0 u bounds n i came in
      let same_input : Came (iface_of u.net.ends t.item.end) t.item.dst t.item.arrival ≡ Came at (own (config_of q u.net u.trees n) at) (Spelt (message.Resv m)) = sym t.is ∙ is in
      let iface : iface_of u.net.ends t.item.end ≡ at = cc in
      let spelt : t.item.arrival ≡ Spelt (message.Resv m) = cc in
      let node : node_of u.net.ends t.item.end ≡ n = ap node_of_end t.there ∙ t.node in
      let x = taken t.item m f (in_arrived (Deliver 0) u t.item t.arrives) spelt (ap (λ (z : ℕ). slice_get u.nodes z) node ∙ there) in
      let ms : u.clock + 0 ≡ u.clock = omega arith in
      let x' : IsTakenWhole (config_of q u.net u.trees n) (config_of q u.net u.trees n) u.clock at m f (goal_at u.net was n) =
      subst (λ (z : ℕ × ℕ). IsTakenWhole (config_of q u.net u.trees z.0) (config_of q u.net u.trees z.0) u.clock z.1 m f (goal_at u.net was z.0)) (λ j. (node j, iface j)) x in
      (λ j. (rule (config_of q u.net u.trees n) (config_of q u.net u.trees n) (ms j) (is j) f).heard) ∙ x'.heard_it

  not_group : (e : ℕ) → e < length u.net.ends → is_group (addr_of u.net e) ≡ false
  not_group e lt = let x = some_at u.net.ends e lt in ap (λ (z : Option End). is_group (addr_of_end z)) x.1 ∙ bounds.hosts e x.0 x.1

  error_came : (n : ℕ) (i : Input) → input_at (Deliver 0) u n ≡ Some i → (at : ℕ) (m : ResvErrMsg) → i ≡ Came at (own (config_of q u.net u.trees n) at) (Spelt (message.ResvErr m))
      → (y : Item) × In y u.flight × (y.arrival ≡ Spelt (message.ResvErr m)) × (node_of u.net.ends y.end ≡ n)
  error_came n i came at m is =
      let t = came_by_delivery q 0 u bounds n i came in
      let same : Came (iface_of u.net.ends t.item.end) t.item.dst t.item.arrival ≡ Came at (own (config_of q u.net u.trees n) at) (Spelt (message.ResvErr m)) = sym t.is ∙ is in
      let spelt : t.item.arrival ≡ Spelt (message.ResvErr m) = cc in
      (t.item, in_arrived (Deliver 0) u t.item t.arrives, spelt, ap node_of_end t.there ∙ t.node)

  -- a hop out of the node to which an error came, over which it goes on: no chain from it is as long
  near : (j : ℕ) → AreAllLow u.net was (suc j) u.flight → (y : Item) (e : ResvErrMsg) (flow : TokenBucket) → In y u.flight → y.arrival ≡ Spelt (message.ResvErr e) → e.blame.flow ≡ Some flow
      → (h : LinkHop) → In h (hops_of u.net.hops e.session.group) → node_of u.net.ends h.from ≡ node_of u.net.ends y.end → (named : Names) → is_none named ≡ false
      → ((x : Sender) → has named x ≡ true → IsListed e.blame.senders x)
      → IsWithin named (names e.blame.style u.net was e.session (h ∷ [])) → rank u.net e.session.group h ≤ j
  near j low y e flow i spelt has_flow h there meet named some in_error within =
      ⊎_elim
      (λ (far : longest u.net < suc j). let most = (rank_falls u.net bounds.net.loop_free).hops e.session.group h there in omega (arith, most.1, far))
      (λ (al : IsAlong u.net was (suc j) y e).
      let first = unit_name e.blame.style (record { senders = named; flow = flow }) (ap not some) in
      let in_named : has al.named first.name ≡ true = subst (λ (z : Option Names). IsListed z first.name) al.listed (in_error first.name first.there) in
      let follows = (a_common_name e.blame.style u.net was e.session al.hop h first.name (al.within first.name in_named) (within first.name first.there)
      (meet ∙ ap (node_of u.net.ends) (sym al.to))).1 in
      let falls = rank_falls_at u.net bounds.net.loop_free e.session.group al.hop h follows in
      let close = al.near in
      omega (arith, falls, close))
      (low y e flow i spelt has_flow)

  -- what goes on goes over a hop that follows, and names some of its names
  pub along : (j : ℕ) → AreAllLow u.net was (suc j) u.flight → (y : Item) (m : ResvErrMsg) (flow : TokenBucket) → m.blame.flow ≡ Some flow → (r : IsSentByRule q (Deliver 0) u y (message.ResvErr m))
      → IsPassedOn (config_of q u.net u.trees r.node) r.by.input r.facts r.send m → IsAlong u.net was j y m
  along j low y m flow has_flow r x =
      let valid = bounds.net in
      let p : NodeConfig = config_of q u.net u.trees r.node in
      let st : StyleKind = x.error.blame.style in
      let t = error_came r.node r.by.input r.by.came x.at x.error x.came in
      -- the reservation over whose hop it goes on
      let sound = going.within.facts st r.node r.facts (x.error.session, (x.hop, x.unit)) x.resv r.there x.there in
      let h = sound.sound.hop in
      let of = (interfaces_are_ends u.net).iface_of_end r.node x.hop.0 sound.end sound.at in
      let inside = ends_there u.net valid x.error.session.group h sound.sound.there in
      let leaves : node_of u.net.ends h.from ≡ r.node = ap (node_of u.net.ends) sound.sound.from ∙ of.1 in
      let up = part_at_most_told x.resv.part sound.sound.wanted sound.sound.below in
      -- its names
      let blame : IsProperBlame x.error.blame = subst IsProperArrival t.2 (bounds.flight t.0 t.1).proper in
      let got = where_an_error_with_a_flow_comes_from.names p u.clock r.facts (bounds.facts r.node r.facts r.there) st
      (x.error.session, (x.hop, x.unit)) x.resv x.error.blame.senders m.blame.senders x.there x.blames
      (named_or_wild st x.error.blame.senders x.error.blame.flow flow (sym x.flow ∙ has_flow) blame) in
      let within : IsWithin got.0 (names st u.net was x.error.session (h ∷ [])) =
      (λ z e. want_names st u.net was x.error.session h x.unit sound.sound.wanted sound.sound.is z (up.names z (got.2.in_resv z e))) in
      -- where it goes
      let e = goes_to_end u.net (end_at u.net.ends r.node r.send.iface) r.send.dst y.end r.to in
      let found : Some e.0 ≡ Some sound.end = sym e.1 ∙ ap (end_at u.net.ends r.node) x.iface ∙ sound.at in
      let end : e.0 ≡ sound.end = of_some e.0 sound.end found in
      let goes : In y.end (goes_to u.net (Some sound.end) x.hop.1) = subst (λ (z : Option ℕ × Addr). In y.end (goes_to u.net z.0 z.1)) (λ k. ((e.1 ∙ ap Some end) k, x.dst k)) r.to in
      let g = in_group u.net.hops x.error.session.group h sound.sound.there in
      let in_tree : In h (tree u.net.hops g.0.group g.0.source) = subst (λ (z : LinkHop). In z (tree u.net.hops g.0.group g.0.source)) g.3 (to_tree u.net.hops g.0 g.1) in
      let linked : In h.to (peers u.net.links h.from) = hop_linked u.net valid g.0.group g.0.source h in_tree in
      let peer : In h.to (peers u.net.links sound.end) = subst (λ (z : ℕ). In h.to (peers u.net.links z)) sound.sound.from linked in
      let host : is_group x.hop.1 ≡ false = subst (λ (z : Addr). is_group z ≡ false) sound.sound.to (not_group h.to inside.1) in
      let to = ((where_a_send_goes u.net sound.end x.hop.1).one host h.to peer sound.sound.to y.end).0 goes in
      let own_is : own p x.hop.0 ≡ addr_of u.net sound.end = own_end q u.net u.trees r.node x.hop.0 sound.end sound.at in
      record {
        named = got.0;
        listed = got.1;
        some = got.2.some;
        hop = h;
        there = subst (λ (z : Session). In h (hops_of u.net.hops z.group)) (sym x.session) sound.sound.there;
        to = same_by_addr u.net valid h.to y.end inside.1 (peer_there u.net valid sound.end y.end to.0) (sound.sound.to ∙ sym to.1);
        from = ap (addr_of u.net) sound.sound.from ∙ sym own_is ∙ ap (λ (z : RsvpHop). z.addr) (sym x.here);
        within = subst (λ (z : StyleKind × Session). IsWithin got.0 (names z.0 u.net was z.1 (h ∷ []))) (λ k. (sym x.style k, sym x.session k)) within;
        near = subst (λ (z : Session). rank u.net z.group h ≤ j) (sym x.session) (near j low t.0 x.error flow t.1 t.2 (sym x.flow ∙ has_flow) h sound.sound.there
            (leaves ∙ sym t.3) got.0 got.2.some got.2.in_error within);
      }

  pub passed_on : IsTaking → (j : ℕ) → AreAllLow u.net was (suc j) u.flight → (y : Item) (b : Bool) (m : ResvErrMsg) (flow : TokenBucket) → In (y, b) (sent q (Deliver 0) u)
      → y.arrival ≡ Spelt (message.ResvErr m)
      → m.blame.flow ≡ Some flow → IsAlong u.net was j y m
  passed_on taken j low y b m flow i spelt has_flow =
      let r = sent_by_rule q (Deliver 0) u y b (message.ResvErr m) refl i spelt in
      let p : NodeConfig = config_of q u.net u.trees r.node in
      ⊎_elim
      (λ (x : IsRefusal p p (u.clock + 0) r.by.input r.facts r.send). absurd (x.not_taken (no_refusal taken r.node r.facts r.by.input r.there r.by.came x.at x.resv x.came)))
      (λ (x : IsPassedOn p r.by.input r.facts r.send m). along j low y m flow has_flow r x)
      (where_an_error_with_a_flow_comes_from.source (node_step p p u.clock (u.clock + 0) r.by.input r.facts) (bounds.facts r.node r.facts r.there) r.send m flow r.sent r.says has_flow)

-- ---- passes: each takes one off
module _ (q : ℕ) (d : SenderKey) (w : World) (P : World → Type 0) (step_on : (u : World) → P u → P (step q (Deliver 0) u)) (net : (u : World) → P u → u.net ≡ w.net)
    (sends_low : (u : World) → P u → (j : ℕ) → AreAllLow u.net (locals_of w) (suc j) u.flight → (y : Item) (b : Bool) (m : ResvErrMsg) (flow : TokenBucket) → In (y, b) (sent q (Deliver 0) u)
    → y.arrival ≡ Spelt (message.ResvErr m) → m.blame.flow ≡ Some flow → IsAlong u.net (locals_of w) j y m) where
  abbrev Low : ℕ → List Item → Type 0
  Low j ys = AreAllLow w.net (locals_of w) j ys

  low_on : (j m : ℕ) (u : World) → P u → Low (suc j) u.flight → Low j (drop m u.flight) → Low j (after_deliveries q m u).flight
  low_on j zero u p all late = late
  low_on j (suc m) u p all late =
      let more : List Item = each (λ (x : Item × Bool). x.0) (sent q (Deliver 0) u) in
      let here : AreAllLow u.net (locals_of w) (suc j) u.flight = subst (λ (z : Net). AreAllLow z (locals_of w) (suc j) u.flight) (sym (net u p)) all in
      let new : Low j more =
      (λ z v t x e h.
      let k = in_each (λ (b : Item × Bool). b.0) z (sent q (Deliver 0) u) x in
      inr (subst (λ (o : Net). IsAlong o (locals_of w) j z v) (net u p)
      (sends_low u p j here z k.0.1 v t (subst (λ (b : Item). In (b, k.0.1) (sent q (Deliver 0) u)) (sym k.2) k.1) e h))) in
      low_on j m (step q (Deliver 0) u) (step_on u p)
      (λ z v t x e h. ⊎_elim (λ (old : In z (remove u.flight 0)). all z v t (in_rest (Deliver 0) u z refl old) e h)
      (λ (n : In z more). low_more w.net (locals_of w) j z v (new z v t n e h)) (in_append z (remove u.flight 0) more x))
      (λ z v t x e h. ⊎_elim (λ (old : In z (drop m (remove u.flight 0))). late z v t (tail_drop z m u.flight old) e h) (λ (n : In z more). new z v t n e h)
      (drop_or z m (remove u.flight 0) more x))

  pass_on : (m : ℕ) (u : World) → P u → P (after_deliveries q m u)
  pass_on zero u p = p
  pass_on (suc m) u p = pass_on m (step q (Deliver 0) u) (step_on u p)

  pub low_after : (n j : ℕ) (u : World) → P u → Low (n + j) u.flight → P (after_passes q n u) × Low j (after_passes q n u).flight
  low_after zero j u p low = let sum : zero + j ≡ j = omega arith in (p, subst (λ (z : ℕ). Low z u.flight) sum low)
  low_after (suc n) j u p low =
      let v : World = after_deliveries q (length u.flight) u in
      let sum : suc n + j ≡ suc (n + j) = omega arith in
      let one : Low (n + j) v.flight =
      low_on (n + j) (length u.flight) u p (subst (λ (z : ℕ). Low z u.flight) sum low) (λ z v t x. absurd (no_rest z u.flight x)) in
      subst (λ (z : World). P z × Low j z.flight) (sym (run_then q (pass q u) (passes q n v) u)) (low_after n j v (pass_on (length u.flight) u p) one)

  pub none_left : IsLoopFree w.net → (u : World) → Low 0 u.flight → HasNoFlowError u
  none_left free u low y m i spelt = by m.blame.flow refl
    where
      by : (f : Option TokenBucket) → m.blame.flow ≡ f → m.blame.flow ≡ None
      by None e = e
      by (Some flow) e =
          ⊎_elim (λ (far : longest w.net < 0). absurd (omega (arith, far)))
          (λ (al : IsAlong w.net (locals_of w) 0 y m).
          let some = rank_some w.net free m.session.group al.hop al.there in
          let close = al.near in
          absurd (omega (arith, some, close)))
          (low y m flow i spelt e)
