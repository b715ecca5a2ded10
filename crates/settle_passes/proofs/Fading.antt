-- A sender that has ended: its paths fade by passes, one hop each, and all others stay.
use Rattle.std.proofs.Common.{◌≡◌, ℕ, zero, suc, ◌+◌, ◌≤◌, List, [], ◌∷◌, ◌++◌, length, Bool, true, false, cond, Option, Some, None, ◌⊎◌, inl, inr, ⊎_elim, arith, sym, refl, ap, subst, ◌∙◌, take}
use Rattle.std.specs.Prelude.{slice_get, is_some, not, ◌||◌, map as each}
use Rattle.std.specs.List.{remove}
use Rattle.std.specs.Option.{option_map}
use Rattle.std.specs.Ordering.{eq_by_cmp}
use Rattle.std.proofs.lemmas.Bool.{lt-ltb}
use Rattle.std.proofs.lemmas.List.{take_all}
use Rattle.rsvp_base.specs.declared.session.Sender.{Sender}
use Rattle.rsvp_base.specs.declared.session.Session.{Session}
use Rattle.rsvp_base.specs.Members.{In}
use Rattle.rsvp_base.specs.Table.{get, has, without}
use Rattle.rsvp_base.specs.TokenBucket.{TokenBucket}
use Rattle.rsvp_base.proofs.Fronts.{in_front}
use Rattle.rsvp_base.proofs.Members.{in_left, in_right, to_each}
use Rattle.rsvp_base.proofs.SetLaws.{and_made}
use Rattle.rsvp_base.proofs.Tables.{either, get-without, tied_same, tied_self}
use Rattle.rsvp_messages.specs.declared.message.Message.TheVariants as message
use Rattle.rsvp_messages.specs.declared.message.PathMsg.{PathMsg}
use Rattle.rsvp_messages.specs.declared.message.PathTearMsg.{PathTearMsg}
use Rattle.laws_bounds.specs.FactLaws.{is_way}
use Rattle.laws_bounds.proofs.Knowing.{has-known}
use Rattle.laws_bounds.proofs.Offering.{offers_by_way}
use Rattle.laws_bounds.proofs.Stepping.{IsOffered, offer_source, offered, offered_is_known}
use Rattle.laws_bounds.proofs.Tests.{addr_tested, came_tested, not_new}
use Rattle.router_rules.specs.Act.{act_spelt}
use Rattle.router_rules.specs.Facts.{Facts, SenderKey, PathState, Paths, sender_keys}
use Rattle.router_rules.specs.Inputs.{Came, Input, Send, Spelt, Wait}
use Rattle.router_rules.specs.Known.{came_by, known}
use Rattle.router_rules.specs.NodeConfig.{NodeConfig, own, period}
use Rattle.router_rules.specs.Offers.{Offer, OfferKey, offer_at, offers, own_offer, path_offer}
use Rattle.router_rules.specs.Paths.{is_path_by, torn_path}
use Rattle.router_rules.specs.Rule.{Outcome, is_silent, rule}
use Rattle.router_rules.specs.Sends.{is_new_offer, path_send, path_tear, told_at}
use Rattle.router_rules.specs.Steps.{facts_then, node_step, sent_then}
use Rattle.style_rules.specs.Toward.{or_else}
use Rattle.tree_model.specs.declared.hops.LinkHop.{LinkHop}
use Rattle.tree_model.specs.Goals.{addr_of}
use Rattle.tree_model.specs.Networks.{Net, iface_of, node_of}
use Rattle.tree_model.specs.Ranks.{longest}
use Rattle.tree_model.specs.Trees.{depth, inward, tree}
use Rattle.tree_model.proofs.Depths.{depth_and_rank_within_longest}
use Rattle.tree_model.proofs.TreeLaws.{one}
use Rattle.network_model.specs.Bounds.{AreBounds}
use Rattle.network_model.specs.Events.{pass, passes}
use Rattle.network_model.specs.Links.{copy_to, is_group}
use Rattle.network_model.specs.Locals.{IsLive}
use Rattle.network_model.specs.Sound.{ArePathsComplete, ArePathsSound, IsSoundAt}
use Rattle.network_model.specs.Steps.{Deliver, Step, input_at, ms_of, outcome, rest, sent, step, still}
use Rattle.network_model.specs.Worlds.{Item, World, config_of}
use Rattle.network_model.proofs.Machines.{in_arrived, in_flight_after}
use Rattle.network_model.proofs.NodeLocals.{is_live}
use Rattle.network_model.proofs.Quiet.{FollowsRule, outcome_by, outcome_quiet}
use Rattle.network_model.proofs.Stepping.{copies_made, facts_after_made, sent_made}
use Rattle.laws_network.specs.Known.{IsSameNet}
use Rattle.laws_network.specs.Sources.{IsLocalOffer, IsPathOffer}
use Rattle.laws_network.specs.SpeakingLaws.{IsOfGoneOffer}
use Rattle.laws_network.proofs.Known.{came_there, of_some}
use Rattle.laws_network.proofs.Sends.{IsSentByRule, sent_by_rule}
use Rattle.laws_network.proofs.Speaking.{refreshes_are_marked, send_made, what_a_path_sent_says, why_a_path_tear_is_sent}
use Rattle.laws_network.proofs.Standing.{own_end, to_there}
use Rattle.settle_paths.proofs.PathSends.{path_sent}
use Rattle.settle_paths.proofs.SoftPaths.{IsBrought, path_found, path_made, path_source}
use Rattle.settle_paths.specs.SoftPaths.{path_at}
use Rattle.settle_passes.specs.Calls.{IsNew}
use Rattle.settle_passes.specs.Passes.{Knows, after_passes}
use Rattle.settle_passes.proofs.Leaving.{IsFading, IsLeftAt, IsTearOver}
use Rattle.settle_passes.proofs.Deliveries.{AreSoundOf, HasNoTearOf, at_end, bounds_next, came_by_delivery, goes, hosts_next, known_self, known_stays}
use Rattle.settle_passes.proofs.Deliveries.{live_back, now_or_later, path_right, path_stays, same_next, sent_is_sound, sound_again, sound_facts, way}
use Rattle.settle_passes.proofs.Spreading.{after_deliveries, in_take, run_then}

-- ---- a node that comes to know a sender no more tears it down: a PathTear goes over each hop of the sender's tree out of the node
module _ (q : ℕ) (s : Step) (u : World) (bounds : AreBounds q u) (k : SenderKey) (h : LinkHop) (there : In h (tree u.net.hops k.0.group k.1.addr)) where
  abbrev at_from : ℕ
  at_from = node_of u.net.ends h.from

  abbrev pub place_from : NodeConfig
  place_from = config_of q u.net u.trees at_from

  abbrev pub key_from : OfferKey
  key_from = record { session = k.0; sender = k.1; iface = iface_of u.net.ends h.from }

  -- the step has the node know the sender no more
  pub record IsLostThere (f : Facts) : Type 0 where
    pub facts : slice_get u.nodes at_from ≡ Some f
    pub input : Input
    pub loud : is_silent input ≡ false
    pub rule_is : outcome q s u at_from f ≡ rule place_from place_from (u.clock + ms_of s) input f
    pub before : has (known f k.0) k.1 ≡ true
    pub after : has (known (outcome q s u at_from f).facts k.0) k.1 ≡ false

  by_way : (f : Facts) → has (offers place_from f) key_from ≡ has (known f k.0) k.1
  by_way f =
      ap (λ (z : Option Offer). is_some z) (offers_by_way place_from f key_from ∙ ap (λ (b : Bool). cond b (offer_at f key_from) None) (way q s u bounds k h there)) ∙ offered_is_known f key_from

  pub torn_over : is_group k.0.group ≡ true → (f : Facts) → IsLostThere f → In (copy_to u.made (path_tear place_from key_from) h.to) (sent q s u)
  torn_over group f n =
      let c : ℕ = u.clock + ms_of s in
      let left : Facts = facts_then place_from place_from c n.input f in
      let lost : has (known left k.0) k.1 ≡ false = ap (λ (z : Outcome). has (known z.facts k.0) k.1) (sym n.rule_is) ∙ n.after in
      let send : Send = path_tear place_from key_from in
      let sends : In send (sent_then place_from place_from c n.input f) =
      send_made place_from place_from c n.input f send n.loud (inl (record { key = key_from; was = by_way f ∙ n.before; gone = by_way left ∙ lost; is = refl })) in
      let out : In send (outcome q s u at_from f).sent = subst (λ (z : Outcome). In send z.sent) (sym n.rule_is) sends in
      sent_made q s u at_from f (copy_to u.made send h.to) n.facts (copies_made u.net u.made at_from (outcome q s u at_from f).sent send h.to out (goes q s u bounds k h there group))

  pub own_is : own place_from key_from.iface ≡ addr_of u.net h.from
  own_is = own_end q u.net u.trees at_from key_from.iface h.from (at_end q s u bounds k h there)

-- ---- one delivery
pub not_tied : (k d : SenderKey) → eq_by_cmp sender_keys.cmp k d ≡ false → k ≡ d → ⊥
not_tied k d apart e = let bad : true ≡ false = sym (ap (λ (z : SenderKey). eq_by_cmp sender_keys.cmp z d) e ∙ tied_self sender_keys d) ∙ apart in absurd (cc)

module _ (q j : ℕ) (d : SenderKey) (u : World) (fading : IsFading q d u) where
  abbrev later : World
  later = step q (Deliver j) u

  abbrev bounds : AreBounds q u
  bounds = fading.bounds

  others_stay : (k : SenderKey) → (k ≡ d → ⊥) → HasNoTearOf u k
  others_stay k other y m i spelt session sender =
      let t = fading.tears y m i spelt in
      let a : k.0 ≡ d.0 = sym session ∙ t.0 in
      let b : k.1 ≡ d.1 = of_some k.1 d.1 (sym sender ∙ t.1) in
      other (λ z. (a z, b z))

  -- what a node has of the sender it had
  path_before : (n : ℕ) (g : Facts) (x : PathState) → slice_get later.nodes n ≡ Some g → get g.paths d ≡ Some x → (f : Facts) × (slice_get u.nodes n ≡ Some f) × (get f.paths d ≡ Some x)
  path_before n g x b h =
      ⊎_elim (λ (old : path_at u n d ≡ Some x). path_found u n d x old)
      (λ (new : IsBrought q u.net (Deliver j) u n d x). absurd (fading.silent new.item new.path new.tspec (in_arrived (Deliver j) u new.item new.arrives) new.spelt new.session new.sender))
      (path_source q (Deliver j) u refl bounds n d x (path_made later n d x g b h))

  gone_next : IsNew later d
  gone_next t l = fading.gone t (live_back q j u bounds d t l)

  -- ---- the others
  sound_later : (k : SenderKey) → (k ≡ d → ⊥) → AreSoundOf later k
  sound_later k other = record {
    facts = λ n g x b h. sound_facts q j u bounds k (fading.sound k other) n g x b h;
    items = λ y m t i spelt session sender in_way.
        ⊎_elim (λ (old : In y u.flight). sound_again q j u bounds k y.end (m.hop.addr, t) ((fading.sound k other).items y m t old spelt session sender in_way))
        (λ (new : (b : Bool) × In (y, b) (sent q (Deliver j) u)).
        let same : ◌≡◌ {A = SenderKey} (m.session, k.1) k = (λ z. (session z, k.1)) in
        let in_way' : inward u.net (node_of u.net.ends y.end) m.session.group k.1.addr ≡ Some y.end =
        subst (λ (z : Session). inward u.net (node_of u.net.ends y.end) z.group k.1.addr ≡ Some y.end) (sym session) in_way in
        subst (λ (z : SenderKey). IsSoundAt later z y.end (m.hop.addr, t)) same
        (sent_is_sound q later bounds.net y m k.1 t
        (λ n g z b h. sound_facts q j u bounds (m.session, k.1) (subst (AreSoundOf u) (sym same) (fading.sound k other)) n g z b h)
        (path_sent q (Deliver j) u refl bounds y new.0 m new.1 spelt) sender in_way'))
        (in_flight_after q (Deliver j) u y refl i);
  }

  other_one : (k : SenderKey) (t : TokenBucket) → IsLive u k t → k ≡ d → ⊥
  other_one k t live e = fading.gone t (subst (λ (z : SenderKey). IsLive u z t) e live)

  complete_later : ArePathsComplete later
  complete_later k t h live' there =
      let live : IsLive u k t = live_back q j u bounds k t live' in
      let other = other_one k t live in
      let a = fading.complete k t h live there in
      let s = path_stays q j u bounds (node_of u.net.ends h.to) a.facts k a.path (others_stay k other) a.node a.there in
      path_right q later (bounds_next q j u bounds) (hosts_next q j u bounds fading.hosts) k t h live' there s.0 s.1 s.2 s.3
      (sound_facts q j u bounds k (fading.sound k other) (node_of u.net.ends h.to) s.0 s.2 s.1 s.3)

  -- ---- what is sent: PathTears of the sender alone, and no Path of it
  pub tears_later : (y : Item) (m : PathTearMsg) → In y later.flight → y.arrival ≡ Spelt (message.PathTear m) → (m.session ≡ d.0) × (m.sender ≡ Some d.1)
  tears_later y m i spelt =
      ⊎_elim (λ (old : In y u.flight). fading.tears y m old spelt)
      (λ (new : (b : Bool) × In (y, b) (sent q (Deliver j) u)).
      let r = sent_by_rule q (Deliver j) u y new.0 (message.PathTear m) refl new.1 spelt in
      let p : NodeConfig = config_of q u.net u.trees r.node in
      let c : ℕ = u.clock + ms_of (Deliver j) in
      let o : IsOfGoneOffer p p r.facts (facts_then p p c r.by.input r.facts) r.send m =
      why_a_path_tear_is_sent (node_step p p u.clock c r.by.input r.facts) (bounds.facts r.node r.facts r.there) r.send m r.sent r.says in
      let k : SenderKey = (o.key.session, o.key.sender) in
      either (eq_by_cmp sender_keys.cmp k d)
      (λ tied.
      let e : k ≡ d = tied_same sender_keys k d tied in
      (ap (λ (z : PathTearMsg). z.session) o.is ∙ ap (λ (z : SenderKey). z.0) e, ap (λ (z : PathTearMsg). z.sender) o.is ∙ ap (λ (z : SenderKey). Some z.1) e))
      (λ apart.
      let after = facts_after_made q (Deliver j) u r.node r.facts r.there in
      let stays : has (known (outcome q (Deliver j) u r.node r.facts).facts k.0) k.1 ≡ true =
      known_stays q j u bounds r.node r.facts (outcome q (Deliver j) u r.node r.facts).facts k (others_stay k (not_tied k d apart)) r.there after o.known_before in
      let knows : has (known (facts_then p p c r.by.input r.facts) k.0) k.1 ≡ true = ap (λ (z : Outcome). has (known z.facts k.0) k.1) (sym r.by.is) ∙ stays in
      absurd (⊎_elim
      (λ (away : is_way p o.key ≡ false). let out : is_way p o.key ≡ true = and_made _ _ (lt-ltb o.key.iface (length p.ifaces) o.there) o.way in let bad : true ≡ false = sym out ∙ away in cc)
      (λ (gone : has (known (facts_then p p c r.by.input r.facts) o.key.session) o.key.sender ≡ false). let bad : true ≡ false = sym knows ∙ gone in cc) o.gone)))
      (in_flight_after q (Deliver j) u y refl i)

  pub none_local : (n : ℕ) (f : Facts) → slice_get u.nodes n ≡ Some f → get f.senders d ≡ None
  none_local n f a = by (get f.senders d) refl
    where
      by : (o : Option TokenBucket) → get f.senders d ≡ o → o ≡ None
      by None e = refl
      by (Some t) e = absurd (fading.gone t (is_live u n f d t a e))

  -- a Path that is sent is new, so it is of a path that came by the step
  silent_sent : (y : Item) (b : Bool) (m : PathMsg) (t : TokenBucket) → In (y, b) (sent q (Deliver j) u) → y.arrival ≡ Spelt (message.Path m) → m.session ≡ d.0 → m.sender ≡ Some (d.1, t) → ⊥
  silent_sent y b m t i spelt session sender = by r.send.refresh refl
    where
      r : IsSentByRule q (Deliver j) u y (message.Path m)
      r = sent_by_rule q (Deliver j) u y b (message.Path m) refl i spelt

      by : (z : Bool) → r.send.refresh ≡ z → ⊥
      by true e =
          let p : NodeConfig = config_of q u.net u.trees r.node in
          let c : ℕ = u.clock + ms_of (Deliver j) in
          let w = refreshes_are_marked.waited (node_step p p u.clock c r.by.input r.facts) (bounds.facts r.node r.facts r.there) r.send r.sent e in
          let came = came_by_delivery q j u bounds r.node r.by.input r.by.came in
          let bad : Wait w.0 w.1 ≡ Came (iface_of u.net.ends came.item.end) came.item.dst came.item.arrival = sym w.2 ∙ came.is in
          cc
      by false e =
          let p : NodeConfig = config_of q u.net u.trees r.node in
          let c : ℕ = u.clock + ms_of (Deliver j) in
          let after : Facts = facts_then p p c r.by.input r.facts in
          let g : Facts = (outcome q (Deliver j) u r.node r.facts).facts in
          let there : slice_get later.nodes r.node ≡ Some g = facts_after_made q (Deliver j) u r.node r.facts r.there in
          let w = what_a_path_sent_says.why (node_step p p u.clock c r.by.input r.facts) (bounds.facts r.node r.facts r.there) r.send m r.sent r.says e in
          let k : OfferKey = w.0 in
          let o : Offer = w.1 in
          let says : message.Path m ≡ (path_send p false (k, o)).message = sym r.says ∙ ap (λ (z : Send). z.message) w.2 in
          let is : m ≡ record { session = k.session; police = o.local; hop = record { addr = own p k.iface; handle = 0 }; period = period p; sender = Some (k.sender, o.tspec); adspec = told_at p k.iface o } = cc in
          let both : ◌≡◌ {A = Sender × TokenBucket} (k.sender, o.tspec) (d.1, t) = of_some (k.sender, o.tspec) (d.1, t) (sym (ap (λ (z : PathMsg). z.sender) is) ∙ sender) in
          let of_session : k.session ≡ d.0 = sym (ap (λ (z : PathMsg). z.session) is) ∙ session in
          let of_sender : k.sender ≡ d.1 = ap (λ (z : Sender × TokenBucket). z.0) both in
          let same : ◌≡◌ {A = SenderKey} (k.session, k.sender) d = (λ z. (of_session z, of_sender z)) in
          let at : IsOffered p after k o = offered p after k o w.3 in
          ⊎_elim
          (λ (l : IsLocalOffer after k o).
          gone_next o.tspec (is_live later r.node g d o.tspec there (ap (λ (z : Outcome). get z.facts.senders d) r.by.is ∙ ap (λ (z : SenderKey). get after.senders z) (sym same) ∙ l.there)))
          (λ (l : IsPathOffer after k o).
          let x : PathState = l.path in
          let now : get g.paths d ≡ Some x = ap (λ (z : Outcome). get z.facts.paths d) r.by.is ∙ ap (λ (z : SenderKey). get after.paths z) (sym same) ∙ l.there in
          let f = path_before r.node g x there now in
          let here : f.0 ≡ r.facts = of_some f.0 r.facts (sym f.1 ∙ r.there) in
          let before : get r.facts.paths (k.session, k.sender) ≡ Some x = ap (λ (z : SenderKey). get r.facts.paths z) same ∙ ap (λ (z : Facts). get z.paths d) (sym here) ∙ f.2 in
          let nobody : get r.facts.senders (k.session, k.sender) ≡ None = ap (λ (z : SenderKey). get r.facts.senders z) same ∙ none_local r.node r.facts r.there in
          let old : offer_at r.facts k ≡ Some (path_offer x) = (λ z. or_else (option_map (own_offer (has r.facts.advertised (k.session, k.sender))) (nobody z)) (option_map path_offer (before z))) in
          let was : get (offers p r.facts) k ≡ Some (path_offer x) = offers_by_way p r.facts k ∙ ap (λ (z : Bool). cond z (offer_at r.facts k) None) at.way ∙ old in
          let new : is_new_offer p k.iface o (Some (path_offer x)) ≡ true = ap (λ (z : Option Offer). is_new_offer p k.iface o z) (sym was) ∙ w.4 in
          let as_was : o ≡ path_offer x = (λ z. record { tspec = l.tspec z; local = l.local z; advert = l.advert z }) in
          let bad : false ≡ true = sym (not_new p k.iface o) ∙ ap (λ (z : Offer). is_new_offer p k.iface o (Some z)) as_was ∙ new in
          cc)
          (offer_source after k o at.at)

  -- ---- a PathTear that is delivered takes the path out
  gone_from : (m : Paths) → get (without m d) d ≡ None
  gone_from m = get-without sender_keys m d d ∙ ap (λ (b : Bool). cond (not b) (get m d) None) (tied_self sender_keys d)

  torn : (h : LinkHop) → In h (tree u.net.hops d.0.group d.1.addr) → (y : IsTearOver u d h) → slice_get u.flight j ≡ Some y.item → (f : Facts) → slice_get u.nodes (node_of u.net.ends h.to) ≡ Some f
      → (x : PathState) → get f.paths d ≡ Some x → get (outcome q (Deliver j) u (node_of u.net.ends h.to) f).facts.paths d ≡ None
  torn h there y arr f a x e =
      let n : ℕ = node_of u.net.ends h.to in
      let i : ℕ = iface_of u.net.ends h.to in
      let p : NodeConfig = config_of q u.net u.trees n in
      let c : ℕ = u.clock + ms_of (Deliver j) in
      let lt = to_there u.net bounds.net d.0.group d.1.addr h there in
      let tear : PathTearMsg = record { session = d.0; hop = y.tear.hop; sender = Some d.1 } in
      let is : y.tear ≡ tear = (λ z. record { session = y.session z; hop = y.tear.hop; sender = y.sender z }) in
      let input : Input = Came i d.0.group (Spelt (message.PathTear tear)) in
      let spelt : y.item.arrival ≡ Spelt (message.PathTear tear) = y.spelt ∙ ap (λ (z : PathTearMsg). Spelt (message.PathTear z)) is in
      let came : input_at (Deliver j) u n ≡ Some input = came_there q u u (known_self q u bounds) h.to lt (Deliver j) y.item arr y.end ∙ (λ z. Some (Came i (y.dst z) (spelt z))) in
      let l = fading.left n f x a e in
      let one_hop : l.hop ≡ h = one u.net bounds.net d.0.group d.1.addr l.hop h l.there there l.node in
      let by : came_by (i, y.tear.hop.addr) x ≡ true =
      came_tested (i, y.tear.hop.addr) x (l.iface ∙ ap (λ (z : LinkHop). iface_of u.net.ends z.to) one_hop, l.from ∙ ap (λ (z : LinkHop). addr_of u.net z.from) one_hop ∙ sym y.hop) in
      let from : is_path_by (i, y.tear.hop.addr) (get f.paths d) ≡ true = ap (is_path_by (i, y.tear.hop.addr)) e ∙ by in
      ap (λ (z : Outcome). get z.facts.paths d) (outcome_by q (Deliver j) u n f input refl came)
      ∙ ap (λ (b : Bool). get (act_spelt p c i (message.PathTear tear) b f).facts.paths d) (addr_tested d.0.group d.0.group refl)
      ∙ ap (λ (b : Bool). get (torn_path b d f.paths).0 d) from ∙ gone_from f.paths

  -- ---- what is left of the sender
  left_later : (n : ℕ) (g : Facts) (x : PathState) → slice_get later.nodes n ≡ Some g → get g.paths d ≡ Some x → IsLeftAt later n d x
  left_later n g x b h =
      let f = path_before n g x b h in
      let l = fading.left n f.0 x f.1 f.2 in
      record { hop = l.hop; there = l.there; node = l.node; iface = l.iface; from = l.from }

  still_over : (h : LinkHop) (y : IsTearOver u d h) → In y.item (remove u.flight j) → IsTearOver later d h
  still_over h y i = record {
    item = y.item;
    flight = in_left y.item (rest (Deliver j) u) (each (λ (z : Item × Bool). z.0) (sent q (Deliver j) u)) i;
    end = y.end;
    dst = y.dst;
    tear = y.tear;
    spelt = y.spelt;
    session = y.session;
    sender = y.sender;
    hop = y.hop;
  }

  -- the node before a hop goes on to know the sender, or tears it down
  known_or_torn : (h : LinkHop) → In h (tree u.net.hops d.0.group d.1.addr) → Knows u (node_of u.net.ends h.from) d → Knows later (node_of u.net.ends h.from) d ⊎ IsTearOver later d h
  known_or_torn h there k =
      either (has (known (outcome q (Deliver j) u (node_of u.net.ends h.from) k.facts).facts d.0) d.1)
      (λ still_known.
      inl (record {
        facts = (outcome q (Deliver j) u (node_of u.net.ends h.from) k.facts).facts;
        there = facts_after_made q (Deliver j) u (node_of u.net.ends h.from) k.facts k.there;
        known_one = still_known;
      }))
      (λ lost. inr (tear_it lost))
    where
      tear_it : has (known (outcome q (Deliver j) u (node_of u.net.ends h.from) k.facts).facts d.0) d.1 ≡ false → IsTearOver later d h
      tear_it lost =
          let n : ℕ = node_of u.net.ends h.from in
          let f : Facts = k.facts in
          ⊎_elim
          (λ (z : (input_at (Deliver j) u n ≡ None) × (outcome q (Deliver j) u n f ≡ still f)).
          let bad : true ≡ false = sym k.known_one ∙ sym (ap (λ (o : Outcome). has (known o.facts d.0) d.1) z.1) ∙ lost in absurd (cc))
          (λ (r : FollowsRule q (Deliver j) u n f (outcome q (Deliver j) u n f)).
          let one_sent = torn_over q (Deliver j) u bounds d h there fading.group f
          (record { facts = k.there; input = r.input; loud = ap is_silent (came_by_delivery q j u bounds n r.input r.came).is; rule_is = r.is; before = k.known_one; after = lost }) in
          let y : Item × Bool = copy_to u.made (path_tear (place_from q (Deliver j) u bounds d h there) (key_from q (Deliver j) u bounds d h there)) h.to in
          record {
            item = y.0;
            flight = in_right y.0 (rest (Deliver j) u) (each (λ (z : Item × Bool). z.0) (sent q (Deliver j) u)) (to_each (λ (z : Item × Bool). z.0) y (sent q (Deliver j) u) one_sent);
            end = refl;
            dst = refl;
            tear = _;
            spelt = refl;
            session = refl;
            sender = refl;
            hop = own_is q (Deliver j) u bounds d h there;
          })
          (outcome_quiet q (Deliver j) u n f refl)

  fading_later : (h : LinkHop) (g : Facts) (x : PathState) → In h (tree u.net.hops d.0.group d.1.addr) → slice_get later.nodes (node_of u.net.ends h.to) ≡ Some g → get g.paths d ≡ Some x
      → Knows later (node_of u.net.ends h.from) d ⊎ IsTearOver later d h
  fading_later h g x there b e =
      let f = path_before (node_of u.net.ends h.to) g x b e in
      ⊎_elim (λ (k : Knows u (node_of u.net.ends h.from) d). known_or_torn h there k)
      (λ (y : IsTearOver u d h).
      ⊎_elim
      (λ (now : slice_get u.flight j ≡ Some y.item).
      let none : get (outcome q (Deliver j) u (node_of u.net.ends h.to) f.0).facts.paths d ≡ None = torn h there y now f.0 f.1 x f.2 in
      let same : g ≡ (outcome q (Deliver j) u (node_of u.net.ends h.to) f.0).facts = of_some _ _ (sym b ∙ facts_after_made q (Deliver j) u (node_of u.net.ends h.to) f.0 f.1) in
      let bad : None ≡ Some x = sym none ∙ ap (λ (z : Facts). get z.paths d) (sym same) ∙ e in
      absurd (cc))
      (λ (still_there : In y.item (remove u.flight j)). inr (still_over h y still_there))
      (now_or_later y.item j u.flight y.flight))
      (fading.fading h f.0 x there f.1 f.2)

  pub fading_next : IsFading q d later
  fading_next = record {
    bounds = bounds_next q j u bounds;
    hosts = hosts_next q j u bounds fading.hosts;
    group = fading.group;
    gone = gone_next;
    sound = sound_later;
    named = λ y m i spelt none.
        ⊎_elim (λ (old : In y u.flight). fading.named y m old spelt none)
        (λ (new : (b : Bool) × In (y, b) (sent q (Deliver j) u)).
        let p = path_sent q (Deliver j) u refl bounds y new.0 m new.1 spelt in
        let bad : Some (p.sender, p.tspec) ≡ None = sym p.of ∙ none in absurd (cc)) (in_flight_after q (Deliver j) u y refl i);
    complete = complete_later;
    tears = tears_later;
    silent = λ y m t i spelt session sender.
        ⊎_elim (λ (old : In y u.flight). fading.silent y m t old spelt session sender)
        (λ (new : (b : Bool) × In (y, b) (sent q (Deliver j) u)). silent_sent y new.0 m t new.1 spelt session sender) (in_flight_after q (Deliver j) u y refl i);
    left = left_later;
    fading = fading_later;
  }

  -- ---- where a node has no path of the sender it gets none, and where its PathTear is delivered it has none
  abbrev pub NoneAt : World → ℕ → Type 0
  NoneAt w n = (f : Facts) → slice_get w.nodes n ≡ Some f → get f.paths d ≡ None

  pub none_next : (n : ℕ) → NoneAt u n → NoneAt later n
  none_next n none g b = by (get g.paths d) refl
    where
      by : (o : Option PathState) → get g.paths d ≡ o → o ≡ None
      by None e = refl
      by (Some x) e = let f = path_before n g x b e in let bad : None ≡ Some x = sym (none f.0 f.1) ∙ f.2 in absurd (cc)

  pub none_delivered : (h : LinkHop) → In h (tree u.net.hops d.0.group d.1.addr) → (y : IsTearOver u d h) → slice_get u.flight j ≡ Some y.item → NoneAt later (node_of u.net.ends h.to)
  none_delivered h there y arr g b = by (get g.paths d) refl
    where
      by : (o : Option PathState) → get g.paths d ≡ o → o ≡ None
      by None e = refl
      by (Some x) e =
          let f = path_before (node_of u.net.ends h.to) g x b e in
          let none = torn h there y arr f.0 f.1 x f.2 in
          let same : g ≡ (outcome q (Deliver j) u (node_of u.net.ends h.to) f.0).facts = of_some _ _ (sym b ∙ facts_after_made q (Deliver j) u (node_of u.net.ends h.to) f.0 f.1) in
          let bad : None ≡ Some x = sym none ∙ ap (λ (z : Facts). get z.paths d) (sym same) ∙ e in
          absurd (cc)

-- ---- passes
module _ (q : ℕ) (d : SenderKey) where
  go_on : (u : World) → IsFading q d u → IsFading q d (step q (Deliver 0) u)
  go_on u f = fading_next q 0 d u f

  pub fading_on : (n : ℕ) (u : World) → IsFading q d u → IsFading q d (after_deliveries q n u)
  fading_on zero u f = f
  fading_on (suc n) u f = fading_on n (step q (Deliver 0) u) (go_on u f)

  pub same_on : (n : ℕ) (o u : World) → IsSameNet o u → IsFading q d u → IsSameNet o (after_deliveries q n u)
  same_on zero o u same f = same
  same_on (suc n) o u same f = same_on n o (step q (Deliver 0) u) (same_next q 0 u f.bounds o same) (go_on u f)

  abbrev None_at : World → ℕ → Type 0
  None_at w n = (f : Facts) → slice_get w.nodes n ≡ Some f → get f.paths d ≡ None

  none_on : (n : ℕ) (u : World) → IsFading q d u → (m : ℕ) → None_at u m → None_at (after_deliveries q n u) m
  none_on zero u f m none = none
  none_on (suc n) u f m none = none_on n (step q (Deliver 0) u) (go_on u f) m (none_next q 0 d u f m none)

  delivered : (n : ℕ) (u : World) → IsFading q d u → (h : LinkHop) → In h (tree u.net.hops d.0.group d.1.addr) → (y : IsTearOver u d h) → In y.item (take n u.flight)
      → None_at (after_deliveries q n u) (node_of u.net.ends h.to)
  delivered zero u f h there y i = absurd i
  delivered (suc n) u f h there y i = by u.flight refl i (λ z j. delivered n (step q (Deliver 0) u) (go_on u f) h there z j)
    where
      by : (ys : List Item) → u.flight ≡ ys → In y.item (take (suc n) ys)
          → ((z : IsTearOver (step q (Deliver 0) u) d h) → In z.item (take n (step q (Deliver 0) u).flight) → None_at (after_deliveries q n (step q (Deliver 0) u)) (node_of u.net.ends h.to))
          → None_at (after_deliveries q (suc n) u) (node_of u.net.ends h.to)
      by [] e i more = absurd i
      by (z ∷ ys) e i more =
          ⊎_elim
          (λ (now : y.item ≡ z).
          let at : slice_get u.flight 0 ≡ Some y.item = ap (λ (zs : List Item). slice_get zs 0) e ∙ ap Some (sym now) in
          none_on n (step q (Deliver 0) u) (go_on u f) (node_of u.net.ends h.to) (none_delivered q 0 d u f h there y at))
          (λ (later_on : In y.item (take n ys)).
          let new : List Item = each (λ (x : Item × Bool). x.0) (sent q (Deliver 0) u) in
          let flight : ys ++ new ≡ (step q (Deliver 0) u).flight = ap (λ (zs : List Item). remove zs 0 ++ new) (sym e) in
          let front : In y.item (take n (step q (Deliver 0) u).flight) = subst (λ (zs : List Item). In y.item (take n zs)) flight (in_take y.item n ys new later_on) in
          more
          (record {
            item = y.item;
            flight = in_front y.item n (step q (Deliver 0) u).flight front;
            end = y.end;
            dst = y.dst;
            tear = y.tear;
            spelt = y.spelt;
            session = y.session;
            sender = y.sender;
            hop = y.hop;
          })
          front) i

  -- no node that is so many hops from the root at most has a path of the sender
  abbrev IsForgottenTo : ℕ → World → Type 0
  IsForgottenTo n w = (h : LinkHop) → In h (tree w.net.hops d.0.group d.1.addr) → depth w.net d.0.group d.1.addr (node_of w.net.ends h.to) ≤ n → None_at w (node_of w.net.ends h.to)

  -- a node before a hop to the next depth knows it no more
  unknown : (n : ℕ) (u : World) → IsFading q d u → IsForgottenTo n u → (h : LinkHop) → In h (tree u.net.hops d.0.group d.1.addr) → depth u.net d.0.group d.1.addr (node_of u.net.ends h.to) ≤ suc n
      → Knows u (node_of u.net.ends h.from) d → ⊥
  unknown n u f forgotten h there deep k = by (get k.facts.senders d) (get k.facts.paths d) refl refl (sym (has-known k.facts d.0 d.1) ∙ k.known_one)
    where
      by : (o : Option TokenBucket) (p : Option PathState) → get k.facts.senders d ≡ o → get k.facts.paths d ≡ p → (has k.facts.senders d || has k.facts.paths d) ≡ true → ⊥
      by (Some t) p e g sure = f.gone t (is_live u (node_of u.net.ends h.from) k.facts d t k.there e)
      by None (Some x) e g sure =
          let l = f.left (node_of u.net.ends h.from) k.facts x k.there g in
          let along = (depth_and_rank_within_longest u.net f.bounds.net).along d.0.group d.1.addr h there in
          let node = ap (λ (z : ℕ). depth u.net d.0.group d.1.addr z) l.node in
          let low : depth u.net d.0.group d.1.addr (node_of u.net.ends l.hop.to) ≤ n = omega arith in
          let none = forgotten l.hop l.there low k.facts (ap (λ (z : ℕ). slice_get u.nodes z) l.node ∙ k.there) in
          let bad : None ≡ Some x = sym none ∙ g in
          cc
      by None None e g sure = let bad : true ≡ false = sym sure ∙ (λ i. is_some (e i) || is_some (g i)) in cc

  forget_up : (n : ℕ) (u : World) → IsFading q d u → IsForgottenTo n u → IsForgottenTo (suc n) (after_deliveries q (length u.flight) u)
  forget_up n u f forgotten h there' deep' =
      let v : World = after_deliveries q (length u.flight) u in
      let same = same_on (length u.flight) u u (known_self q u f.bounds).same f in
      let there : In h (tree u.net.hops d.0.group d.1.addr) = subst (λ (z : Net). In h (tree z.hops d.0.group d.1.addr)) same.net there' in
      let deep : depth u.net d.0.group d.1.addr (node_of u.net.ends h.to) ≤ suc n = subst (λ (z : Net). depth z d.0.group d.1.addr (node_of z.ends h.to) ≤ suc n) same.net deep' in
      subst (λ (z : Net). None_at v (node_of z.ends h.to)) (sym same.net) (by there deep (slice_get u.nodes (node_of u.net.ends h.to)) refl)
    where
      at_path : In h (tree u.net.hops d.0.group d.1.addr) → depth u.net d.0.group d.1.addr (node_of u.net.ends h.to) ≤ suc n → (g : Facts) → slice_get u.nodes (node_of u.net.ends h.to) ≡ Some g
          → (p : Option PathState) → get g.paths d ≡ p → None_at (after_deliveries q (length u.flight) u) (node_of u.net.ends h.to)
      at_path there deep g a None e =
          none_on (length u.flight) u f (node_of u.net.ends h.to) (λ k b. let same : k ≡ g = of_some k g (sym b ∙ a) in ap (λ (z : Facts). get z.paths d) same ∙ e)
      at_path there deep g a (Some x) e =
          ⊎_elim (λ (k : Knows u (node_of u.net.ends h.from) d). absurd (unknown n u f forgotten h there deep k))
          (λ (y : IsTearOver u d h).
          delivered (length u.flight) u f h there y (subst (λ (zs : List Item). In y.item zs) (sym (take_all (length u.flight) u.flight (omega arith))) y.flight))
          (f.fading h g x there a e)

      by : In h (tree u.net.hops d.0.group d.1.addr) → depth u.net d.0.group d.1.addr (node_of u.net.ends h.to) ≤ suc n → (o : Option Facts) → slice_get u.nodes (node_of u.net.ends h.to) ≡ o
          → None_at (after_deliveries q (length u.flight) u) (node_of u.net.ends h.to)
      by there deep None e = none_on (length u.flight) u f (node_of u.net.ends h.to) (λ k b. let bad : None ≡ Some k = sym e ∙ b in absurd (cc))
      by there deep (Some g) e = at_path there deep g e (get g.paths d) refl

  forget_0 : (u : World) → IsFading q d u → IsForgottenTo 0 u
  forget_0 u f h there deep = let along = (depth_and_rank_within_longest u.net f.bounds.net).along d.0.group d.1.addr h there in absurd (omega arith)

  passes_on : (m n : ℕ) (u : World) → IsFading q d u → IsForgottenTo n u → IsFading q d (after_passes q m u) × IsForgottenTo (n + m) (after_passes q m u) × ((after_passes q m u).net ≡ u.net)
  passes_on zero n u f forgotten = let sum : n ≡ n + zero = omega arith in (f, subst (λ (z : ℕ). IsForgottenTo z u) sum forgotten, refl)
  passes_on (suc m) n u f forgotten =
      let v : World = after_deliveries q (length u.flight) u in
      let r = passes_on m (suc n) v (fading_on (length u.flight) u f) (forget_up n u f forgotten) in
      let same : after_passes q (suc m) u ≡ after_passes q m v = run_then q (pass q u) (passes q m v) u in
      let sum : suc n + m ≡ n + suc m = omega arith in (
        subst (IsFading q d) (sym same) r.0,
        subst (λ (z : ℕ). IsForgottenTo z (after_passes q (suc m) u)) sum (subst (IsForgottenTo (suc n + m)) (sym same) r.1),
        ap (λ (z : World). z.net) same ∙ r.2 ∙ (same_on (length u.flight) u u (known_self q u f.bounds).same f).net,
      )

  pub fading_passes : (m : ℕ) (u : World) → IsFading q d u → IsFading q d (after_passes q m u)
  fading_passes m u f = (passes_on m 0 u f (forget_0 u f)).0

  -- H passes on nothing is left of it, so paths are sound and complete
  pub faded : (u : World) → IsFading q d u → ArePathsSound (after_passes q (longest u.net) u) × ArePathsComplete (after_passes q (longest u.net) u)
  faded u f =
      let v : World = after_passes q (longest u.net) u in
      let r = passes_on (longest u.net) 0 u f (forget_0 u f) in
      let long : longest v.net ≡ longest u.net = ap longest r.2 in
      let nothing : (n : ℕ) (g : Facts) (x : PathState) → slice_get v.nodes n ≡ Some g → get g.paths d ≡ Some x → ⊥ =
      (λ n g x a e.
      let l = r.0.left n g x a e in
      let deep = (depth_and_rank_within_longest v.net r.0.bounds.net).every d.0.group d.1.addr (node_of v.net.ends l.hop.to) in
      let none = r.1 l.hop l.there (omega arith) g (ap (λ (z : ℕ). slice_get v.nodes z) l.node ∙ a) in
      let bad : None ≡ Some x = sym none ∙ e in
      cc) in (
        record {
          facts = λ n g k x a e.
              either (eq_by_cmp sender_keys.cmp k d)
              (λ tied. absurd (nothing n g x a (ap (λ (z : SenderKey). get g.paths z) (sym (tied_same sender_keys k d tied)) ∙ e)))
              (λ apart. (r.0.sound k (not_tied k d apart)).facts n g x a e);
          items = λ y m x t i spelt sender in_way.
              either (eq_by_cmp sender_keys.cmp (m.session, x) d)
              (λ tied.
              let e = tied_same sender_keys (m.session, x) d tied in
              absurd (r.0.silent y m t i spelt (ap (λ (z : SenderKey). z.0) e) (sender ∙ ap (λ (z : SenderKey). Some (z.1, t)) e)))
              (λ apart. (r.0.sound (m.session, x) (not_tied (m.session, x) d apart)).items y m t i spelt refl sender in_way);
          named = r.0.named;
        },
        r.0.complete,
      )
