-- One delivery: what it keeps of paths that spread, and what it brings forth.
use Rattle.std.proofs.Common.{◌≡◌, ℕ, zero, suc, ◌+◌, ◌≤◌, List, [], ◌∷◌, length, Bool, true, false, cond, Option, Some, None, ◌⊎◌, inl, inr, ⊎_elim, sym, refl, ap, subst, ◌∙◌}
use Rattle.std.specs.Prelude.{slice_get, is_some, ◌||◌, map as each}
use Rattle.std.specs.List.{remove}
use Rattle.std.specs.Option.{option_map}
use Rattle.std.proofs.lemmas.Bool.{lt-ltb}
use Rattle.rsvp_base.specs.declared.addr.Addr.{Addr}
use Rattle.rsvp_base.specs.declared.session.Sender.{Sender}
use Rattle.rsvp_base.specs.declared.session.Session.{Session}
use Rattle.rsvp_base.specs.Members.{In}
use Rattle.rsvp_base.specs.Orders.{senders as by_sender, sessions}
use Rattle.rsvp_base.specs.SessionLimits.{IsWithinSessionLimits}
use Rattle.rsvp_base.specs.Sets.{set_of}
use Rattle.rsvp_base.specs.Table.{Table, get, has, keys, put_in}
use Rattle.rsvp_base.specs.TokenBucket.{TokenBucket}
use Rattle.rsvp_base.proofs.Members.{in_left, in_right, to_each}
use Rattle.rsvp_base.proofs.SetLaws.{and_made}
use Rattle.rsvp_base.proofs.Tables.{got_put_in, get-put_in_same}
use Rattle.rsvp_messages.specs.declared.message.Message.TheVariants as message
use Rattle.rsvp_messages.specs.declared.message.PathMsg.{PathMsg}
use Rattle.rsvp_messages.specs.declared.message.PathTearMsg.{PathTearMsg}
use Rattle.laws_bounds.specs.FactLaws.{is_way}
use Rattle.laws_bounds.proofs.Knowing.{has-known}
use Rattle.laws_bounds.proofs.Offering.{offers_by_way}
use Rattle.laws_bounds.proofs.Stepping.{offer_source, offered_is_known}
use Rattle.router_rules.specs.Facts.{Facts, SenderKey, PathState, sender_keys}
use Rattle.router_rules.specs.Inputs.{Input, Came, Spelt, Send, Wait, Clear}
use Rattle.router_rules.specs.Known.{known}
use Rattle.router_rules.specs.NodeConfig.{NodeConfig, comes_in}
use Rattle.router_rules.specs.Offers.{Offer, OfferKey, offer_at, offers}
use Rattle.router_rules.specs.Rule.{Outcome, is_silent, rule}
use Rattle.router_rules.specs.Sends.{is_new_offer, path_send}
use Rattle.router_rules.specs.Steps.{facts_then, fired_then, node_step, sent_then}
use Rattle.tree_model.specs.declared.hops.LinkHop.{LinkHop}
use Rattle.tree_model.specs.declared.locals.LocalSender.{LocalSender}
use Rattle.tree_model.specs.Goals.{addr_of}
use Rattle.tree_model.specs.Networks.{end_at, iface_of, node_of}
use Rattle.tree_model.specs.Trees.{inward, outward, tree}
use Rattle.tree_model.specs.Valid.{IsValid}
use Rattle.tree_model.specs.Wants.{Locals, live}
use Rattle.tree_model.proofs.Ifaces.{interfaces_are_ends}
use Rattle.tree_model.proofs.Links.{hop_linked, one_sending_end_on_a_link}
use Rattle.tree_model.proofs.TreeLaws.{one, out_tested, way_in_tested}
use Rattle.network_model.specs.Bounds.{AreBounds, AreHosts}
use Rattle.network_model.specs.Links.{copy_to, goes_to, is_group}
use Rattle.network_model.specs.Locals.{IsLive, locals_of}
use Rattle.network_model.specs.Sound.{ArePathsSound, IsPathAt, IsSoundAt, IsSoundPath}
use Rattle.network_model.specs.Steps.{Deliver, Piece, Step, input_at, ms_of, outcome, rest, sent, step, still}
use Rattle.network_model.specs.Worlds.{Item, World, config_of}
use Rattle.network_model.proofs.Changing.{where_a_send_goes}
use Rattle.network_model.proofs.Machines.{in_arrived, in_flight_after}
use Rattle.network_model.proofs.Quiet.{FollowsRule, IsCame, IsWaited, input_found, outcome_by, outcome_quiet}
use Rattle.network_model.proofs.Stepping.{copies_made, facts_after_found, facts_after_made, sent_made}
use Rattle.laws_network.specs.Known.{IsKnown, IsSameNet}
use Rattle.laws_network.specs.PathLaws.{IsReplaced, PathGoes}
use Rattle.laws_network.specs.Sources.{CameOnTree, IsLocalOffer, IsPathOffer, said_by}
use Rattle.laws_network.specs.SpeakingLaws.{IsOfGoneOffer}
use Rattle.laws_network.proofs.Keeping.{each_step_keeps_a_world_within_bounds}
use Rattle.laws_network.proofs.Known.{came_there, has_some, node_there, of_some, or_true, same_kept, senders_kept}
use Rattle.laws_network.proofs.Learning.{a_path_on_the_tree_is_learnt, how_a_path_fact_goes}
use Rattle.laws_network.proofs.Sends.{sent_by_rule}
use Rattle.laws_network.proofs.Speaking.{send_made, why_a_path_tear_is_sent}
use Rattle.laws_network.proofs.Standing.{comes_in_made, from_there, goes_out_made, iface_less, to_there}
use Rattle.settle_paths.proofs.LiveSenders.{live_fits, one_flow, senders_found}
use Rattle.settle_paths.proofs.PathSends.{IsPathSent, path_sent}
use Rattle.settle_paths.proofs.SaidPaths.{routed}
use Rattle.settle_paths.specs.SoftPaths.{path_at}
use Rattle.settle_paths.proofs.SoftPaths.{IsBrought, path_found, path_made, path_source}
use Rattle.settle_passes.specs.Passes.{ArePathsOffered, AreSpreading, HasNoPathTear, IsPathOver}

-- the path that a node has of a live sender is the one at the hop of its tree
pub path_right : (q : ℕ) (w : World) → AreBounds q w → AreHosts w → (k : SenderKey) (t : TokenBucket) (h : LinkHop) → IsLive w k t → In h (tree w.net.hops k.0.group k.1.addr)
    → (f : Facts) → slice_get w.nodes (node_of w.net.ends h.to) ≡ Some f → (x : PathState) → get f.paths k ≡ Some x → IsSoundPath w (node_of w.net.ends h.to) k x → IsPathAt w k t h
path_right q w bounds hosts k t h live there f a x e s =
    let of = (interfaces_are_ends w.net).iface_of_end (node_of w.net.ends h.to) x.iface s.end s.at in
    let same : s.sound.hop ≡ h = one w.net bounds.net k.0.group k.1.addr s.sound.hop h s.sound.there there (ap (node_of w.net.ends) s.sound.to ∙ of.1) in
    let end : s.end ≡ h.to = sym s.sound.to ∙ ap (λ (z : LinkHop). z.to) same in
    record {
      facts = f;
      node = a;
      path = x;
      there = e;
      iface = sym of.2 ∙ ap (iface_of w.net.ends) end;
      hop = s.sound.from ∙ ap (λ (z : LinkHop). addr_of w.net z.from) same;
      tspec = one_flow w hosts k x.tspec t s.sound.live live;
    }

pub known_self : (q : ℕ) (w : World) → AreBounds q w → IsKnown q w w
known_self q w bounds = record { bounds = bounds; same = record { net = refl; trees = refl; senders = λ n. refl; advertised = λ n. refl; locals = refl } }

none_is : {A : Type 0} (o : Option A) → is_some o ≡ false → o ≡ None
none_is None e = refl
none_is (Some x) e = absurd (cc)

-- ---- the paths of a sender are sound, and its Paths in flight
pub record AreSoundOf (w : World) (k : SenderKey) : Type 0 where
  pub facts : (n : ℕ) (f : Facts) (x : PathState) → slice_get w.nodes n ≡ Some f → get f.paths k ≡ Some x → IsSoundPath w n k x
  pub items : (y : Item) (m : PathMsg) (t : TokenBucket) → In y w.flight → y.arrival ≡ Spelt (message.Path m) → m.session ≡ k.0 → m.sender ≡ Some (k.1, t)
      → inward w.net (node_of w.net.ends y.end) k.0.group k.1.addr ≡ Some y.end → IsSoundAt w k y.end (m.hop.addr, t)

pub sound_of : (w : World) → ArePathsSound w → (k : SenderKey) → AreSoundOf w k
sound_of w sound k = record {
  facts = λ n f x a h. sound.facts n f k x a h;
  items = λ y m t i spelt session sender way.
      let way' : inward w.net (node_of w.net.ends y.end) m.session.group k.1.addr ≡ Some y.end =
      subst (λ (z : Session). inward w.net (node_of w.net.ends y.end) z.group k.1.addr ≡ Some y.end) (sym session) way in
      let key : ◌≡◌ {A = SenderKey} (m.session, k.1) k = (λ j. (session j, k.1)) in
      subst (λ (z : SenderKey). IsSoundAt w z y.end (m.hop.addr, t)) key (sound.items y m k.1 t i spelt sender way');
}

-- a Path that a step sends says what is right, where the path facts of its sender that the step leaves do
pub sent_is_sound : (q : ℕ) (v : World) → IsValid v.net → (y : Item) (m : PathMsg) (x : Sender) (t : TokenBucket)
    → ((n : ℕ) (g : Facts) (z : PathState) → slice_get v.nodes n ≡ Some g → get g.paths (m.session, x) ≡ Some z → IsSoundPath v n (m.session, x) z) → IsPathSent q v.net v y m
    → m.sender ≡ Some (x, t) → inward v.net (node_of v.net.ends y.end) m.session.group x.addr ≡ Some y.end
    → IsSoundAt v (m.session, x) y.end (m.hop.addr, t)
sent_is_sound q v valid y m x t facts p sender way =
    let both : ◌≡◌ {A = Sender × TokenBucket} (p.sender, p.tspec) (x, t) = of_some (p.sender, p.tspec) (x, t) (sym p.of ∙ sender) in
    let name : p.sender ≡ x = ap (λ (z : Sender × TokenBucket). z.0) both in
    let flow : p.tspec ≡ t = ap (λ (z : Sender × TokenBucket). z.1) both in
    let leaves : In p.end (outward v.net (node_of v.net.ends p.end) m.session.group x.addr) =
    subst (λ (z : ℕ). In p.end (outward v.net z m.session.group x.addr)) (sym p.at) (subst (λ (z : Sender). In p.end (outward v.net p.node m.session.group z.addr)) name p.leaves) in
    let h = (one_sending_end_on_a_link v.net valid).hop m.session.group x.addr p.end y.end leaves p.to way in
    record {
      hop = h.0;
      there = h.1;
      to = h.3;
      from = p.hop ∙ ap (addr_of v.net) (sym h.2);
      live = ⊎_elim
          (λ (local : get p.facts.senders (m.session, p.sender) ≡ Some p.tspec).
          record {
            node = p.node;
            senders = p.facts.senders;
            at = ap (option_map (λ (f : Facts). f.senders)) p.after;
            sends = ap (λ (z : Sender). get p.facts.senders (m.session, z)) (sym name) ∙ local ∙ ap Some flow;
          })
          (λ (path : (z : PathState) × (get p.facts.paths (m.session, p.sender) ≡ Some z) × (p.tspec ≡ z.tspec)).
          let s = facts p.node p.facts path.0 p.after (ap (λ (z : Sender). get p.facts.paths (m.session, z)) (sym name) ∙ path.1) in
          subst (λ (z : TokenBucket). IsLive v (m.session, x) z) (sym path.2 ∙ flow) s.sound.live) p.source;
    }

-- ---- a node that comes to know a sender offers it: a Path goes over each hop of the sender's tree out of the node
module _ (q : ℕ) (s : Step) (u : World) (bounds : AreBounds q u) (k : SenderKey) (h : LinkHop) (there : In h (tree u.net.hops k.0.group k.1.addr)) where
  abbrev at_from : ℕ
  at_from = node_of u.net.ends h.from

  abbrev pub place : NodeConfig
  place = config_of q u.net u.trees at_from

  abbrev pub key : OfferKey
  key = record { session = k.0; sender = k.1; iface = iface_of u.net.ends h.from }

  pub at_end : end_at u.net.ends at_from key.iface ≡ Some h.from
  at_end = (interfaces_are_ends u.net).end_of_iface h.from (from_there u.net bounds.net k.0.group k.1.addr h there)

  pub way : is_way place key ≡ true
  way =
      let leaves : In h.from (outward u.net at_from k.0.group k.1.addr) = out_tested u.net at_from h.from k.0.group k.1.addr (h, there, refl, refl) in
      and_made _ _ (lt-ltb key.iface (length place.ifaces) (iface_less q u.net u.trees at_from key.iface h.from at_end))
      (goes_out_made q u.net u.trees at_from k.0 h.from k.1 (routed q u u k.0.group k.1.addr h (known_self q u bounds) there) leaves)

  -- what the node sends to the group by the end that the hop goes out of goes over the hop
  pub goes : is_group k.0.group ≡ true → In h.to (goes_to u.net (end_at u.net.ends at_from key.iface) k.0.group)
  goes group =
      subst (λ (z : Option ℕ). In h.to (goes_to u.net z k.0.group)) (sym at_end)
      (subst (λ (z : List ℕ). In h.to z) (sym ((where_a_send_goes u.net h.from k.0.group).group group)) (hop_linked u.net bounds.net k.0.group k.1.addr h there))

  -- the step brings the node to know the sender
  pub record IsNewThere (f : Facts) : Type 0 where
    pub facts : slice_get u.nodes at_from ≡ Some f
    pub input : Input
    pub loud : is_silent input ≡ false
    pub rule_is : outcome q s u at_from f ≡ rule place place (u.clock + ms_of s) input f
    pub before : has (known f k.0) k.1 ≡ false
    pub after : has (known (outcome q s u at_from f).facts k.0) k.1 ≡ true

  -- the Path of what it says of the sender
  pub record IsOfferedOver (f : Facts) : Type 0 where
    pub offer : Offer
    pub fired : Bool
    pub source : IsLocalOffer (outcome q s u at_from f).facts key offer ⊎ IsPathOffer (outcome q s u at_from f).facts key offer
    pub sent_one : In (copy_to u.made (path_send place fired (key, offer)) h.to) (sent q s u)

  pub offered_over : is_group k.0.group ≡ true → (f : Facts) → IsNewThere f → IsOfferedOver f
  offered_over group f n =
      let c : ℕ = u.clock + ms_of s in
      let left : Facts = facts_then place place c n.input f in
      let known_left : has (known left k.0) k.1 ≡ true = ap (λ (z : Outcome). has (known z.facts k.0) k.1) (sym n.rule_is) ∙ n.after in
      let o = has_some (offer_at left key) (offered_is_known left key ∙ known_left) in
      let offered : get (offers place left) key ≡ Some o.0 = offers_by_way place left key ∙ ap (λ (b : Bool). cond b (offer_at left key) None) way ∙ o.1 in
      let none : get (offers place f) key ≡ None = offers_by_way place f key ∙ ap (λ (b : Bool). cond b (offer_at f key) None) way ∙ none_is (offer_at f key) (offered_is_known f key ∙ n.before) in
      let fired : Bool = has (fired_then place c n.input f) k.0 in
      let why : (fired || is_new_offer place key.iface o.0 (get (offers place f) key)) ≡ true = ap (λ (z : Option Offer). fired || is_new_offer place key.iface o.0 z) none ∙ or_true fired in
      let send : Send = path_send place fired (key, o.0) in
      let sends : In send (sent_then place place c n.input f) =
      send_made place place c n.input f send n.loud (inr (inr (inr (inr (inl (record { key = key; offer = o.0; offered = offered; why = why; is = refl })))))) in
      let out : In send (outcome q s u at_from f).sent = subst (λ (z : Outcome). In send z.sent) (sym n.rule_is) sends in
      record {
        offer = o.0;
        fired = fired;
        source = subst (λ (z : Outcome). IsLocalOffer z.facts key o.0 ⊎ IsPathOffer z.facts key o.0) (sym n.rule_is) (offer_source left key o.0 o.1);
        sent_one = sent_made q s u at_from f (copy_to u.made send h.to) n.facts (copies_made u.net u.made at_from (outcome q s u at_from f).sent send h.to out (goes group));
      }

-- a live sender sends to a group
pub of_group : (u : World) → AreHosts u → (k : SenderKey) (t : TokenBucket) → IsLive u k t → is_group k.0.group ≡ true
of_group u hosts k t live =
    let g = senders_found u live.node live.senders live.at in hosts.groups live.node g.0 k t g.1 (ap (λ (z : Table sender_keys TokenBucket). get z k) g.2 ∙ live.sends)

-- ---- no PathTear of a sender is in flight
abbrev pub HasNoTearOf : World → SenderKey → Type 0
HasNoTearOf w k = (y : Item) (m : PathTearMsg) → In y w.flight → y.arrival ≡ Spelt (message.PathTear m) → m.session ≡ k.0 → m.sender ≡ Some k.1 → ⊥

pub tear_of_none : (w : World) → HasNoPathTear w → (k : SenderKey) → HasNoTearOf w k
tear_of_none w none k y m i spelt session sender = none y m i spelt

-- what is in a list is the one at a place, or is among those that stay when that one is taken
pub now_or_later : {A : Type 0} (x : A) (j : ℕ) (xs : List A) → In x xs → (slice_get xs j ≡ Some x) ⊎ In x (remove xs j)
now_or_later x j [] i = absurd i
now_or_later x zero (y ∷ ys) i = ⊎_elim (λ (e : x ≡ y). inl (ap Some (sym e))) (λ (k : In x ys). inr k) i
now_or_later x (suc j) (y ∷ ys) i =
    ⊎_elim (λ (e : x ≡ y). inr (inl e))
    (λ (k : In x ys). ⊎_elim (λ (now : slice_get ys j ≡ Some x). inl now) (λ (later : In x (remove ys j)). inr (inr later)) (now_or_later x j ys k)) i

module _ (q j : ℕ) (u : World) (bounds : AreBounds q u) where
  abbrev pub next : World
  next = step q (Deliver j) u

  pub bounds_next : AreBounds q next
  bounds_next = each_step_keeps_a_world_within_bounds q u (Deliver j) tt bounds

  pub same_next : (w : World) → IsSameNet w u → IsSameNet w next
  same_next w same = same_kept q (Deliver j) u refl bounds w same

  pub live_next : (k : SenderKey) (t : TokenBucket) → IsLive u k t → IsLive next k t
  live_next k t l = record { node = l.node; senders = l.senders; at = senders_kept q (Deliver j) u refl bounds l.node ∙ l.at; sends = l.sends }

  pub live_back : (k : SenderKey) (t : TokenBucket) → IsLive next k t → IsLive u k t
  live_back k t l = record { node = l.node; senders = l.senders; at = sym (senders_kept q (Deliver j) u refl bounds l.node) ∙ l.at; sends = l.sends }

  senders_same : (n : ℕ) (f g : Facts) → slice_get u.nodes n ≡ Some f → slice_get next.nodes n ≡ Some g → g.senders ≡ f.senders
  senders_same n f g a b =
      of_some g.senders f.senders (sym (ap (option_map (λ (z : Facts). z.senders)) b) ∙ senders_kept q (Deliver j) u refl bounds n ∙ ap (option_map (λ (z : Facts). z.senders)) a)

  pub hosts_next : AreHosts u → AreHosts next
  hosts_next hosts =
      let locals : locals_of next ≡ locals_of u = (same_next u (known_self q u bounds).same).locals in
      record {
        placed = λ n g k t b h.
            let f = facts_after_found q (Deliver j) u n g b in
            hosts.placed n f.0 k t f.1 (ap (λ (z : Table sender_keys TokenBucket). get z k) (sym (senders_same n f.0 g f.1 b)) ∙ h);
        groups = λ n g k t b h.
            let f = facts_after_found q (Deliver j) u n g b in
            hosts.groups n f.0 k t f.1 (ap (λ (z : Table sender_keys TokenBucket). get z k) (sym (senders_same n f.0 g f.1 b)) ∙ h);
        few_senders = λ s. subst (λ (z : Locals). length (live z s) ≤ 16) (sym locals) (hosts.few_senders s);
        few_sessions = subst (λ (z : Locals). length (keys (set_of {o = sessions} (each (λ (x : LocalSender). x.session) z.senders))) ≤ 32) (sym locals) hosts.few_sessions;
      }

  -- ---- what comes to a node is a datagram
  pub came_by_delivery : (n : ℕ) (i : Input) → input_at (Deliver j) u n ≡ Some i → IsCame (Deliver j) u n i
  came_by_delivery n i e =
      ⊎_elim (λ (w : IsWaited (Deliver j) u n i). let no : Deliver j ≡ Piece w.ms = w.step in absurd (cc)) (λ (c : IsCame (Deliver j) u n i). c) (input_found (Deliver j) u n i refl e)

  -- so a path goes by a PathTear alone
  no_reason : (n : ℕ) (i : Input) (k : SenderKey) (x : PathState) → HasNoTearOf u k → IsCame (Deliver j) u n i → PathGoes (u.clock + ms_of (Deliver j)) i k x → ⊥
  no_reason n i k x none c (inl dead) = let bad : Wait dead.ms dead.word ≡ Came (iface_of u.net.ends c.item.end) c.item.dst c.item.arrival = sym dead.waited ∙ c.is in absurd (cc)
  no_reason n i k x none c (inr (inl torn)) =
      let same : Came (iface_of u.net.ends c.item.end) c.item.dst c.item.arrival ≡ Came torn.at k.0.group (Spelt (message.PathTear torn.tear)) = sym c.is ∙ torn.came in
      let spelt : c.item.arrival ≡ Spelt (message.PathTear torn.tear) = cc in
      none c.item torn.tear (in_arrived (Deliver j) u c.item c.arrives) spelt torn.session torn.sender
  no_reason n i k x none c (inr (inr clear)) = let bad : Clear ≡ Came (iface_of u.net.ends c.item.end) c.item.dst c.item.arrival = sym clear ∙ c.is in absurd (cc)

  -- ---- a path that stands goes on to stand, or another one does
  pub path_stays : (n : ℕ) (f : Facts) (k : SenderKey) (x : PathState) → HasNoTearOf u k → slice_get u.nodes n ≡ Some f → get f.paths k ≡ Some x
      → (g : Facts) × (slice_get next.nodes n ≡ Some g) × (y : PathState) × (get g.paths k ≡ Some y)
  path_stays n f k x none a h =
      let p : NodeConfig = config_of q u.net u.trees n in
      let c : ℕ = u.clock + ms_of (Deliver j) in
      let g : Facts = (outcome q (Deliver j) u n f).facts in
      let stands : (y : PathState) × (get g.paths k ≡ Some y) =
      ⊎_elim
      (λ (z : (input_at (Deliver j) u n ≡ None) × (outcome q (Deliver j) u n f ≡ still f)). (x, ap (λ (o : Outcome). get o.facts.paths k) z.1 ∙ h))
      (λ (r : FollowsRule q (Deliver j) u n f (outcome q (Deliver j) u n f)).
      ⊎_elim
      (λ (stays : get (facts_then p p c r.input f).paths k ≡ Some x). (x, ap (λ (o : Outcome). get o.facts.paths k) r.is ∙ stays))
      (λ (other : IsReplaced p c r.input (facts_then p p c r.input f) k ⊎ ((get (facts_then p p c r.input f).paths k ≡ None) × PathGoes c r.input k x)).
      ⊎_elim
      (λ (rep : IsReplaced p c r.input (facts_then p p c r.input f) k). (rep.new, ap (λ (o : Outcome). get o.facts.paths k) r.is ∙ rep.there))
      (λ (gone : (get (facts_then p p c r.input f).paths k ≡ None) × PathGoes c r.input k x). absurd (no_reason n r.input k x none (came_by_delivery n r.input r.came) gone.1)) other)
      (how_a_path_fact_goes (node_step p p u.clock c r.input f) (bounds.facts n f a) k x h))
      (outcome_quiet q (Deliver j) u n f refl) in
      (g, facts_after_made q (Deliver j) u n f a, stands.0, stands.1)

  pub path_at_next : AreHosts u → HasNoPathTear u → ArePathsSound next → (k : SenderKey) (t : TokenBucket) (h : LinkHop) → IsLive u k t → In h (tree u.net.hops k.0.group k.1.addr)
      → IsPathAt u k t h → IsPathAt next k t h
  path_at_next hosts none sound k t h live there a =
      let s = path_stays (node_of u.net.ends h.to) a.facts k a.path (tear_of_none u none k) a.node a.there in
      path_right q next bounds_next (hosts_next hosts) k t h (live_next k t live) there s.0 s.1 s.2 s.3 (sound.facts (node_of u.net.ends h.to) s.0 k s.2 s.1 s.3)

  -- ---- what a node knows it goes on to know
  pub known_stays : (n : ℕ) (f g : Facts) (k : SenderKey) → HasNoTearOf u k → slice_get u.nodes n ≡ Some f → slice_get next.nodes n ≡ Some g → has (known f k.0) k.1 ≡ true
      → has (known g k.0) k.1 ≡ true
  known_stays n f g k none a b sure = by (has f.senders k) refl
    where
      by : (c : Bool) → has f.senders k ≡ c → has (known g k.0) k.1 ≡ true
      by true e = has-known g k.0 k.1 ∙ ap (λ (c : Bool). c || has g.paths k) (ap (λ (z : Table sender_keys TokenBucket). has z k) (senders_same n f g a b) ∙ e)
      by false e =
          let path : has f.paths k ≡ true = sym (ap (λ (c : Bool). c || has f.paths k) e) ∙ sym (has-known f k.0 k.1) ∙ sure in
          let x = has_some (get f.paths k) path in
          let s = path_stays n f k x.0 none a x.1 in
          let same : s.0 ≡ g = of_some s.0 g (sym s.1 ∙ b) in
          let some : has g.paths k ≡ true = ap (λ (z : Facts). has z.paths k) (sym same) ∙ ap (λ (z : Option PathState). is_some z) s.3 in
          has-known g k.0 k.1 ∙ ap (λ (c : Bool). has g.senders k || c) some ∙ or_true (has g.senders k)

  -- ---- no PathTear is sent
  pub no_tear_next : HasNoPathTear u → HasNoPathTear next
  no_tear_next none y m i spelt =
      ⊎_elim (λ (old : In y u.flight). none y m old spelt)
      (λ (new : (b : Bool) × In (y, b) (sent q (Deliver j) u)).
      let r = sent_by_rule q (Deliver j) u y new.0 (message.PathTear m) refl new.1 spelt in
      let p : NodeConfig = config_of q u.net u.trees r.node in
      let c : ℕ = u.clock + ms_of (Deliver j) in
      let o : IsOfGoneOffer p p r.facts (facts_then p p c r.by.input r.facts) r.send m =
      why_a_path_tear_is_sent (node_step p p u.clock c r.by.input r.facts) (bounds.facts r.node r.facts r.there) r.send m r.sent r.says in
      let k : SenderKey = (o.key.session, o.key.sender) in
      let after = facts_after_made q (Deliver j) u r.node r.facts r.there in
      let yes : has (known (outcome q (Deliver j) u r.node r.facts).facts k.0) k.1 ≡ true =
      known_stays r.node r.facts (outcome q (Deliver j) u r.node r.facts).facts k (tear_of_none u none k) r.there after o.known_before in
      let knows : has (known (facts_then p p c r.by.input r.facts) k.0) k.1 ≡ true = ap (λ (z : Outcome). has (known z.facts k.0) k.1) (sym r.by.is) ∙ yes in
      ⊎_elim
      (λ (away : is_way p o.key ≡ false). let way : is_way p o.key ≡ true = and_made _ _ (lt-ltb o.key.iface (length p.ifaces) o.there) o.way in let bad : true ≡ false = sym way ∙ away in absurd (cc))
      (λ (gone : has (known (facts_then p p c r.by.input r.facts) o.key.session) o.key.sender ≡ false). let bad : true ≡ false = sym knows ∙ gone in absurd (cc)) o.gone)
      (in_flight_after q (Deliver j) u y refl i)

  -- ---- paths stay sound
  pub sound_again : (k : SenderKey) (e : ℕ) (v : Addr × TokenBucket) → IsSoundAt u k e v → IsSoundAt next k e v
  sound_again k e v s = record { hop = s.hop; there = s.there; to = s.to; from = s.from; live = live_next k v.1 s.live }

  pub sound_facts : (k : SenderKey) → AreSoundOf u k → (n : ℕ) (g : Facts) (x : PathState) → slice_get next.nodes n ≡ Some g → get g.paths k ≡ Some x → IsSoundPath next n k x
  sound_facts k sound n g x b h =
      ⊎_elim
      (λ (old : path_at u n k ≡ Some x).
      let f = path_found u n k x old in let s = sound.facts n f.0 x f.1 f.2 in record { end = s.end; at = s.at; sound = sound_again k s.end (x.hop.addr, x.tspec) s.sound })
      (λ (new : IsBrought q u.net (Deliver j) u n k x).
      let way : inward u.net (node_of u.net.ends new.item.end) k.0.group k.1.addr ≡ Some new.item.end =
      subst (λ (z : ℕ). inward u.net z k.0.group k.1.addr ≡ Some new.item.end) (sym new.node) new.inward in
      let s : IsSoundAt next k new.item.end (new.path.hop.addr, new.tspec) =
      sound_again k new.item.end (new.path.hop.addr, new.tspec) (sound.items new.item new.path new.tspec (in_arrived (Deliver j) u new.item new.arrives) new.spelt new.session new.sender way) in
      record {
        end = new.item.end;
        at = ap (λ (z : PathState). end_at u.net.ends n z.iface) new.is ∙ ap (λ (z : ℕ). end_at u.net.ends z (iface_of u.net.ends new.item.end)) (sym new.node)
            ∙ (interfaces_are_ends u.net).end_of_iface new.item.end new.there;
        sound = subst (λ (z : PathState). IsSoundAt next k new.item.end (z.hop.addr, z.tspec)) (sym new.is) s;
      })
      (path_source q (Deliver j) u refl bounds n k x (path_made next n k x g b h))

  pub sound_next : ArePathsSound u → ArePathsSound next
  sound_next sound = record {
    facts = λ n g k x b h. sound_facts k (sound_of u sound k) n g x b h;
    items = λ y m x t i spelt sender way.
        ⊎_elim (λ (old : In y u.flight). sound_again (m.session, x) y.end (m.hop.addr, t) (sound.items y m x t old spelt sender way))
        (λ (new : (b : Bool) × In (y, b) (sent q (Deliver j) u)).
        sent_is_sound q next bounds.net y m x t (λ n g z b h. sound_facts (m.session, x) (sound_of u sound (m.session, x)) n g z b h)
        (path_sent q (Deliver j) u refl bounds y new.0 m new.1 spelt) sender way) (in_flight_after q (Deliver j) u y refl i);
    named = λ y m i spelt none.
        ⊎_elim (λ (old : In y u.flight). sound.named y m old spelt none)
        (λ (new : (b : Bool) × In (y, b) (sent q (Deliver j) u)).
        let p = path_sent q (Deliver j) u refl bounds y new.0 m new.1 spelt in
        let no : Some (p.sender, p.tspec) ≡ None = sym p.of ∙ none in absurd (cc)) (in_flight_after q (Deliver j) u y refl i);
  }

  -- ---- a Path that is delivered is learnt
  pub learnt : AreHosts u → ArePathsSound u → (k : SenderKey) (t : TokenBucket) (h : LinkHop) → IsLive u k t → In h (tree u.net.hops k.0.group k.1.addr) → (y : IsPathOver u k t h)
      → slice_get u.flight j ≡ Some y.item → IsPathAt next k t h
  learnt hosts sound k t h live there y arr =
      let n : ℕ = node_of u.net.ends h.to in
      let lt = to_there u.net bounds.net k.0.group k.1.addr h there in
      let f = node_there q u bounds.net u h.to (known_self q u bounds) lt in
      let p : NodeConfig = config_of q u.net u.trees n in
      let c : ℕ = u.clock + ms_of (Deliver j) in
      let input : Input = Came (iface_of u.net.ends h.to) k.0.group (Spelt (message.Path y.path)) in
      let came : input_at (Deliver j) u n ≡ Some input =
      came_there q u u (known_self q u bounds) h.to lt (Deliver j) y.item arr y.end ∙ (λ i. Some (Came (iface_of u.net.ends h.to) (y.dst i) (y.spelt i))) in
      let into : inward u.net n k.0.group k.1.addr ≡ Some h.to = way_in_tested u.net bounds.net n h.to k.0.group k.1.addr (h, there, refl, refl) in
      let tree_in : comes_in p k.0 (iface_of u.net.ends h.to) k.1 ≡ true =
      comes_in_made q u.net u.trees n k.0 h.to k.1 (routed q u u k.0.group k.1.addr h (known_self q u bounds) there) into in
      let by : CameOnTree p input k = record { at = iface_of u.net.ends h.to; path = y.path; tspec = t; came = refl; session = y.session; sender = y.sender; tree = tree_in } in
      let x : PathState = said_by p c input k by in
      let fits : IsWithinSessionLimits by_sender (put_in f.0.paths k x) =
      live_fits u hosts (put_in f.0.paths k x)
      (λ k' x' e.
      ⊎_elim
      (λ (new : (k' ≡ k) × (x' ≡ x)). (t, subst (λ (z : SenderKey). IsLive u z t) (sym new.0) live))
      (λ (old : get f.0.paths k' ≡ Some x'). let s = sound.facts n f.0 k' x' f.1 old in (x'.tspec, s.sound.live))
      (got_put_in sender_keys f.0.paths k x k' x' e)) in
      let put = (a_path_on_the_tree_is_learnt.learnt (node_step p p u.clock c input f.0) (bounds.facts n f.0 f.1) k by fits).0 in
      let has_it : get (outcome q (Deliver j) u n f.0).facts.paths k ≡ Some x =
      ap (λ (z : Outcome). get z.facts.paths k) (outcome_by q (Deliver j) u n f.0 input refl came) ∙ ap (λ (z : _). get z k) put ∙ get-put_in_same sender_keys f.0.paths k x in
      let after = facts_after_made q (Deliver j) u n f.0 f.1 in
      path_right q next bounds_next (hosts_next hosts) k t h (live_next k t live) there (outcome q (Deliver j) u n f.0).facts after x has_it
      (sound_facts k (sound_of u sound k) n (outcome q (Deliver j) u n f.0).facts x after has_it)

  -- ---- a node that comes to know a sender has its Path go over the hop
  offered_now : AreHosts u → ArePathsSound u → (k : SenderKey) (t : TokenBucket) (h : LinkHop) → IsLive u k t → (there : In h (tree u.net.hops k.0.group k.1.addr)) → (f : Facts)
      → IsNewThere q (Deliver j) u bounds k h there f → IsPathOver next k t h
  offered_now hosts sound k t h live there f n =
      let o = offered_over q (Deliver j) u bounds k h there (of_group u hosts k t live) f n in
      let from : ℕ = node_of u.net.ends h.from in
      let after = facts_after_made q (Deliver j) u from f n.facts in
      let flow : IsLive next k o.offer.tspec =
      ⊎_elim
      (λ (l : IsLocalOffer (outcome q (Deliver j) u from f).facts (key q (Deliver j) u bounds k h there) o.offer).
      record { node = from; senders = (outcome q (Deliver j) u from f).facts.senders; at = ap (option_map (λ (z : Facts). z.senders)) after; sends = l.there })
      (λ (l : IsPathOffer (outcome q (Deliver j) u from f).facts (key q (Deliver j) u bounds k h there) o.offer).
      subst (λ (z : TokenBucket). IsLive next k z) (sym l.tspec) (sound_facts k (sound_of u sound k) from (outcome q (Deliver j) u from f).facts l.path after l.there).sound.live) o.source in
      let same : o.offer.tspec ≡ t = one_flow next (hosts_next hosts) k o.offer.tspec t flow (live_next k t live) in
      let y : Item × Bool = copy_to u.made (path_send (place q (Deliver j) u bounds k h there) o.fired (key q (Deliver j) u bounds k h there, o.offer)) h.to in
      record {
        item = y.0;
        flight = in_right y.0 (rest (Deliver j) u) (each (λ (z : Item × Bool). z.0) (sent q (Deliver j) u)) (to_each (λ (z : Item × Bool). z.0) y (sent q (Deliver j) u) o.sent_one);
        end = refl;
        dst = refl;
        path = _;
        spelt = refl;
        session = refl;
        sender = ap (λ (z : TokenBucket). Some (k.1, z)) same;
      }

  -- ---- a datagram that is in flight is the one that is delivered, or stays in flight
  still_over : (k : SenderKey) (t : TokenBucket) (h : LinkHop) → (y : IsPathOver u k t h) → In y.item (remove u.flight j) → IsPathOver next k t h
  still_over k t h y i = record {
    item = y.item;
    flight = in_left y.item (rest (Deliver j) u) (each (λ (z : Item × Bool). z.0) (sent q (Deliver j) u)) i;
    end = y.end;
    dst = y.dst;
    path = y.path;
    spelt = y.spelt;
    session = y.session;
    sender = y.sender;
  }

  pub offered_next : AreHosts u → ArePathsSound u → HasNoPathTear u → ArePathsOffered u → ArePathsOffered next
  offered_next hosts sound none offered k t h live' there knows =
      let live : IsLive u k t = live_back k t live' in
      let f = facts_after_found q (Deliver j) u (node_of u.net.ends h.from) knows.facts knows.there in
      by live f.0 f.1 f.2 (has (known f.0 k.0) k.1) refl
    where
      by : IsLive u k t → (f : Facts) → slice_get u.nodes (node_of u.net.ends h.from) ≡ Some f → knows.facts ≡ (outcome q (Deliver j) u (node_of u.net.ends h.from) f).facts
          → (b : Bool) → has (known f k.0) k.1 ≡ b → IsPathAt next k t h ⊎ IsPathOver next k t h
      by alive f a is true sure =
          ⊎_elim
          (λ (at : IsPathAt u k t h). inl (path_at_next hosts none (sound_next sound) k t h alive there at))
          (λ (over : IsPathOver u k t h).
          ⊎_elim (λ (now : slice_get u.flight j ≡ Some over.item). inl (learnt hosts sound k t h alive there over now))
          (λ (later : In over.item (remove u.flight j)). inr (still_over k t h over later))
          (now_or_later over.item j u.flight over.flight))
          (offered k t h alive there (record { facts = f; there = a; known_one = sure }))
      by alive f a is false lacks =
          let yes : has (known (outcome q (Deliver j) u (node_of u.net.ends h.from) f).facts k.0) k.1 ≡ true = ap (λ (z : Facts). has (known z k.0) k.1) (sym is) ∙ knows.known_one in
          ⊎_elim
          (λ (z : (input_at (Deliver j) u (node_of u.net.ends h.from) ≡ None) × (outcome q (Deliver j) u (node_of u.net.ends h.from) f ≡ still f)).
          let bad : true ≡ false = sym yes ∙ ap (λ (o : Outcome). has (known o.facts k.0) k.1) z.1 ∙ lacks in absurd (cc))
          (λ (r : FollowsRule q (Deliver j) u (node_of u.net.ends h.from) f (outcome q (Deliver j) u (node_of u.net.ends h.from) f)).
          inr (offered_now hosts sound k t h alive there f
          (record { facts = a; input = r.input; loud = ap is_silent (came_by_delivery (node_of u.net.ends h.from) r.input r.came).is; rule_is = r.is; before = lacks; after = yes })))
          (outcome_quiet q (Deliver j) u (node_of u.net.ends h.from) f refl)

  -- ---- all together
  pub spreading_next : AreHosts u → ArePathsSound u → HasNoPathTear u → ArePathsOffered u → AreSpreading q next
  spreading_next hosts sound none offered = record {
    bounds = bounds_next;
    hosts = hosts_next hosts;
    sound = sound_next sound;
    no_tear = no_tear_next none;
    offered = offered_next hosts sound none offered;
  }
