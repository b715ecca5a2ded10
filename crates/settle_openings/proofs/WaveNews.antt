-- A Path that brings a path: it pays for the one Resv that goes back over its hop, and each hop of the tree out of its node for a Path.
use Rattle.std.proofs.Common.{◌≡◌, ℕ, ◌+◌, ◌≤◌, List, [], ◌∷◌, ◌++◌, length, Bool, true, false, cond, Option, None, Some, inl, arith, sym, refl, ap, subst, ◌∙◌}
use Rattle.std.specs.Prelude.{map as each, is_some, not, slice_get, sum_by, ◌||◌, ◌&&◌}
use Rattle.std.specs.List.{filter, flat_map}
use Rattle.std.specs.Option.{option_map}
use Rattle.std.specs.Ordering.{eq_by_cmp}
use Rattle.rsvp_base.specs.declared.part.Part.{Part}
use Rattle.rsvp_base.specs.declared.session.Sender.{Sender}
use Rattle.rsvp_base.specs.declared.session.Session.{Session}
use Rattle.rsvp_base.specs.declared.style.StyleKind.{StyleKind}
use Rattle.rsvp_base.specs.declared.style.StyleKind.TheVariants.{Wild, Fixed, Shared}
use Rattle.rsvp_base.specs.declared.style.Unit.{Unit as UnitOf}
use Rattle.rsvp_base.specs.Members.{In}
use Rattle.rsvp_base.specs.Orders.{sessions, units}
use Rattle.rsvp_base.specs.Sets.{Set}
use Rattle.rsvp_base.specs.Table.{empty, get, has, keys}
use Rattle.rsvp_base.proofs.Counts.{found_in, in_found}
use Rattle.rsvp_base.proofs.Members.{in_left, in_right, to_each, to_filter}
use Rattle.rsvp_base.proofs.SetLaws.{and_both}
use Rattle.rsvp_base.proofs.Tables.{either, get-put_in, same_table, tied_same, tied_self}
use Rattle.rsvp_messages.specs.declared.ask.Ask.{Ask}
use Rattle.rsvp_messages.specs.declared.message.Message.TheVariants as message
use Rattle.rsvp_messages.specs.declared.message.PathMsg.{PathMsg}
use Rattle.laws_bounds.proofs.Lists.{passed}
use Rattle.laws_bounds.proofs.Offering.{offers_by_way}
use Rattle.laws_bounds.proofs.Ruling.{rule_in_parts}
use Rattle.laws_bounds.proofs.Tests.{came_told}
use Rattle.laws_bounds.specs.FactLaws.{is_way}
use Rattle.router_rules.specs.Asking.{ask_of}
use Rattle.router_rules.specs.Facts.{Facts, PathState, Paths, SenderKey, sender_keys}
use Rattle.router_rules.specs.Inputs.{Change, Send, Spelt}
use Rattle.router_rules.specs.Known.{Lane, came_by, lane_keys, lanes}
use Rattle.router_rules.specs.NodeConfig.{NodeConfig, own}
use Rattle.router_rules.specs.Offers.{Offer, OfferKey, offer_at, offer_keys, offers, path_offer}
use Rattle.router_rules.specs.Paths.{path_state}
use Rattle.router_rules.specs.Requests.{toward}
use Rattle.router_rules.specs.Rule.{Outcome}
use Rattle.router_rules.specs.Sends.{confirm_for, is_changed, is_new_offer, resv_send, path_send, path_send_of, path_sends, resv_send_of, resv_send_to, resv_sends}
use Rattle.router_rules.specs.Steps.{facts_then}
use Rattle.tree_model.specs.declared.hops.LinkHop.{LinkHop}
use Rattle.tree_model.specs.Networks.{iface_of, node_of}
use Rattle.tree_model.specs.Trees.{goes_out_of, hops_of, tree}
use Rattle.tree_model.specs.Wants.{live, want}
use Rattle.tree_model.proofs.TreeLaws.{out_told}
use Rattle.network_model.specs.Bounds.{AreBounds}
use Rattle.network_model.specs.Links.{copies_of}
use Rattle.network_model.specs.Locals.{locals_of}
use Rattle.network_model.specs.Sound.{IsSoundAt}
use Rattle.network_model.specs.Steps.{Deliver, outcome, step}
use Rattle.network_model.specs.Worlds.{Item, World, config_of}
use Rattle.network_model.proofs.Machines.{in_arrived}
use Rattle.network_model.proofs.Quiet.{outcome_by}
use Rattle.network_model.proofs.Stepping.{facts_after_made}
use Rattle.laws_network.proofs.Known.{has_some}
use Rattle.laws_network.proofs.Standing.{comes_in_told, same_end, inward_there}
use Rattle.settle_passes.proofs.Deliveries.{known_self, same_next}
use Rattle.settle_senders.specs.Following.{IsFollowing}
use Rattle.settle_openings.specs.Opening.{IsGoingOn}
use Rattle.settle_openings.proofs.WavePaid.{paid, same_itself}
use Rattle.laws_network.proofs.Hosts.{once_keys}
use Rattle.laws_network.proofs.Standing.{goes_out_told}
use Rattle.settle_refreshes.proofs.Counting.{length_filter, length_picked, sum_at_most, sum_each, sum_keys}
use Rattle.settle_passes.proofs.SoundParts.{named_below}
use Rattle.settle_paths.specs.PreviousHops.{IsPrevious}
use Rattle.settle_resvs.proofs.TowardWants.{toward_is_at_most_the_want}
use Rattle.settle_resvs.proofs.UnderTheGoal.{one_style}
use Rattle.std.proofs.lemmas.List.Sums.{sum_by-append, sum_by-cons}
use Rattle.std.specs.FinMap.Entries.{find}
use Rattle.tree_model.proofs.Following.{number_same, tree_group}
use Rattle.tree_model.specs.Chains.{NoRepeats}
use Rattle.tree_model.specs.Ranks.{rank}
use Rattle.settle_openings.specs.Waves.{HasNoAdverts, AreWired, goes_from, payers_of, senders_over}
use Rattle.settle_openings.proofs.Going.{bounds', follows_next, some_session, sound'}
use Rattle.settle_openings.proofs.WaveCounts.{by_columns, flat_flat, more_pass, one_at_most}
use Rattle.settle_openings.proofs.WavePath.{AreAlike, BringsNew, IsPut, after, change, g, input, lane_same, n, none_to, offer_alike, p, paid_both, via_alike}
use Rattle.settle_openings.proofs.WavePath as at_path
use Rattle.settle_openings.proofs.WaveResvs.{copy_paid, pay}

-- ---- sums of what a test lets pass
pub none_left : {A : Type 0} (t : A → Bool) (c : ℕ) (xs : List A) → sum_by (λ x. cond (t x) c 0) (filter (λ x. not (t x)) xs) ≡ 0
none_left t c [] = refl
none_left {A} t c (x ∷ xs) = by (t x) refl (none_left t c xs)
  where
    by : (b : Bool) → t x ≡ b → sum_by (λ z. cond (t z) c 0) (filter (λ z. not (t z)) xs) ≡ 0
        → sum_by (λ z. cond (t z) c 0) (cond (not b) (x ∷ filter (λ z. not (t z)) xs) (filter (λ z. not (t z)) xs)) ≡ 0
    by true is rest = rest
    by false is rest =
        let here : cond (t x) c 0 ≡ 0 = ap (λ (b : Bool). cond b c 0) is in
        omega (arith, rest, here, sum_by-cons (λ z. cond (t z) c 0) x (filter (λ z. not (t z)) xs))

pub cond_below : (b : Bool) (c : ℕ) → cond b c 0 ≤ c
cond_below true c = omega arith
cond_below false c = omega arith

module _ (q : ℕ) (u : World) (r : IsGoingOn q u) (wired : AreWired u.net) (mute : HasNoAdverts u) (y : Item) (m : PathMsg) (arr : slice_get u.flight 0 ≡ Some y) (spelt : y.arrival ≡ Spelt (message.Path m))
    (f : Facts) (at : slice_get u.nodes (node_of u.net.ends y.end) ≡ Some f) (news : BringsNew q u r mute y m arr spelt f at) where
  abbrev node : ℕ
  node = node_of u.net.ends y.end

  abbrev here : NodeConfig
  here = config_of q u.net u.trees node

  abbrev then : Facts
  then = g q u r mute y m arr spelt f at

  abbrev made : Change
  made = change q u r mute y m arr spelt f at

  first : IsFollowing q some_session u
  first = r.follows some_session

  bounds : AreBounds q u
  bounds = first.paths.bounds

  abbrev next : World
  next = step q (Deliver 0) u

  abbrev key : SenderKey
  key = (m.session, news.put.sender)

  abbrev st : PathState
  st = path_state here (u.clock + 0) (iface_of u.net.ends y.end) m news.put.tspec

  abbrev all : List Sender
  all = live (locals_of u) m.session

  path_now : (k : SenderKey) → get then.paths k ≡ cond (eq_by_cmp sender_keys.cmp k key) (Some st) (get f.paths k)
  path_now k = ap (λ (z : Paths). get z k) news.put.is ∙ get-put_in sender_keys f.paths key st k

  path_other : (k : SenderKey) → eq_by_cmp sender_keys.cmp k key ≡ false → get then.paths k ≡ get f.paths k
  path_other k apart = path_now k ∙ ap (λ (b : Bool). cond b (Some st) (get f.paths k)) apart

  -- ---- the hop that the Path came over
  sound_there : IsSoundAt u key y.end (m.hop.addr, news.put.tspec)
  sound_there =
      let way = comes_in_told q u.net u.trees node m.session (iface_of u.net.ends y.end) news.put.sender news.put.tree in
      let inside = inward_there u.net bounds.net node way.0 m.session.group news.put.sender.addr way.1 in
      let lt = (bounds.flight y (in_arrived (Deliver 0) u y arr)).end in
      let end : way.0 ≡ y.end = same_end u.net way.0 y.end inside.0 lt inside.1 way.2 in
      first.paths.sound.items y m news.put.sender news.put.tspec (in_arrived (Deliver 0) u y arr) spelt news.put.of (way.1 ∙ ap Some end)

  -- ---- toward what hop another is asked for
  lane_is : (l : Lane) → is_changed here here f then l ≡ true → (l.session ≡ m.session) × (l.hop.0 ≡ iface_of u.net.ends y.end) × (l.hop.1 ≡ m.hop.addr)
  lane_is l changed_is =
      either (eq_by_cmp sessions.cmp l.session m.session && came_by l.hop st)
      (λ yes.
      let b = and_both (eq_by_cmp sessions.cmp l.session m.session) (came_by l.hop st) yes in
      let t = came_told l.hop st b.1 in
      (tied_same sessions l.session m.session b.0, sym t.0, sym t.1))
      (λ no.
      let vias = via_alike f then l.session l.hop
      (λ z. either (eq_by_cmp sender_keys.cmp (l.session, z) key)
      (λ tied.
      let same : ◌≡◌ {A = SenderKey} (l.session, z) key = tied_same sender_keys (l.session, z) key tied in
      let session : eq_by_cmp sessions.cmp l.session m.session ≡ true = ap (λ (k : SenderKey). eq_by_cmp sessions.cmp k.0 m.session) same ∙ tied_self sessions m.session in
      let off : came_by l.hop st ≡ false = off_of (eq_by_cmp sessions.cmp l.session m.session) (came_by l.hop st) session no in
      let now : get then.paths (l.session, z) ≡ Some st = path_now (l.session, z) ∙ ap (λ (b : Bool). cond b (Some st) (get f.paths (l.session, z))) tied in
      let before : get f.paths (l.session, z) ≡ None = ap (get f.paths) same ∙ news.new in
      ap (at_path.comes_of l.hop) now ∙ off ∙ sym (ap (at_path.comes_of l.hop) before))
      (λ apart. ap (at_path.comes_of l.hop) (path_other (l.session, z) apart))) in
      let bad : true ≡ false = sym changed_is ∙ lane_same q u r mute y m arr spelt f at l vias in
      cc)
    where
      off_of : (a b : Bool) → a ≡ true → (a && b) ≡ false → b ≡ false
      off_of true b e h = h
      off_of false b e h = absurd (cc)

  abbrev send_to : Lane → Option Send
  send_to = resv_send_to here here f then empty made.asked

  -- a Resv that is sent: toward a changed lane, of something
  record IsSentTo (l : Lane) (s : Send) : Type 0 where
    changed_is : is_changed here here f then l ≡ true
    asks : Ask
    whole : ask_of l.style (toward here then l) ≡ Some asks
    who : (e : ℕ) → payers_of u.net (locals_of u) e s.message ≡ senders_over u.net (locals_of u) l.session e (own here l.hop.0)

  sent_told : (l : Lane) (s : Send) → send_to l ≡ Some s → IsSentTo l s
  sent_told l s is = by (is_changed here here f then l) (ask_of l.style (toward here then l)) refl refl is
    where
      by : (new : Bool) (o : Option Ask) → is_changed here here f then l ≡ new → ask_of l.style (toward here then l) ≡ o → resv_send_of here then l new false made.asked o ≡ Some s → IsSentTo l s
      by new None a b h = absurd (cc)
      by true (Some ask) a b h =
          let same : resv_send here then l (confirm_for here then l made.asked) false ask ≡ s = cc in
          record { changed_is = a; asks = ask; whole = b; who = λ e. ap (λ (z : Send). payers_of u.net (locals_of u) e z.message) (sym same) }
      by false (Some ask) a b h = absurd (cc)

  -- what asks for something has a part
  some_part : (l : Lane) (a : Ask) → ask_of l.style (toward here then l) ≡ Some a → (v : UnitOf) × (t : Part) × (get (toward here then l) v ≡ Some t)
  some_part l a e = by (toward here then l).rows refl
    where
      none : (s : StyleKind) → ask_of s empty ≡ None
      none Wild = refl
      none Fixed = refl
      none Shared = refl

      by : (rows : List (UnitOf × Part)) → (toward here then l).rows ≡ rows → (v : UnitOf) × (t : Part) × (get (toward here then l) v ≡ Some t)
      by [] is =
          let nothing : toward here then l ≡ empty = same_table units (toward here then l) empty (λ v. ap (find units.cmp v) is) in
          let bad : None ≡ Some a = sym (none l.style) ∙ ap (ask_of l.style) (sym nothing) ∙ e in
          absurd (cc)
      by (x ∷ xs) is = (x.0, x.1, in_found units (toward here then l) x.0 x.1 (subst (λ (z : List (UnitOf × Part)). In x z) (sym is) (inl refl)))

  -- of one style
  record IsWanted (l : Lane) : Type 0 where
    hop : LinkHop
    unit : UnitOf
    part : Part
    is : get (want l.style u.net (locals_of u) m.session hop) unit ≡ Some part

  is_then : after q u r mute y m arr spelt f at ≡ facts_then here here (u.clock + 0) (input q u r mute y m arr spelt) f
  is_then = ap (λ (o : Outcome). o.facts) (outcome_by q (Deliver 0) u node f (input q u r mute y m arr spelt) refl (at_path.came q u r mute y m arr spelt))

  wanted : (l : Lane) (s : Send) → send_to l ≡ Some s → IsWanted l
  wanted l s e =
      let x = sent_told l s e in
      let i = lane_is l x.changed_is in
      let v = some_part l x.asks x.whole in
      let after_f : Facts = after q u r mute y m arr spelt f at in
      let there : slice_get next.nodes node ≡ Some after_f = facts_after_made q (Deliver 0) u node f at in
      let goes : get (toward here after_f l) v.0 ≡ Some v.1 =
      ap (λ (z : Facts). get (toward here z l) v.0) is_then
      ∙ ap (λ z. get z v.0) (rule_in_parts.toward_same here here (u.clock + 0) (input q u r mute y m arr spelt) f l) ∙ v.2 in
      let h = sound_there.hop in
      let prev : IsPrevious u.net node l.session l.hop h = record {
        there = subst (λ (z : Session). In h (hops_of u.net.hops z.group)) (sym i.0) (tree_group u.net.hops m.session.group news.put.sender.addr h sound_there.there);
        node = ap (node_of u.net.ends) sound_there.to;
        iface = ap (iface_of u.net.ends) sound_there.to ∙ sym i.1;
        addr = sym sound_there.from ∙ sym i.2;
      } in
      let x = toward_is_at_most_the_want q next (bounds' q u r) (sound' q u r) node after_f there l h prev
      (named_below next (follows_next q u r some_session).sound.facts l.style node after_f l.session (rank u.net l.session.group h) there) v.0 v.1 goes in
      let loc : locals_of next ≡ locals_of u = (same_next q 0 u bounds u (known_self q u bounds).same).locals in
      record {
        hop = x.hop;
        unit = v.0;
        part = x.wanted;
        is = (λ j. get (want l.style u.net (sym loc j) (sym i.0 j) x.hop) v.0) ∙ x.is;
      }

  same_style : (l k : Lane) (s t : Send) → send_to l ≡ Some s → send_to k ≡ Some t → l.style ≡ k.style
  same_style l k s t e d =
      let a = wanted l s e in
      let b = wanted k t d in
      one_style u.net (locals_of u) m.session (r.follows m.session).fit l.style k.style a.hop b.hop a.unit b.unit a.part b.part a.is b.is

  same_lane : (l k : Lane) (s t : Send) → send_to l ≡ Some s → send_to k ≡ Some t → l ≡ k
  same_lane l k s t e d =
      let a = lane_is l (sent_told l s e).changed_is in
      let b = lane_is k (sent_told k t d).changed_is in
      let style = same_style l k s t e d in
      (λ j. record { session = (a.0 ∙ sym b.0) j; style = style j; hop = ((a.1 ∙ sym b.1) j, (a.2 ∙ sym b.2) j) })

  one_resv : paid u node (resv_sends here here f then empty made.asked) ≤ length all
  one_resv =
      let ks : List Lane = keys (lanes then) in
      let flat = ap length (flat_flat (copies_of u.net u.made node) (pay u) (resv_sends here here f then empty made.asked)) in
      let picked = length_picked send_to (λ s. flat_map (pay u) (copies_of u.net u.made node s)) (λ l. length (filter (λ x. is_some (send_to l)) all)) ks
      (λ l s i is.
      copy_paid u bounds.net wired node s (length (filter (λ x. is_some (send_to l)) all))
      (λ e j.
      let t = sent_told l s is in
      let session = (lane_is l t.changed_is).0 in
      let who = ap length (t.who e) in
      let few = more_pass (goes_from u.net l.session e (own here l.hop.0)) (λ x. is_some (send_to l)) (live (locals_of u) l.session) (λ x d h. ap is_some is) in
      let same : length (filter (λ x. is_some (send_to l)) (live (locals_of u) l.session)) ≡ length (filter (λ x. is_some (send_to l)) all) =
      ap (λ (z : Session). length (filter (λ x. is_some (send_to l)) (live (locals_of u) z))) session in
      omega (arith, who, few, same))) in
      let once : NoRepeats ks = once_keys lane_keys (lanes then).rows (lanes then).sorted in
      let sum = by_columns (λ l (x : Sender). is_some (send_to l)) (λ x. true) ks all
      (λ x i t. one_at_most (λ l. is_some (send_to l)) ks once
      (λ l k j j' a b. let s = has_some (send_to l) a in let t = has_some (send_to k) b in same_lane l k s.0 t.0 s.1 t.1))
      (λ x i t. let bad : true ≡ false = t in cc) in
      let most = length_filter (λ x. true) all in
      omega (arith, flat, picked, sum, most)

  -- ---- and each hop out of the node for a Path
  abbrev mine : OfferKey → Bool
  mine k = eq_by_cmp sender_keys.cmp (k.session, k.sender) key

  abbrev out : List LinkHop
  out = filter (goes_out_of u.net.ends node) (tree u.net.hops m.session.group news.put.sender.addr)

  abbrev way_of : LinkHop → OfferKey
  way_of h = record { session = m.session; sender = news.put.sender; iface = iface_of u.net.ends h.from }

  alike : (k : SenderKey) → eq_by_cmp sender_keys.cmp k key ≡ false → AreAlike q u r mute y m arr spelt f at k
  alike k apart = record { comes = λ hop. ap (at_path.comes_of hop) (path_other k apart); offers_it = ap (option_map path_offer) (path_other k apart) }

  offered_way : (k : OfferKey) (o : Offer) → get (offers here then) k ≡ Some o → In k (each way_of out ++ filter (λ z. not (mine z)) (keys (offers here then)))
  offered_way k o e =
      either (mine k)
      (λ yes.
      let same : ◌≡◌ {A = SenderKey} (k.session, k.sender) key = tied_same sender_keys (k.session, k.sender) key yes in
      let way : is_way here k ≡ true = either (is_way here k) (λ t. t)
      (λ no. let bad : None ≡ Some o = ap (λ (b : Bool). cond b (offer_at then k) None) (sym no) ∙ sym (offers_by_way here then k) ∙ e in absurd (cc)) in
      let goes = (and_both _ _ way).1 in
      let a = goes_out_told q u.net u.trees node k.session k.iface k.sender goes in
      let h = out_told u.net node a.0 k.session.group k.sender.addr a.1 in
      let over : In h.0 (tree u.net.hops m.session.group news.put.sender.addr) = subst (λ (z : SenderKey). In h.0 (tree u.net.hops z.0.group z.1.addr)) same h.1 in
      let from : goes_out_of u.net.ends node h.0 ≡ true = number_same _ _ (ap (node_of u.net.ends) h.2 ∙ h.3) in
      let is : way_of h.0 ≡ k = (λ j. record { session = (sym same j).0; sender = (sym same j).1; iface = (ap (iface_of u.net.ends) h.2 ∙ a.2) j }) in
      in_left k (each way_of out) (filter (λ z. not (mine z)) (keys (offers here then)))
      (subst (λ (z : OfferKey). In z (each way_of out)) is (to_each way_of h.0 out (to_filter (goes_out_of u.net.ends node) h.0 (tree u.net.hops m.session.group news.put.sender.addr) over from))))
      (λ no.
      in_right k (each way_of out) (filter (λ z. not (mine z)) (keys (offers here then)))
      (to_filter (λ z. not (mine z)) k (keys (offers here then)) (to_each (λ (z : OfferKey × Offer). z.0) (k, o) (offers here then).rows (found_in offer_keys (offers here then) k o e)) (ap not no)))

  abbrev cost : OfferKey → ℕ
  cost k = cond (mine k) (length all) 0

  few_paths : paid u node (path_sends here (offers here f) (offers here then) empty) ≤ sum_by (λ h. length all) out
  few_paths =
      let nobody : Set sessions = empty in
      let flat = ap length (flat_flat (copies_of u.net u.made node) (pay u) (path_sends here (offers here f) (offers here then) empty)) in
      let picked = length_picked (path_send_of here (offers here f) empty) (λ s. flat_map (pay u) (copies_of u.net u.made node s)) (λ (z : OfferKey × Offer). cost z.0) (offers here then).rows
      (λ z s i is.
      let t = passed (has nobody z.0.session || is_new_offer here z.0.iface z.1 (get (offers here f) z.0)) (Some (path_send here (has nobody z.0.session) z)) s is in
      let send : path_send here (has nobody z.0.session) z ≡ s = (let w = t.1 in cc) in
      either (mine z.0)
      (λ yes.
      let same : ◌≡◌ {A = SenderKey} (z.0.session, z.0.sender) key = tied_same sender_keys (z.0.session, z.0.sender) key yes in
      let c : cost z.0 ≡ length all = ap (λ (b : Bool). cond b (length all) 0) yes in
      let few = copy_paid u bounds.net wired node s (length all)
      (λ e j. let who = ap (λ (w : Send). length (payers_of u.net (locals_of u) e w.message)) (sym send) in
      let session = ap (λ (k : SenderKey). length (live (locals_of u) k.0)) same in omega (arith, who, session)) in
      omega (arith, c, few))
      (λ no.
      let there = in_found offer_keys (offers here then) z.0 z.1 i in
      let before : get (offers here f) z.0 ≡ Some z.1 = sym (offer_alike q u r mute y m arr spelt f at z.0 (alike (z.0.session, z.0.sender) no)) ∙ there in
      let bad : true ≡ false = sym t.0 ∙ ap (is_new_offer here z.0.iface z.1) before ∙ same_itself here z.0.iface z.1 in
      absurd (cc))) in
      let sum = sum_keys offer_keys cost (offers here then) (each way_of out ++ filter (λ z. not (mine z)) (keys (offers here then))) offered_way in
      let split = sum_by-append cost (each way_of out) (filter (λ z. not (mine z)) (keys (offers here then))) in
      let none = none_left mine (length all) (keys (offers here then)) in
      let ways = sum_each cost way_of out in
      let most = sum_at_most (λ h. cost (way_of h)) (λ h. length all) out (λ h i. cond_below (mine (way_of h)) (length all)) in
      omega (arith, flat, picked, sum, split, none, ways, most)

  pub path_pays : paid u node (outcome q (Deliver 0) u node f).sent ≤ length all + sum_by (λ h. length all) out
  path_pays =
      let both = paid_both q u r mute y m arr spelt f at in
      let a = one_resv in
      let b = few_paths in
      omega (arith, both, a, b)
