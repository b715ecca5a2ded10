-- Half a period goes by: what is kept is renewed later in time, or a refresh of it is sent now.
use Rattle.std.proofs.Common.{◌≡◌, ℕ, ◌+◌, ◌*◌, ◌<◌, ◌≤◌, length, List, take, Bool, true, false, cond, Option, None, Some, ◌⊎◌, inl, inr, ⊎_elim, arith, sym, refl, ap, subst, ◌∙◌}
use Rattle.std.specs.Prelude.{is_some, map as each, not, slice_get, ◌||◌}
use Rattle.std.specs.Option.{option_map}
use Rattle.std.proofs.lemmas.List.{take_all}
use Rattle.rsvp_base.specs.declared.session.Sender.{Sender}
use Rattle.rsvp_base.specs.declared.session.Session.{Session}
use Rattle.rsvp_base.specs.Members.{In}
use Rattle.rsvp_base.specs.Orders.{Names as NameSet}
use Rattle.rsvp_base.specs.Sets.{is_none}
use Rattle.rsvp_base.specs.Table.{empty, get, has}
use Rattle.rsvp_base.specs.TokenBucket.{TokenBucket}
use Rattle.rsvp_base.proofs.Members.{in_right, to_each}
use Rattle.rsvp_base.proofs.Tables.{either}
use Rattle.router_rules.specs.RsvpMessages.declared.ask.Ask.{Ask}
use Rattle.router_rules.specs.Merge.{PartTable}
use Rattle.laws_bounds.proofs.Asks.{nothing_asked, style_told}
use Rattle.laws_bounds.proofs.Knowing.{known_and_via}
use Rattle.laws_bounds.proofs.Lists.{one_name}
use Rattle.laws_bounds.proofs.Offering.{offers_by_way}
use Rattle.laws_bounds.proofs.Requesting.{nowhere}
use Rattle.laws_bounds.proofs.Ruling.{rule_in_parts}
use Rattle.laws_bounds.proofs.Stepping.{offer_source, offered_is_known}
use Rattle.router_rules.specs.Act.{act}
use Rattle.router_rules.specs.Asking.{ask_of}
use Rattle.router_rules.specs.Facts.{Facts, PathState, ResvState, SenderKey}
use Rattle.router_rules.specs.Inputs.{Change, Input, Send, Wait}
use Rattle.router_rules.specs.Known.{Lane, known, lanes}
use Rattle.router_rules.specs.NodeConfig.{NodeConfig}
use Rattle.router_rules.specs.Offers.{OfferKey, offer_at, offers}
use Rattle.router_rules.specs.Requests.{toward}
use Rattle.router_rules.specs.Rule.{settled}
use Rattle.router_rules.specs.Sends.{confirm_for, is_changed, is_new_offer, path_send, resv_send}
use Rattle.router_rules.specs.Steps.{facts_then, fired_then, sent_then}
use Rattle.tree_model.specs.declared.hops.End.{End}
use Rattle.tree_model.specs.declared.hops.LinkHop.{LinkHop}
use Rattle.tree_model.specs.Goals.{addr_of, addr_of_end}
use Rattle.tree_model.specs.Networks.{end_at, iface_of, node_of, peers}
use Rattle.tree_model.specs.Trees.{hops_of, tree}
use Rattle.tree_model.proofs.Following.{in_group, to_tree}
use Rattle.tree_model.proofs.Ifaces.{interfaces_are_ends}
use Rattle.tree_model.proofs.Links.{hop_linked, peers_both}
use Rattle.network_model.specs.Bounds.{AreBounds}
use Rattle.network_model.specs.Links.{copy_to, goes_to, is_group}
use Rattle.network_model.specs.Locals.{IsLive}
use Rattle.network_model.specs.Steps.{Piece, outcome, sent, step, word_for}
use Rattle.network_model.specs.Worlds.{Item, World, config_of}
use Rattle.network_model.proofs.Changing.{where_a_send_goes}
use Rattle.network_model.proofs.Stepping.{copies_made, facts_after_found, facts_after_made, sent_made}
use Rattle.laws_network.specs.Refreshes.{Refreshes, due_at}
use Rattle.laws_network.specs.Sources.{IsLocalOffer, IsPathOffer}
use Rattle.laws_network.proofs.Due.{due_found, due_made, due_moves, refresh_follows}
use Rattle.laws_network.proofs.Known.{has_some, of_some}
use Rattle.laws_network.proofs.Speaking.{send_made}
use Rattle.laws_network.proofs.Standing.{own_end, some_at}
use Rattle.settle_paths.proofs.LiveSenders.{one_flow}
use Rattle.settle_paths.proofs.PreviousHops.{ends_there}
use Rattle.settle_resvs.specs.Said.{HopKey, hop_over, lane_of, resv_key}
use Rattle.settle_resvs.specs.SoftResvs.{line_key_of, resv_at}
use Rattle.settle_resvs.proofs.SoftResvs.{resv_found}
use Rattle.settle_resvs.proofs.TowardNames.{parts_of_style}
use Rattle.settle_passes.specs.Passes.{IsPathOver, Knows}
use Rattle.settle_passes.proofs.Deliveries.{goes, of_group, way}
use Rattle.settle_senders.specs.Following.{IsFollowing}
use Rattle.settle_openings.specs.Opening.{AreLasting, GoesOn, IsAskedAgain, IsGoingOn, IsInTime, with_first}
use Rattle.settle_openings.proofs.Going.{some_session}
use Rattle.settle_openings.proofs.Sent.{asks_for}
use Rattle.settle_openings.proofs.Waiting.{bounds', going_on', known_is, live_on, paths_are, resv_was_at, sends, sound', toward_is}

in_all : {A : Type 0} (x : A) (xs : List A) → In x xs → In x (take (length xs) xs)
in_all x xs i = subst (λ (z : List _). In x z) (sym (take_all (length xs) xs (omega arith))) i

module _ (q ms : ℕ) (u : World) (le : ms ≤ 2 * q) (r : IsGoingOn q u) (l : AreLasting q 0 u) where
  abbrev next : World
  next = step q (Piece ms) u

  abbrev news : List Item
  news = each (λ (z : Item × Bool). z.0) (sent q (Piece ms) u)

  first : IsFollowing q some_session u
  first = r.follows some_session

  bounds : AreBounds q u
  bounds = first.paths.bounds

  then_first : IsFollowing q some_session next
  then_first = (going_on' q ms u le r l).follows some_session

  abbrev c : ℕ
  c = u.clock + ms

  abbrev place : ℕ → NodeConfig
  place n = config_of q u.net u.trees n

  abbrev waits : ℕ → Input
  waits n = Wait ms (word_for u.words n)

  abbrev then : ℕ → Facts → Facts
  then n f = (outcome q (Piece ms) u n f).facts

  -- ---- it is in time still, or the node refreshes the session
  in_time_or_due : (n : ℕ) (s : Session) (dies : ℕ) → IsInTime q u n s dies → IsInTime q next n s dies ⊎ Refreshes n s (Piece ms) u
  in_time_or_due n s dies a =
      let f = due_found u n s a.moment a.due in
      let after : slice_get next.nodes n ≡ Some (then n f.0) = facts_after_made q (Piece ms) u n f.0 f.1 in
      let was : has f.0.due s ≡ true = ap (λ (o : Option ℕ). is_some o) f.2 in
      let counts = (known_and_via.counted_by f.0 s).0 (sym ((bounds.facts n f.0 f.1).due.counted s) ∙ was) in
      let knows : has (known (then n f.0) s) counts.0 ≡ true = ap (λ (z : NameSet). has z counts.0) (known_is q ms u le r l n f.0 f.1 s) ∙ counts.1 in
      let t = has_some (get (then n f.0).due s) (((bounds' q ms u le r l).facts n (then n f.0) after).due.counted s ∙ (known_and_via.counted_by (then n f.0) s).1 (counts.0, knows)) in
      let now : due_at next n s ≡ Some t.0 = due_made next n s t.0 (then n f.0) after t.1 in
      ⊎_elim (λ (e : t.0 ≡ a.moment). inl (record { moment = a.moment; due = now ∙ ap Some e; long = a.long })) (λ (z : Refreshes n s (Piece ms) u). inr z)
      (due_moves q (Piece ms) u n s a.moment t.0 refl bounds a.due now)

  fired_at : (n : ℕ) (s : Session) (z : Refreshes n s (Piece ms) u) → has (fired_then (place n) c (waits n) z.facts) s ≡ true
  fired_at n s z =
      let f = refresh_follows q (Piece ms) u n s refl z in
      let came = f.0.came in
      let is : waits n ≡ f.0.input = cc in
      ap (λ (i : Input). has (fired_then (place n) c i z.facts) s) is ∙ f.1

  -- ---- a Path goes over each hop of the tree of a sender whose session comes due
  path_again : (k : SenderKey) (t : TokenBucket) (h : LinkHop) → IsLive u k t → (there : In h (tree u.net.hops k.0.group k.1.addr)) → Knows u (node_of u.net.ends h.from) k
      → Refreshes (node_of u.net.ends h.from) k.0 (Piece ms) u → IsPathOver (with_first (length next.flight) next) k t h
  path_again k t h live there knows z =
      let n : ℕ = node_of u.net.ends h.from in
      let f : Facts = z.facts in
      let p : NodeConfig = place n in
      let left : Facts = facts_then p p c (waits n) f in
      let key : OfferKey = record { session = k.0; sender = k.1; iface = iface_of u.net.ends h.from } in
      let same_facts : knows.facts ≡ f = of_some knows.facts f (sym knows.there ∙ z.there) in
      let known_left : has (known left k.0) k.1 ≡ true =
      ap (λ (d : NameSet). has d k.1) (known_is q ms u le r l n f z.there k.0) ∙ ap (λ (d : Facts). has (known d k.0) k.1) (sym same_facts) ∙ knows.known_one in
      let o = has_some (offer_at left key) (offered_is_known left key ∙ known_left) in
      let offered : get (offers p left) key ≡ Some o.0 = offers_by_way p left key ∙ ap (λ (b : Bool). cond b (offer_at left key) None) (way q (Piece ms) u bounds k h there) ∙ o.1 in
      let fired : Bool = has (fired_then p c (waits n) f) k.0 in
      let why : (fired || is_new_offer p key.iface o.0 (get (offers p f) key)) ≡ true = ap (λ (b : Bool). b || is_new_offer p key.iface o.0 (get (offers p f) key)) (fired_at n k.0 z) in
      let send : Send = path_send p fired (key, o.0) in
      let sends_it : In send (sent_then p p c (waits n) f) =
      send_made p p c (waits n) f send refl (inr (inr (inr (inr (inl (record { key = key; offer = o.0; offered = offered; why = why; is = refl })))))) in
      let y : Item × Bool = copy_to u.made send h.to in
      let sent_one : In y (sent q (Piece ms) u) =
      sent_made q (Piece ms) u n f y z.there
      (copies_made u.net u.made n (outcome q (Piece ms) u n f).sent send h.to sends_it (goes q (Piece ms) u bounds k h there (of_group u first.paths.hosts k t live))) in
      let after : slice_get next.nodes n ≡ Some left = facts_after_made q (Piece ms) u n f z.there in
      let live' : IsLive next k t = live_on q ms u le r l k t live in
      let flow : IsLive next k o.0.tspec =
      ⊎_elim (λ (a : IsLocalOffer left key o.0). record { node = n; senders = left.senders; at = ap (option_map (λ (d : Facts). d.senders)) after; sends = a.there })
      (λ (a : IsPathOffer left key o.0). subst (λ (d : TokenBucket). IsLive next k d) (sym a.tspec) ((sound' q ms u le r l).facts n left k a.path after a.there).sound.live)
      (offer_source left key o.0 o.1) in
      let same : o.0.tspec ≡ t = one_flow next then_first.paths.hosts k o.0.tspec t flow live' in
      record {
        item = y.0;
        flight = in_all y.0 next.flight (in_right y.0 u.flight news (to_each (λ (d : Item × Bool). d.0) y (sent q (Piece ms) u) sent_one));
        end = refl;
        dst = refl;
        path = _;
        spelt = refl;
        session = refl;
        sender = ap (λ (d : TokenBucket). Some (k.1, d)) same;
      }

  -- ---- and a Resv over each hop over which something of it goes
  host : (e : ℕ) → e < length u.net.ends → is_group (addr_of u.net e) ≡ false
  host e lt = let x = some_at u.net.ends e lt in ap (λ (z : Option End). is_group (addr_of_end z)) x.1 ∙ bounds.hosts e x.0 x.1

  resv_again : (k : HopKey) (x : Sender) → (there : In (hop_over k) (hops_of u.net.hops k.session.group)) → GoesOn q u k x → Refreshes (node_of u.net.ends k.from) k.session (Piece ms) u
      → IsAskedAgain (length next.flight) next k
  resv_again k x there g z = by (ask_of k.style whole) refl
    where
      n : ℕ
      n = node_of u.net.ends k.from

      f : Facts
      f = z.facts

      p : NodeConfig
      p = place n

      lane : Lane
      lane = lane_of u.net k

      after : Facts
      after = settled p c f (act p c (waits n) f).facts

      whole : PartTable
      whole = toward p after lane

      at' : slice_get next.nodes n ≡ Some (then n f)
      at' = facts_after_made q (Piece ms) u n f z.there

      same : toward p (then n f) lane ≡ whole
      same = rule_in_parts.toward_same p p c (waits n) f lane

      facts : g.facts ≡ f
      facts = of_some g.facts f (sym g.there ∙ z.there)

      goes_now : get (toward p (then n f) lane) k.unit ≡ Some g.part
      goes_now = ap (λ (t : PartTable). get t k.unit) (toward_is q ms u le r l n f z.there lane) ∙ ap (λ (d : Facts). get (toward p d lane) k.unit) (sym facts) ∙ g.goes

      here : get whole k.unit ≡ Some g.part
      here = ap (λ (t : PartTable). get t k.unit) (sym same) ∙ goes_now

      by : (o : Option Ask) → ask_of k.style whole ≡ o → IsAskedAgain (length next.flight) next k
      by None e =
          let none : toward p (then n f) lane ≡ empty =
          nothing_asked k.style (toward p (then n f) lane) (parts_of_style p next.clock (then n f) ((bounds' q ms u le r l).facts n (then n f) at') lane) (ap (ask_of k.style) same ∙ e) in
          let bad : None ≡ Some g.part = ap (λ (t : PartTable). get t k.unit) (sym none) ∙ goes_now in
          absurd (cc)
      by (Some ask) e =
          let change : Change = act p c (waits n) f in
          let lane_there : has (lanes after) lane ≡ true = either (has (lanes after) lane) (λ yes. yes)
          (λ no. let bad : None ≡ Some g.part = ap (λ (t : PartTable). get t k.unit) (sym (nowhere p after lane no)) ∙ here in absurd (cc)) in
          let send : Send = resv_send p after lane (cond (is_changed p p f after lane) (confirm_for p after lane change.asked) None) (has change.fired k.session) ask in
          let sends_it : In send (sent_then p p c (waits n) f) =
          send_made p p c (waits n) f send refl
          (inr (inr (inr (inr (inr (record {
            lane = lane;
            there = lane_there;
            ask = ask;
            whole = e;
            why = ap (λ (b : Bool). b || is_changed p p f after lane) (fired_at n k.session z);
            is = refl;
          })))))) in
          let inside = ends_there u.net bounds.net k.session.group (hop_over k) there in
          let end : end_at u.net.ends n (iface_of u.net.ends k.from) ≡ Some k.from = (interfaces_are_ends u.net).end_of_iface k.from inside.1 in
          let d = in_group u.net.hops k.session.group (hop_over k) there in
          let in_tree : In (hop_over k) (tree u.net.hops d.0.group d.0.source) = subst (λ (w : LinkHop). In w (tree u.net.hops d.0.group d.0.source)) d.3 (to_tree u.net.hops d.0 d.1) in
          let peer : In k.to (peers u.net.links k.from) = peers_both u.net bounds.net k.to k.from (hop_linked u.net bounds.net d.0.group d.0.source (hop_over k) in_tree) in
          let goes_there : In k.to (goes_to u.net (end_at u.net.ends n (iface_of u.net.ends k.from)) (addr_of u.net k.to)) =
          subst (λ (w : Option ℕ). In k.to (goes_to u.net w (addr_of u.net k.to))) (sym end)
          (((where_a_send_goes u.net k.from (addr_of u.net k.to)).one (host k.to inside.0) k.to peer refl k.to).1 (peer, refl)) in
          let y : Item × Bool = copy_to u.made send k.to in
          let sent_one : In y (sent q (Piece ms) u) = sent_made q (Piece ms) u n f y z.there (copies_made u.net u.made n (outcome q (Piece ms) u n f).sent send k.to sends_it goes_there) in
          let new : In y.0 news = to_each (λ (w : Item × Bool). w.0) y (sent q (Piece ms) u) sent_one in
          record {
            item = y.0;
            flight = in_all y.0 next.flight (in_right y.0 u.flight news new);
            part = g.part;
            says = asks_for q next (bounds' q ms u le r l) (sound' q ms u le r l) y.0 _ (sends q ms u le r l y.0 _ new refl) k there (then n f) at' g.part goes_now refl
                (record { end = refl; session = refl; from = own_end q u.net u.trees n (iface_of u.net.ends k.from) k.from end; style = style_told k.style whole ask e });
          }

  -- ---- all that is kept
  path_lasts : (m : ℕ) (g : Facts) (k : SenderKey) (x : PathState) (h : LinkHop) → slice_get next.nodes m ≡ Some g → get g.paths k ≡ Some x → In h (tree u.net.hops k.0.group k.1.addr)
      → node_of u.net.ends h.to ≡ m → IsInTime q next (node_of u.net.ends h.from) k.0 x.dies ⊎ IsPathOver (with_first (length next.flight) next) k x.tspec h
  path_lasts m g k x h at e there node =
      let f = facts_after_found q (Piece ms) u m g at in
      let was : get f.0.paths k ≡ Some x = ap (λ (z : _). get z k) (sym (paths_are q ms u le r l m f.0 f.1)) ∙ ap (λ (z : Facts). get z.paths k) (sym f.2) ∙ e in
      ⊎_elim
      (λ (a : IsInTime q u (node_of u.net.ends h.from) k.0 x.dies).
      ⊎_elim (λ (b : IsInTime q next (node_of u.net.ends h.from) k.0 x.dies). inl b)
      (λ (z : Refreshes (node_of u.net.ends h.from) k.0 (Piece ms) u).
      inr (path_again k x.tspec h (first.paths.sound.facts m f.0 k x f.1 was).sound.live there (first.from_known.facts m f.0 k x h f.1 was there node) z))
      (in_time_or_due (node_of u.net.ends h.from) k.0 x.dies a))
      (λ (y : IsPathOver (with_first 0 u) k x.tspec h). absurd y.flight) (l.paths m f.0 k x h f.1 was there node)

  resv_lasts : (k : HopKey) (x : ResvState) → In (hop_over k) (hops_of u.net.hops k.session.group)
      → resv_at next (node_of u.net.ends k.to) k.style (line_key_of u.net (resv_key u.net k)) ≡ Some x
      → IsInTime q next (node_of u.net.ends k.from) k.session x.dies ⊎ IsAskedAgain (length next.flight) next k
  resv_lasts k x there e =
      let was = resv_was_at q ms u le r l (node_of u.net.ends k.to) k.style (line_key_of u.net (resv_key u.net k)) x e in
      let f = resv_found u (node_of u.net.ends k.to) k.style (line_key_of u.net (resv_key u.net k)) x was in
      let named = (bounds.facts (node_of u.net.ends k.to) f.0 f.1).shapes.resvs k.style (line_key_of u.net (resv_key u.net k)) x f.2 in
      let one = one_name x.part.senders (not_true (is_none x.part.senders) named.style.named) in
      ⊎_elim
      (λ (a : IsInTime q u (node_of u.net.ends k.from) k.session x.dies).
      ⊎_elim (λ (b : IsInTime q next (node_of u.net.ends k.from) k.session x.dies). inl b)
      (λ (z : Refreshes (node_of u.net.ends k.from) k.session (Piece ms) u).
      inr (resv_again k one.0 there (r.names.kept k x.part one.0 there (record { resv = x; there = was; is = refl }) one.1).1 z))
      (in_time_or_due (node_of u.net.ends k.from) k.session x.dies a))
      (λ (y : IsAskedAgain 0 u k). absurd y.flight) (l.resvs k x there was)
    where
      not_true : (b : Bool) → not b ≡ true → b ≡ false
      not_true true d = cc
      not_true false d = refl

  pub lasting' : AreLasting q (length next.flight) next
  lasting' = record { paths = path_lasts; resvs = resv_lasts }
