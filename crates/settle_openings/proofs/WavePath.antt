-- A Path is delivered in a network that opens: where its path is there nothing is sent; else it pays for the Resv that goes back over its hop, and who
-- is told for the first time pays for the Paths that go on.
use Rattle.std.proofs.Common.{◌≡◌, ℕ, ◌+◌, ◌<◌, [], length, Bool, true, false, cond, Option, None, Some, ◌⊎◌, inl, inr, ⊎_elim, arith, sym, refl, ap, subst, ◌∙◌}
use Rattle.std.specs.Prelude.{is_some, not, slice_get, ◌==◌, ◌&&◌}
use Rattle.std.specs.Option.{option_map}
use Rattle.std.specs.Ordering.{eq_by_cmp}
use Rattle.rsvp_base.specs.declared.session.Sender.{Sender}
use Rattle.rsvp_base.specs.declared.session.Session.{Session}
use Rattle.rsvp_base.specs.declared.style.StyleKind.{StyleKind}
use Rattle.rsvp_base.specs.Members.{In}
use Rattle.rsvp_base.specs.Orders.{senders, sessions}
use Rattle.rsvp_base.specs.SessionLimits.{has_room_at}
use Rattle.rsvp_base.specs.Table.{empty, get, has, keys, put_in}
use Rattle.rsvp_base.specs.TokenBucket.{TokenBucket}
use Rattle.rsvp_base.proofs.Fronts.{in_filter_map}
use Rattle.rsvp_base.proofs.SetLaws.{same_set}
use Rattle.rsvp_base.proofs.Tables.{either, get-changed, get-put_in_other, get-put_in_same, same_table, then_do, tied_same}
use Rattle.rsvp_base.proofs.UnderLaws.{get-under}
use Rattle.rsvp_messages.specs.declared.ask.Ask.{Ask}
use Rattle.rsvp_messages.specs.declared.message.Message.TheVariants as message
use Rattle.rsvp_messages.specs.declared.message.PathMsg.{PathMsg}
use Rattle.style_rules.specs.Lines.{LineKey, NextHop}
use Rattle.style_rules.specs.Toward.{or_else}
use Rattle.laws_bounds.proofs.Lists.{none_in}
use Rattle.laws_bounds.proofs.Offering.{offers_by_way}
use Rattle.laws_bounds.proofs.Ruling.{rule_in_parts}
use Rattle.laws_bounds.proofs.Stepping.{quiet_due}
use Rattle.laws_bounds.proofs.Tests.{parts_tested}
use Rattle.laws_bounds.specs.FactLaws.{is_way}
use Rattle.laws_steps.specs.ReservationLaws.{IsAskedFor}
use Rattle.laws_steps.proofs.Asking.{what_keeps_a_reservation_fact, where_a_reservation_fact_comes_from}
use Rattle.router_rules.specs.Act.{act, act_spelt, is_mine}
use Rattle.router_rules.specs.Asking.{ask_of}
use Rattle.router_rules.specs.Facts.{Facts, PathState, Paths, ResvState, SenderKey, paths_in, resvs_of, sender_keys}
use Rattle.router_rules.specs.Inputs.{Came, Change, Input, Send, Spelt}
use Rattle.router_rules.specs.Known.{Lane, came_by, known, lanes, named_as, via}
use Rattle.router_rules.specs.NodeConfig.{NodeConfig, comes_in, is_addr, own}
use Rattle.router_rules.specs.Offers.{Offer, OfferKey, advert_of, offer_at, offer_keys, offers, own_offer, path_offer}
use Rattle.router_rules.specs.Paths.{learn, learn_inward, learnt, path_state}
use Rattle.router_rules.specs.Requests.{toward}
use Rattle.router_rules.specs.Rule.{Outcome, settled}
use Rattle.router_rules.specs.Sends.{is_changed, path_sends, resv_send_of, resv_send_to, resv_sends}
use Rattle.router_rules.specs.Steps.{facts_then, node_step}
use Rattle.tree_model.specs.declared.hops.LinkHop.{LinkHop}
use Rattle.tree_model.specs.Goals.{addr_of}
use Rattle.tree_model.specs.Networks.{iface_of, node_of}
use Rattle.tree_model.specs.Trees.{tree}
use Rattle.tree_model.proofs.Ifaces.{interfaces_are_ends}
use Rattle.tree_model.proofs.TreeLaws.{one}
use Rattle.network_model.specs.Bounds.{AreBounds}
use Rattle.network_model.specs.Steps.{Deliver, input_at, outcome, step}
use Rattle.network_model.specs.Worlds.{Item, World, config_of}
use Rattle.network_model.proofs.Machines.{in_arrived}
use Rattle.network_model.proofs.Quiet.{outcome_by}
use Rattle.network_model.proofs.Stepping.{facts_after_made}
use Rattle.laws_network.proofs.Known.{came_there}
use Rattle.laws_network.proofs.Standing.{comes_in_told, same_end, inward_there}
use Rattle.settle_paths.proofs.LiveSenders.{one_flow}
use Rattle.settle_resvs.proofs.SoftResvs.{resv_made}
use Rattle.settle_passes.specs.Reserving.{IsKeptOver}
use Rattle.settle_passes.proofs.Deliveries.{known_self}
use Rattle.settle_senders.proofs.Following.{turns}
use Rattle.settle_senders.proofs.Knowing.{name_known, named_on}
use Rattle.settle_senders.specs.Following.{HasSenderNamed, IsFollowing}
use Rattle.settle_openings.specs.Opening.{IsGoingOn}
use Rattle.settle_openings.specs.Waves.{HasNoAdverts}
use Rattle.settle_openings.proofs.Going.{some_session}
use Rattle.settle_openings.proofs.Kept.{known_on, of_hop}
use Rattle.settle_openings.proofs.WaveLanes.{toward_alike}
use Rattle.settle_openings.proofs.WavePaid.{no_paths, paid, paid_sends}

-- ---- who comes by a hop
abbrev pub comes_of : NextHop → Option PathState → Bool
comes_of hop None = false
comes_of hop (Some x) = came_by hop x

has_via : (f : Facts) (s : Session) (hop : NextHop) (z : Sender) → has (via f s hop) z ≡ comes_of hop (get f.paths (s, z))
has_via f s hop z =
    ap is_some (get-changed senders (λ x path. cond (came_by hop path) (Some tt) None) (paths_in f s) z)
    ∙ ap (λ (o : Option PathState). is_some (then_do o (λ (path : PathState). cond {A = Option (Unit {0})} (came_by hop path) (Some tt) None))) (get-under sessions senders f.paths s z) ∙ by (get f.paths (s, z))
  where
    of_bool : (b : Bool) → is_some (cond {A = Option (Unit {0})} b (Some tt) None) ≡ b
    of_bool true = refl
    of_bool false = refl

    by : (o : Option PathState) → is_some (then_do o (λ (path : PathState). cond {A = Option (Unit {0})} (came_by hop path) (Some tt) None)) ≡ comes_of hop o
    by None = refl
    by (Some x) = of_bool (came_by hop x)

pub via_alike : (f g : Facts) (s : Session) (hop : NextHop) → ((z : Sender) → comes_of hop (get g.paths (s, z)) ≡ comes_of hop (get f.paths (s, z))) → via g s hop ≡ via f s hop
via_alike f g s hop same = same_set senders (via g s hop) (via f s hop) (λ z. has_via g s hop z ∙ same z ∙ sym (has_via f s hop z))

-- ---- what a Path is learnt as
module _ (p : NodeConfig) (c e : ℕ) (m : PathMsg) (t : Paths) where
  pub record IsPut (after : Paths) : Type 0 where
    pub sender : Sender
    pub tspec : TokenBucket
    pub of : m.sender ≡ Some (sender, tspec)
    pub tree : comes_in p m.session e sender ≡ true
    pub is : after ≡ put_in t (m.session, sender) (path_state p c e m tspec)

  learn_or : (o : Option (Sender × TokenBucket)) → m.sender ≡ o → ((learn p c e m o t).0 ≡ t) ⊎ IsPut ((learn p c e m o t).0)
  learn_or None of = inl refl
  learn_or (Some z) of = by (comes_in p m.session e z.0) refl
    where
      new : Paths
      new = put_in t (m.session, z.0) (path_state p c e m z.1)

      room : comes_in p m.session e z.0 ≡ true → (b : Bool) → ((learnt b new t).0 ≡ t) ⊎ IsPut ((learnt b new t).0)
      room tree true = inr (record { sender = z.0; tspec = z.1; of = of; tree = tree; is = refl })
      room tree false = inl refl

      by : (b : Bool) → comes_in p m.session e z.0 ≡ b → ((learn_inward p c e m z.0 z.1 b t).0 ≡ t) ⊎ IsPut ((learn_inward p c e m z.0 z.1 b t).0)
      by true tree = room tree (has_room_at senders new m.session)
      by false tree = inl refl

module _ (q : ℕ) (u : World) (r : IsGoingOn q u) (mute : HasNoAdverts u) (y : Item) (m : PathMsg) (arr : slice_get u.flight 0 ≡ Some y) (spelt : y.arrival ≡ Spelt (message.Path m)) where
  first : IsFollowing q some_session u
  first = r.follows some_session

  bounds : AreBounds q u
  bounds = first.paths.bounds

  abbrev pub n : ℕ
  n = node_of u.net.ends y.end

  abbrev pub e : ℕ
  e = iface_of u.net.ends y.end

  abbrev pub p : NodeConfig
  p = config_of q u.net u.trees n

  abbrev pub c : ℕ
  c = u.clock + 0

  abbrev next : World
  next = step q (Deliver 0) u

  abbrev pub input : Input
  input = Came e y.dst (Spelt (message.Path m))

  flies : In y u.flight
  flies = in_arrived (Deliver 0) u y arr

  lt : y.end < length u.net.ends
  lt = (bounds.flight y flies).end

  pub came : input_at (Deliver 0) u n ≡ Some input
  came = came_there q u u (known_self q u bounds) y.end lt (Deliver 0) y arr refl ∙ (λ j. Some (Came e y.dst (spelt j)))

  module _ (f : Facts) (at : slice_get u.nodes n ≡ Some f) where
    abbrev pub change : Change
    change = act p c input f

    abbrev pub g : Facts
    g = settled p c f change.facts

    abbrev pub after : Facts
    after = (outcome q (Deliver 0) u n f).facts

    is : after ≡ facts_then p p c input f
    is = ap (λ (o : Outcome). o.facts) (outcome_by q (Deliver 0) u n f input refl came)

    there : slice_get next.nodes n ≡ Some after
    there = facts_after_made q (Deliver 0) u n f at

    pub put_or : (g.paths ≡ f.paths) ⊎ IsPut p c e m f.paths g.paths
    put_or = by (is_mine p e y.dst (message.Path m))
      where
        by : (b : Bool) → ((act_spelt p c e (message.Path m) b f).facts.paths ≡ f.paths) ⊎ IsPut p c e m f.paths (act_spelt p c e (message.Path m) b f).facts.paths
        by true = learn_or p c e m f.paths m.sender refl
        by false = inl refl

    wants_are : g.wants ≡ f.wants
    wants_are = by (is_mine p e y.dst (message.Path m))
      where
        by : (b : Bool) → (act_spelt p c e (message.Path m) b f).facts.wants ≡ f.wants
        by true = refl
        by false = refl

    walls_are : g.walls ≡ f.walls
    walls_are = by (is_mine p e y.dst (message.Path m))
      where
        by : (b : Bool) → (act_spelt p c e (message.Path m) b f).facts.walls ≡ f.walls
        by true = refl
        by false = refl

    senders_are : g.senders ≡ f.senders
    senders_are = by (is_mine p e y.dst (message.Path m))
      where
        by : (b : Bool) → (act_spelt p c e (message.Path m) b f).facts.senders ≡ f.senders
        by true = refl
        by false = refl

    adverts_are : g.advertised ≡ f.advertised
    adverts_are = by (is_mine p e y.dst (message.Path m))
      where
        by : (b : Bool) → (act_spelt p c e (message.Path m) b f).facts.advertised ≡ f.advertised
        by true = refl
        by false = refl

    -- reservations stay as they are
    resv_same : (st : StyleKind) (key : LineKey) → get (resvs_of st f) key ≡ get (resvs_of st g) key
    resv_same st key = by (get (resvs_of st f) key) (get (resvs_of st g) key) refl refl
      where
        by : (o v : Option ResvState) → get (resvs_of st f) key ≡ o → get (resvs_of st g) key ≡ v → get (resvs_of st f) key ≡ get (resvs_of st g) key
        by (Some x) v h d =
            let alive = ((bounds.facts n f at).alive.resvs st key x h).later in
            h ∙ sym (what_keeps_a_reservation_fact.whole (node_step p p u.clock c input f) (bounds.facts n f at) st key x h (omega (arith, alive)) (λ touch. touch)
            (λ z i.
            let o = of_hop u n st key x (first.sound.facts st n f key x at h) in
            let kept : IsKeptOver u o.hop x.part = record { resv = x; there = o.same u ∙ resv_made u n st key f at ∙ h; is = refl } in
            let a : HasSenderNamed u o.hop.to key.0 st z =
            subst (λ (w : Session × StyleKind). HasSenderNamed u o.hop.to w.0 w.1 z) (λ j. (o.session j, o.style j)) (first.names.kept o.hop x.part z o.there kept i) in
            let b = named_on q (Deliver 0) u bounds (turns q some_session u first) (known_on q u r some_session) o.hop.to key.0 st z a in
            ap (λ (w : Facts). has (named_as st (known w key.0)) z) (sym is) ∙ name_known next o.hop.to key.0 st z b after (ap (λ (w : ℕ). slice_get next.nodes w) o.node ∙ there)))
        by None None h d = h ∙ sym d
        by None (Some x) h d =
            ⊎_elim (λ old. let no : None ≡ Some old.0 = sym h ∙ old.1 in absurd (cc))
            (λ (new : IsAskedFor p c input f st key x).
            let same : input ≡ Came key.1.0.0 (own p key.1.0.0) (Spelt (message.Resv new.by.resv)) = new.by.came in absurd (cc))
            (where_a_reservation_fact_comes_from (node_step p p u.clock c input f) (bounds.facts n f at) st key x d)

    -- so what goes toward a hop is what went, where the same senders come by it
    pub lane_same : (l : Lane) → via g l.session l.hop ≡ via f l.session l.hop → is_changed p p f g l ≡ false
    lane_same l vias =
        let same = toward_alike p f g l vias wants_are walls_are (λ k. inl (ap (option_map (λ (x : ResvState). x.part)) (resv_same l.style (l.session, k)))) in
        ap not (parts_tested (toward p f l) (toward p g l) same)

    -- ---- Paths and Resvs are all that is paid for
    pub paid_both : paid u n (outcome q (Deliver 0) u n f).sent ≡ paid u n (path_sends p (offers p f) (offers p g) empty) + paid u n (resv_sends p p f g empty change.asked)
    paid_both =
        let out = ap (λ (o : Outcome). paid u n o.sent) (outcome_by q (Deliver 0) u n f input refl came) in
        let all = ap (paid u n) (rule_in_parts.loud p p c input f refl) in
        let due : change.fired ≡ empty = (quiet_due p c e y.dst (Spelt (message.Path m)) f).1 in
        let split = paid_sends u n p p f g change in
        let paths = ap (λ z. paid u n (path_sends p (offers p f) (offers p g) z)) due in
        let resvs = ap (λ z. paid u n (resv_sends p p f g z change.asked)) due in
        omega (arith, out, all, split, paths, resvs)

    pub none_to : (l : Lane) (s : Send) → is_changed p p f g l ≡ false → resv_send_to p p f g empty change.asked l ≡ Some s → ⊥
    none_to l s same e =
        let bad : None ≡ Some s = sym (off (ask_of l.style (toward p g l))) ∙ (λ i. resv_send_of p g l (sym same i) false change.asked (ask_of l.style (toward p g l))) ∙ e in cc
      where
        off : (o : Option Ask) → resv_send_of p g l false false change.asked o ≡ None
        off None = refl
        off (Some a) = refl

    -- ---- where each path is what it was, as far as is asked and told
    pub record AreAlike (k : SenderKey) : Type 0 where
      pub comes : (hop : NextHop) → comes_of hop (get g.paths k) ≡ comes_of hop (get f.paths k)
      pub offers_it : option_map path_offer (get g.paths k) ≡ option_map path_offer (get f.paths k)

    pub offer_alike : (k : OfferKey) → AreAlike (k.session, k.sender) → get (offers p g) k ≡ get (offers p f) k
    offer_alike k same =
        let key : SenderKey = (k.session, k.sender) in
        let at_same : offer_at g k ≡ offer_at f k = (λ j. or_else (option_map (own_offer (has (adverts_are j) key)) (get (senders_are j) key)) (same.offers_it j)) in
        offers_by_way p g k ∙ ap (λ (o : Option Offer). cond (is_way p k) o None) at_same ∙ sym (offers_by_way p f k)

    pub nothing_paid : ((k : SenderKey) → AreAlike k) → paid u n (outcome q (Deliver 0) u n f).sent ≡ 0
    nothing_paid same =
        let offered : offers p g ≡ offers p f = same_table offer_keys (offers p g) (offers p f) (λ k. offer_alike k (same (k.session, k.sender))) in
        let paths : path_sends p (offers p f) (offers p g) empty ≡ [] = ap (λ z. path_sends p (offers p f) z empty) offered ∙ no_paths p (offers p f) in
        let resvs : resv_sends p p f g empty change.asked ≡ [] =
        none_in (resv_sends p p f g empty change.asked)
        (λ s j.
        let w = in_filter_map (resv_send_to p p f g empty change.asked) s (keys (lanes g)) j in
        none_to w.0 s (lane_same w.0 (via_alike f g w.0.session w.0.hop (λ z. (same (w.0.session, z)).comes w.0.hop))) w.2) in
        let both = paid_both in
        let a = ap (paid u n) paths in
        let b = ap (paid u n) resvs in
        omega (arith, both, a, b)

    -- ---- a path that is renewed
    renewed_alike : (t : IsPut p c e m f.paths g.paths) (o : PathState) → get f.paths (m.session, t.sender) ≡ Some o → (k : SenderKey) → AreAlike k
    renewed_alike t o old k =
        let key : SenderKey = (m.session, t.sender) in
        let st : PathState = path_state p c e m t.tspec in
        let way = comes_in_told q u.net u.trees n m.session e t.sender t.tree in
        let inside = inward_there u.net bounds.net n way.0 m.session.group t.sender.addr way.1 in
        let end : way.0 ≡ y.end = same_end u.net way.0 y.end inside.0 lt inside.1 way.2 in
        let new = first.paths.sound.items y m t.sender t.tspec flies spelt t.of (way.1 ∙ ap Some end) in
        let was = first.paths.sound.facts n f key o at old in
        let of = (interfaces_are_ends u.net).iface_of_end n o.iface was.end was.at in
        let hop : was.sound.hop ≡ new.hop = one u.net bounds.net m.session.group t.sender.addr was.sound.hop new.hop was.sound.there new.there
        (ap (node_of u.net.ends) was.sound.to ∙ of.1 ∙ sym (ap (node_of u.net.ends) new.to)) in
        let iface : o.iface ≡ e = sym of.2 ∙ ap (iface_of u.net.ends) (sym was.sound.to ∙ ap (λ (h : LinkHop). h.to) hop ∙ new.to) in
        let addr : o.hop.addr ≡ m.hop.addr = was.sound.from ∙ ap (λ (h : LinkHop). addr_of u.net h.from) hop ∙ sym new.from in
        let flow : o.tspec ≡ t.tspec = one_flow u first.paths.hosts key o.tspec t.tspec was.sound.live new.live in
        let quiet : o.adspec ≡ m.adspec = mute.paths n f key o at old ∙ sym (mute.items y m flies spelt) in
        either (eq_by_cmp sender_keys.cmp k key)
        (λ yes.
        let same : k ≡ key = tied_same sender_keys k key yes in
        let now : get g.paths k ≡ Some st = ap (λ (z : Paths). get z k) t.is ∙ ap (get (put_in f.paths key st)) same ∙ get-put_in_same sender_keys f.paths key st in
        let before : get f.paths k ≡ Some o = ap (get f.paths) same ∙ old in
        record {
          comes = λ hop'. ap (comes_of hop') now ∙ (λ j. (sym iface j == hop'.0) && is_addr (sym addr j) hop'.1) ∙ sym (ap (comes_of hop') before);
          offers_it = ap (option_map path_offer) now ∙ (λ j. Some (record { tspec = sym flow j; local = false; advert = advert_of (sym quiet j) })) ∙ sym (ap (option_map path_offer) before);
        })
        (λ no.
        let same : get g.paths k ≡ get f.paths k = ap (λ (z : Paths). get z k) t.is ∙ get-put_in_other sender_keys f.paths key st k no in
        record { comes = λ hop'. ap (comes_of hop') same; offers_it = ap (option_map path_offer) same })

    -- nothing is paid for where the Path brings nothing new
    pub record BringsNew : Type 0 where
      pub put : IsPut p c e m f.paths g.paths
      pub new : get f.paths (m.session, put.sender) ≡ None

    pub new_or_not : BringsNew ⊎ (paid u n (outcome q (Deliver 0) u n f).sent ≡ 0)
    new_or_not =
        ⊎_elim (λ (same : g.paths ≡ f.paths). inr (nothing_paid (λ k. record { comes = λ hop. ap (λ (z : Paths). comes_of hop (get z k)) same; offers_it = ap (λ (z : Paths). option_map path_offer (get z k)) same })))
        (λ (t : IsPut p c e m f.paths g.paths). by t (get f.paths (m.session, t.sender)) refl) put_or
      where
        by : (t : IsPut p c e m f.paths g.paths) (o : Option PathState) → get f.paths (m.session, t.sender) ≡ o → BringsNew ⊎ (paid u n (outcome q (Deliver 0) u n f).sent ≡ 0)
        by t None old = inl (record { put = t; new = old })
        by t (Some o) old = inr (nothing_paid (renewed_alike t o old))
