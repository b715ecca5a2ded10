-- A Resv is delivered in a network that opens: it pays for all that is sent, and where it says what stands, nothing is.
use Rattle.std.proofs.Common.{◌≡◌, ℕ, suc, ◌+◌, ◌<◌, ◌≤◌, List, [], ◌∷◌, length, Bool, true, false, Option, None, Some, inl, ⊎_elim, arith, sym, refl, ap, subst, ◌∙◌}
use Rattle.std.specs.Prelude.{map as each, not, slice_get, ◌==◌}
use Rattle.std.specs.List.{flat_map}
use Rattle.std.specs.Option.{option_map}
use Rattle.std.proofs.lemmas.List.{length-append}
use Rattle.rsvp_base.specs.declared.part.Part.{Part}
use Rattle.rsvp_base.specs.declared.session.Session.{Session}
use Rattle.rsvp_base.specs.declared.style.StyleKind.{StyleKind}
use Rattle.rsvp_base.specs.Members.{In}
use Rattle.rsvp_base.specs.Sets.{is_none}
use Rattle.rsvp_base.specs.Table.{empty, get, has, keys}
use Rattle.rsvp_base.proofs.Fronts.{in_filter_map}
use Rattle.rsvp_base.proofs.Tables.{either}
use Rattle.rsvp_messages.specs.declared.ask.Ask.{Ask}
use Rattle.rsvp_messages.specs.declared.ask.Ask.TheVariants as ask
use Rattle.rsvp_messages.specs.declared.message.Message.TheVariants as message
use Rattle.rsvp_messages.specs.declared.message.ResvMsg.{ResvMsg}
use Rattle.rsvp_messages.specs.Proper.{IsProperAsk}
use Rattle.rsvp_messages.specs.Units.{AskedUnit, asked_units, fixed_unit}
use Rattle.style_rules.specs.Lines.{LineKey}
use Rattle.laws_bounds.proofs.Lists.{none_in, one_name}
use Rattle.laws_bounds.proofs.Ruling.{rule_in_parts}
use Rattle.laws_bounds.proofs.Stepping.{quiet_due}
use Rattle.laws_bounds.proofs.Tests.{parts_tested}
use Rattle.router_rules.specs.Act.{act, act_spelt, is_mine}
use Rattle.router_rules.specs.Asking.{ask_of}
use Rattle.router_rules.specs.Facts.{Facts, ResvState, resvs_of}
use Rattle.router_rules.specs.Inputs.{Came, Change, Input, Spelt}
use Rattle.router_rules.specs.Known.{Lane, known, lanes, named_as}
use Rattle.router_rules.specs.NodeConfig.{NodeConfig, own}
use Rattle.router_rules.specs.Offers.{offers}
use Rattle.router_rules.specs.Requests.{toward}
use Rattle.router_rules.specs.Rule.{Outcome}
use Rattle.router_rules.specs.Sends.{is_changed, path_sends, resv_send_of, resv_send_to, resv_sends}
use Rattle.router_rules.specs.Steps.{facts_then}
use Rattle.tree_model.specs.Networks.{end_at, iface_of, node_of, node_of_end}
use Rattle.tree_model.specs.Trees.{hops_of}
use Rattle.tree_model.proofs.Following.{number_same, same_number}
use Rattle.tree_model.proofs.Ifaces.{interfaces_are_ends}
use Rattle.network_model.specs.Bounds.{AreBounds, IsProperArrival}
use Rattle.network_model.specs.Links.{all_copies}
use Rattle.network_model.specs.Locals.{locals_of}
use Rattle.network_model.specs.Steps.{Deliver, Step, input_at, outcome, sent, sent_from, step, still}
use Rattle.network_model.specs.Worlds.{Item, World, config_of}
use Rattle.network_model.proofs.Machines.{in_arrived}
use Rattle.network_model.proofs.Quiet.{FollowsRule, outcome_by, outcome_quiet}
use Rattle.network_model.proofs.Stepping.{facts_after_made}
use Rattle.laws_network.proofs.Known.{came_there, of_some}
use Rattle.laws_network.proofs.Standing.{own_end}
use Rattle.settle_paths.proofs.PreviousHops.{ends_there}
use Rattle.settle_resvs.specs.Said.{HopKey, hop_over, resv_key}
use Rattle.settle_resvs.specs.SoftResvs.{SaysResv, line_key_of, resv_at}
use Rattle.settle_resvs.proofs.SoftResvs.{IsAsked, WasThere, resv_made, resv_source}
use Rattle.settle_passes.specs.Reserving.{IsKeptOver}
use Rattle.settle_passes.proofs.Deliveries.{came_by_delivery, known_self}
use Rattle.settle_senders.proofs.Following.{turns}
use Rattle.settle_senders.proofs.Knowing.{name_known, named_on}
use Rattle.settle_senders.specs.Following.{HasSenderNamed, IsFollowing}
use Rattle.settle_openings.specs.Opening.{IsGoingOn}
use Rattle.settle_openings.specs.Waves.{AreNested, AreWired, payers, payers_by, senders_over}
use Rattle.settle_openings.proofs.Going.{follows_next, some_session}
use Rattle.settle_openings.proofs.Kept.{IsReplacedBy, known_on, of_hop, renewed, stays_or_not}
use Rattle.settle_openings.proofs.WaveCounts.{flat_append}
use Rattle.settle_openings.proofs.WaveLanes.{StaysKept, then_left, toward_alike, vias_of}
use Rattle.settle_openings.proofs.WavePaid.{no_paths, offers_alike, paid, paid_sends}
use Rattle.settle_openings.proofs.WaveResvs.{pay, resvs_are_paid}

-- ---- where one node alone sends
module _ (q : ℕ) (t : Step) (u : World) (n most : ℕ) where
  abbrev pub IsFewAt : ℕ → Facts → Type 0
  IsFewAt j f = (j ≡ n → paid u j (outcome q t u j f).sent ≤ most) × ((j ≡ n → ⊥) → paid u j (outcome q t u j f).sent ≡ 0)

  parts : (k : ℕ) (f : Facts) (fs : List Facts) → length (flat_map (pay u) (sent_from q t u k (f ∷ fs))) ≡ paid u k (outcome q t u k f).sent + length (flat_map (pay u) (sent_from q t u (suc k) fs))
  parts k f fs =
      let a = ap length (flat_append (pay u) (all_copies u.net u.made k (outcome q t u k f).sent) (sent_from q t u (suc k) fs)) in
      let b = length-append (flat_map (pay u) (all_copies u.net u.made k (outcome q t u k f).sent)) (flat_map (pay u) (sent_from q t u (suc k) fs)) in
      omega (arith, a, b)

  later : (k : ℕ) (f : Facts) (fs : List Facts) → ((j : ℕ) (g : Facts) → slice_get (f ∷ fs) j ≡ Some g → IsFewAt (k + j) g) → (j : ℕ) (g : Facts) → slice_get fs j ≡ Some g → IsFewAt (suc k + j) g
  later k f fs few j g e = let z : k + suc j ≡ suc k + j = omega arith in subst (λ (d : ℕ). IsFewAt d g) z (few (suc j) g e)

  now : (k : ℕ) (f : Facts) (fs : List Facts) → ((j : ℕ) (g : Facts) → slice_get (f ∷ fs) j ≡ Some g → IsFewAt (k + j) g) → IsFewAt k f
  now k f fs few = let z : k + 0 ≡ k = omega arith in subst (λ (d : ℕ). IsFewAt d f) z (few 0 f refl)

  none_behind : (k : ℕ) (fs : List Facts) → n < k → ((j : ℕ) (g : Facts) → slice_get fs j ≡ Some g → IsFewAt (k + j) g) → length (flat_map (pay u) (sent_from q t u k fs)) ≡ 0
  none_behind k [] lt few = refl
  none_behind k (f ∷ fs) lt few =
      let a = (now k f fs few).1 (λ e. omega (arith, e, lt)) in
      let b = none_behind (suc k) fs (omega (arith, lt)) (later k f fs few) in
      let c = parts k f fs in
      omega (arith, a, b, c)

  few_from : (k : ℕ) (fs : List Facts) → ((j : ℕ) (g : Facts) → slice_get fs j ≡ Some g → IsFewAt (k + j) g) → length (flat_map (pay u) (sent_from q t u k fs)) ≤ most
  few_from k [] few = omega arith
  few_from k (f ∷ fs) few =
      let c = parts k f fs in
      either (k == n)
      (λ yes.
      let is : k ≡ n = same_number k n yes in
      let a = (now k f fs few).0 is in
      let b = none_behind (suc k) fs (omega (arith, is)) (later k f fs few) in
      omega (arith, a, b, c))
      (λ no.
      let a = (now k f fs few).1 (λ e. let bad : true ≡ false = sym (number_same k n e) ∙ no in cc) in
      let b = few_from (suc k) fs (later k f fs few) in
      omega (arith, a, b, c))

  pub sent_paid : ((j : ℕ) (g : Facts) → slice_get u.nodes j ≡ Some g → IsFewAt j g) → length (flat_map (pay u) (sent q t u)) ≤ most
  sent_paid few = few_from 0 u.nodes (λ j g e. let z : j ≡ 0 + j = omega arith in subst (λ (d : ℕ). IsFewAt d g) z (few j g e))

-- a proper Resv asks for something
asks_one : (a : Ask) → IsProperAsk a → (v : AskedUnit) × In v (asked_units a)
asks_one (ask.Wild scope flow) proper = (_, inl refl)
asks_one (ask.Shared part) proper = (_, inl refl)
asks_one (ask.Fixed list) proper = by list.rows proper.some
  where
    by : (es : List _) → 0 < length es → (v : AskedUnit) × In v (each fixed_unit es)
    by [] some = absurd (omega (arith, some))
    by (e ∷ es) some = (fixed_unit e, inl refl)

-- ---- a delivery brings something to the node of its end alone
module _ (q : ℕ) (u : World) (bounds : AreBounds q u) (y : Item) (arr : slice_get u.flight 0 ≡ Some y) where
  pub elsewhere : (n : ℕ) (f : Facts) → (n ≡ node_of u.net.ends y.end → ⊥) → outcome q (Deliver 0) u n f ≡ still f
  elsewhere n f apart =
      ⊎_elim (λ (z : (input_at (Deliver 0) u n ≡ None) × (outcome q (Deliver 0) u n f ≡ still f)). z.1)
      (λ (h : FollowsRule q (Deliver 0) u n f (outcome q (Deliver 0) u n f)).
      let c = came_by_delivery q 0 u bounds n h.input h.came in
      let same : c.item ≡ y = of_some c.item y (sym c.arrives ∙ arr) in
      absurd (apart (sym c.node ∙ sym (ap node_of_end c.there) ∙ ap (λ (z : Item). node_of u.net.ends z.end) same)))
      (outcome_quiet q (Deliver 0) u n f refl)

module _ (q : ℕ) (u : World) (r : IsGoingOn q u) (wired : AreWired u.net) (nested : AreNested u.net)
    (y : Item) (m : ResvMsg) (arr : slice_get u.flight 0 ≡ Some y) (spelt : y.arrival ≡ Spelt (message.Resv m)) where
  first : IsFollowing q some_session u
  first = r.follows some_session

  bounds : AreBounds q u
  bounds = first.paths.bounds

  abbrev n : ℕ
  n = node_of u.net.ends y.end

  abbrev e : ℕ
  e = iface_of u.net.ends y.end

  abbrev p : NodeConfig
  p = config_of q u.net u.trees n

  abbrev next : World
  next = step q (Deliver 0) u

  abbrev input : Input
  input = Came e (own p e) (Spelt (message.Resv m))

  flies : In y u.flight
  flies = in_arrived (Deliver 0) u y arr

  lt : y.end < length u.net.ends
  lt = (bounds.flight y flies).end

  came : input_at (Deliver 0) u n ≡ Some input
  came =
      let end : end_at u.net.ends n e ≡ Some y.end = (interfaces_are_ends u.net).end_of_iface y.end lt in
      let dst : y.dst ≡ own p e = first.addressed y m flies spelt ∙ sym (own_end q u.net u.trees n e y.end end) in
      came_there q u u (known_self q u bounds) y.end lt (Deliver 0) y arr refl ∙ (λ j. Some (Came e (dst j) (spelt j)))

  module _ (f : Facts) (at : slice_get u.nodes n ≡ Some f) where
    abbrev g : Facts
    g = then_left p u.clock (u.clock + 0) e m f

    abbrev after : Facts
    after = (outcome q (Deliver 0) u n f).facts

    is : after ≡ facts_then p p (u.clock + 0) input f
    is = ap (λ (o : Outcome). o.facts) (outcome_by q (Deliver 0) u n f input refl came)

    there : slice_get next.nodes n ≡ Some after
    there = facts_after_made q (Deliver 0) u n f at

    stays : StaysKept p u.clock (u.clock + 0) e m f
    stays = record {
      begins = bounds.facts n f at;
      lives = λ st k x h. let alive = ((bounds.facts n f at).alive.resvs st k x h).later in omega (arith, alive);
      named = λ st k x h z i.
          let o = of_hop u n st k x (first.sound.facts st n f k x at h) in
          let kept : IsKeptOver u o.hop x.part = record { resv = x; there = o.same u ∙ resv_made u n st k f at ∙ h; is = refl } in
          let a : HasSenderNamed u o.hop.to k.0 st z =
          subst (λ (w : Session × StyleKind). HasSenderNamed u o.hop.to w.0 w.1 z) (λ j. (o.session j, o.style j)) (first.names.kept o.hop x.part z o.there kept i) in
          let b = named_on q (Deliver 0) u bounds (turns q some_session u first) (known_on q u r some_session) o.hop.to k.0 st z a in
          ap (λ (w : Facts). has (named_as st (known w k.0)) z) (sym is) ∙ name_known next o.hop.to k.0 st z b after (ap (λ (w : ℕ). slice_get next.nodes w) o.node ∙ there);
      paths = paths_of (is_mine p e (own p e) (message.Resv m));
      wants = wants_of (is_mine p e (own p e) (message.Resv m));
      walls = walls_of (is_mine p e (own p e) (message.Resv m));
    }
      where
        paths_of : (b : Bool) → (act_spelt p (u.clock + 0) e (message.Resv m) b f).facts.paths ≡ f.paths
        paths_of true = refl
        paths_of false = refl

        wants_of : (b : Bool) → (act_spelt p (u.clock + 0) e (message.Resv m) b f).facts.wants ≡ f.wants
        wants_of true = refl
        wants_of false = refl

        walls_of : (b : Bool) → (act_spelt p (u.clock + 0) e (message.Resv m) b f).facts.walls ≡ f.walls
        walls_of true = refl
        walls_of false = refl

    same_offers : offers p g ≡ offers p f
    same_offers = offers_alike p f g (senders_of (is_mine p e (own p e) (message.Resv m))) (advertised_of (is_mine p e (own p e) (message.Resv m))) stays.paths
      where
        senders_of : (b : Bool) → (act_spelt p (u.clock + 0) e (message.Resv m) b f).facts.senders ≡ f.senders
        senders_of true = refl
        senders_of false = refl

        advertised_of : (b : Bool) → (act_spelt p (u.clock + 0) e (message.Resv m) b f).facts.advertised ≡ f.advertised
        advertised_of true = refl
        advertised_of false = refl

    abbrev change : Change
    change = act p (u.clock + 0) input f

    -- nobody pays for anything but the Resvs
    paid_resvs : paid u n (outcome q (Deliver 0) u n f).sent ≡ paid u n (resv_sends p p f g empty change.asked)
    paid_resvs =
        let out = ap (λ (o : Outcome). paid u n o.sent) (outcome_by q (Deliver 0) u n f input refl came) in
        let all = ap (paid u n) (rule_in_parts.loud p p (u.clock + 0) input f refl) in
        let due : change.fired ≡ empty = (quiet_due p (u.clock + 0) e (own p e) (Spelt (message.Resv m)) f).1 in
        let split = paid_sends u n p p f g change in
        let none : paid u n (path_sends p (offers p f) (offers p g) change.fired) ≡ 0 = ap (paid u n) ((λ j. path_sends p (offers p f) (same_offers j) (due j)) ∙ no_paths p (offers p f)) in
        let resvs : paid u n (resv_sends p p f g change.fired change.asked) ≡ paid u n (resv_sends p p f g empty change.asked) = ap (λ z. paid u n (resv_sends p p f g z change.asked)) due in
        omega (arith, out, all, split, none, resvs)

    -- ---- it pays for them
    pub paid_here : paid u n (outcome q (Deliver 0) u n f).sent ≤ length (payers u.net (locals_of u) y)
    paid_here =
        let proper : IsProperAsk m.ask = subst IsProperArrival spelt (bounds.flight y flies).proper in
        let v = asks_one m.ask proper in
        let x = (first.sound.items y m v.0 flies spelt v.1).sound in
        let few = resvs_are_paid q u bounds first.paths.sound wired nested y.end m f at stays x.hop x.there x.from x.to change.asked in
        let same = paid_resvs in
        let who : length (payers u.net (locals_of u) y) ≡ length (senders_over u.net (locals_of u) m.session y.end m.hop.addr) = ap (λ z. length (payers_by u.net (locals_of u) y.end z)) spelt in
        omega (arith, few, same, who)

    -- ---- where it says what stands, there are none
    module _ (idle : (k : HopKey) (v : Part) → In (hop_over k) (hops_of u.net.hops k.session.group) → SaysResv u.net (resv_key u.net k) y v → IsKeptOver u k v) where
      abbrev part_in : Option ResvState → Option Part
      part_in o = option_map (λ (x : ResvState). x.part) o

      same_part : (st : StyleKind) (key : LineKey) → part_in (get (resvs_of st f) key) ≡ part_in (get (resvs_of st g) key)
      same_part st key = by (get (resvs_of st f) key) (get (resvs_of st g) key) refl refl
        where
          after_is : resv_at next n st key ≡ get (resvs_of st g) key
          after_is = resv_made next n st key after there ∙ ap (λ (z : Facts). get (resvs_of st z) key) is

          by : (o v : Option ResvState) → get (resvs_of st f) key ≡ o → get (resvs_of st g) key ≡ v → part_in (get (resvs_of st f) key) ≡ part_in (get (resvs_of st g) key)
          by (Some x) v h d =
              let o = of_hop u n st key x (first.sound.facts st n f key x at h) in
              let was : resv_at u (node_of u.net.ends o.hop.to) o.hop.style (line_key_of u.net (resv_key u.net o.hop)) ≡ Some x = o.same u ∙ resv_made u n st key f at ∙ h in
              ⊎_elim
              (λ (on : resv_at next (node_of u.net.ends o.hop.to) o.hop.style (line_key_of u.net (resv_key u.net o.hop)) ≡ Some x).
              ap part_in (h ∙ sym (sym after_is ∙ sym (o.same next) ∙ on)))
              (λ (new : IsReplacedBy q u r o.hop o.there x).
              let mine : new.item ≡ y = of_some new.item y (sym new.arrives ∙ arr) in
              let name = one_name x.part.senders (some_of (is_none x.part.senders) ((bounds.facts n f at).shapes.resvs st key x h).style.named) in
              let says = (r.names.kept o.hop x.part name.0 o.there (record { resv = x; there = was; is = refl }) name.1).0 new.item new.one.resv (in_arrived (Deliver 0) u new.item new.arrives) new.one.spelt new.one.over in
              let said : SaysResv u.net (resv_key u.net o.hop) y says.0 = subst (λ (z : Item). SaysResv u.net (resv_key u.net o.hop) z says.0) mine says.1 in
              let old = idle o.hop says.0 o.there said in
              let same : old.resv ≡ x = of_some old.resv x (sym old.there ∙ was) in
              let now = renewed q u r o.hop o.there y arr says.0 said in
              let then : get (resvs_of st g) key ≡ Some now.resv = sym after_is ∙ sym (o.same next) ∙ now.kept in
              ap part_in h ∙ ap (λ (z : ResvState). Some z.part) (sym same) ∙ ap Some (old.is ∙ sym now.is) ∙ sym (ap part_in then))
              (stays_or_not q u r o.hop o.there x was)
            where
              some_of : (b : Bool) → not b ≡ true → b ≡ false
              some_of true t = cc
              some_of false t = refl
          by None None h d = ap part_in (h ∙ sym d)
          by None (Some x) h d =
              let now : resv_at next n st key ≡ Some x = after_is ∙ d in
              let s = (follows_next q u r some_session).sound.facts st n after key x there (ap (λ (z : Facts). get (resvs_of st z) key) is ∙ d) in
              let o = of_hop next n st key x s in
              let inside = (ends_there u.net bounds.net o.hop.session.group (hop_over o.hop) o.there).0 in
              let none : resv_at u (node_of u.net.ends o.hop.to) o.hop.style (line_key_of u.net (resv_key u.net o.hop)) ≡ None = o.same u ∙ resv_made u n st key f at ∙ h in
              ⊎_elim
              (λ (old : WasThere u.net (resv_key u.net o.hop) u x). let bad : None ≡ Some old.resv = sym none ∙ old.there in absurd (cc))
              (λ (new : IsAsked u.net (resv_key u.net o.hop) (Deliver 0) u x).
              let mine : new.item ≡ y = of_some new.item y (sym new.arrives ∙ arr) in
              let kept = idle o.hop new.part o.there (subst (λ (z : Item). SaysResv u.net (resv_key u.net o.hop) z new.part) mine new.says) in
              let bad : None ≡ Some kept.resv = sym none ∙ kept.there in absurd (cc))
              (resv_source q u (resv_key u.net o.hop) inside (Deliver 0) u refl (known_self q u bounds) x (o.same next ∙ now))

      same_lane : (l : Lane) → is_changed p p f g l ≡ false
      same_lane l =
          let same = toward_alike p f g l (vias_of p u.clock (u.clock + 0) e m f stays l) stays.wants stays.walls (λ k. inl (same_part l.style (l.session, k))) in
          ap not (parts_tested (toward p f l) (toward p g l) same)

      pub nothing_here : paid u n (outcome q (Deliver 0) u n f).sent ≡ 0
      nothing_here =
          let none : resv_sends p p f g empty change.asked ≡ [] =
          none_in (resv_sends p p f g empty change.asked)
          (λ s j.
          let w = in_filter_map (resv_send_to p p f g empty change.asked) s (keys (lanes g)) j in
          let bad : None ≡ Some s = sym (off w.0 (ask_of w.0.style (toward p g w.0))) ∙ (λ i. resv_send_of p g w.0 (sym (same_lane w.0) i) false change.asked (ask_of w.0.style (toward p g w.0))) ∙ w.2 in
          cc) in
          paid_resvs ∙ ap (paid u n) none
        where
          off : (l : Lane) (o : Option Ask) → resv_send_of p g l false false change.asked o ≡ None
          off l None = refl
          off l (Some a) = refl

  -- ---- so it is in the network
  pub resv_pays : length (flat_map (pay u) (sent q (Deliver 0) u)) ≤ length (payers u.net (locals_of u) y)
  resv_pays =
      sent_paid q (Deliver 0) u n (length (payers u.net (locals_of u) y))
      (λ j f at. (
        λ same. subst (λ (z : ℕ). paid u z (outcome q (Deliver 0) u z f).sent ≤ length (payers u.net (locals_of u) y)) (sym same) (paid_here f (subst (λ (z : ℕ). slice_get u.nodes z ≡ Some f) same at)),
        λ apart. ap (λ (o : Outcome). paid u j o.sent) (elsewhere q u bounds y arr j f apart),
      ))

  pub idle_pays : ((k : HopKey) (v : Part) → In (hop_over k) (hops_of u.net.hops k.session.group) → SaysResv u.net (resv_key u.net k) y v → IsKeptOver u k v) → length (flat_map (pay u) (sent q (Deliver 0) u)) ≤ 0
  idle_pays idle =
      sent_paid q (Deliver 0) u n 0
      (λ j f at. (
        λ same.
            let none = nothing_here f (subst (λ (z : ℕ). slice_get u.nodes z ≡ Some f) same at) idle in
            subst (λ (z : ℕ). paid u z (outcome q (Deliver 0) u z f).sent ≤ 0) (sym same) (omega (arith, none)),
        λ apart. ap (λ (o : Outcome). paid u j o.sent) (elsewhere q u bounds y arr j f apart),
      ))
