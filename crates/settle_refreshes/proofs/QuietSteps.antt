-- Worlds that have settled, one after the other: what the step between them sends.
use Rattle.std.proofs.Common.{◌≡◌, ℕ, suc, ◌+◌, ◌≤◌, List, [], ◌∷◌, length, Bool, true, false, cond, Option, None, Some, inl, inr, ⊎_elim, arith, sym, refl, ap, subst, ◌∙◌}
use Rattle.std.specs.Prelude.{not, slice_get, sum_by}
use Rattle.std.specs.List.{filter, range_with_len}
use Rattle.std.specs.Option.{option_map}
use Rattle.std.specs.Ordering.{is_lt}
use Rattle.std.proofs.lemmas.List.{length-append}
use Rattle.std.proofs.lemmas.List.Sums.{sum_by-cons}
use Rattle.rsvp_base.specs.declared.addr.Addr.{Addr}
use Rattle.rsvp_base.specs.declared.session.Sender.{Sender}
use Rattle.rsvp_base.specs.declared.session.Session.{Session}
use Rattle.rsvp_base.specs.Members.{In}
use Rattle.rsvp_base.specs.Orders.{sessions}
use Rattle.rsvp_base.specs.Sets.{Set}
use Rattle.rsvp_base.specs.Table.{Table, empty, get, has}
use Rattle.rsvp_base.specs.TokenBucket.{TokenBucket}
use Rattle.rsvp_base.proofs.Members.{in_each, in_filter}
use Rattle.rsvp_base.proofs.SetLaws.{and_made}
use Rattle.rsvp_base.proofs.Tables.{tied_same}
use Rattle.rsvp_messages.specs.declared.message.Message.TheVariants as message
use Rattle.rsvp_messages.specs.declared.message.PathMsg.{PathMsg}
use Rattle.rsvp_messages.specs.declared.message.ResvMsg.{ResvMsg}
use Rattle.rsvp_messages.specs.Units.{ask_style}
use Rattle.router_rules.specs.declared.answers.Heard.TheVariants as heard
use Rattle.router_rules.specs.Act.{act, act_spelt, is_mine}
use Rattle.router_rules.specs.Asking.{act_resv, answered, ask_of, asked_of, asker_of, err_place, err_places, errors_in_order, heard_of, taking}
use Rattle.router_rules.specs.Facts.{Facts, SenderKey, sender_keys}
use Rattle.router_rules.specs.Inputs.{Came, Change, ErrMsg, ErrSend, Input, OfPath, OfResv, Send, Spelt, Wait, in_order, put_in_order}
use Rattle.router_rules.specs.Known.{Lane, known, lanes}
use Rattle.router_rules.specs.NodeConfig.{NodeConfig, own}
use Rattle.router_rules.specs.Offers.{Offer, OfferKey, advert_by, advert_of, offers, own_advert}
use Rattle.router_rules.specs.Requests.{toward}
use Rattle.router_rules.specs.Rule.{Outcome, is_silent, rule}
use Rattle.router_rules.specs.Sends.{is_new_offer, told_at}
use Rattle.router_rules.specs.Steps.{sent_then}
use Rattle.router_rules.proofs.AdspecPath.Same.{same_is_equal}
use Rattle.laws_bounds.proofs.Knowing.{known_and_via}
use Rattle.laws_bounds.proofs.Lists.{none_in}
use Rattle.laws_bounds.proofs.Stepping.{offer_of, offer_source, offered, quiet_due}
use Rattle.laws_bounds.proofs.Tests.{addr_tested, flow_tested}
use Rattle.laws_steps.specs.AcceptingLaws.{IsTakenWhole, came_resv}
use Rattle.laws_steps.proofs.Admitting.{what_is_accepted}
use Rattle.laws_network.specs.Sources.{IsLocalOffer, IsPathOffer}
use Rattle.tree_model.specs.declared.hops.LinkHop.{LinkHop}
use Rattle.tree_model.specs.declared.locals.LocalSender.{LocalSender}
use Rattle.tree_model.specs.Networks.{Net, iface_of, node_of, node_of_end}
use Rattle.tree_model.specs.Trees.{tree}
use Rattle.tree_model.specs.Wants.{Locals, live, of_session}
use Rattle.tree_model.proofs.Ifaces.{interfaces_are_ends}
use Rattle.network_model.specs.Links.{all_copies}
use Rattle.network_model.specs.Locals.{IsLive, locals_of}
use Rattle.network_model.specs.Steps.{Deliver, Piece, input_at, ms_of, outcome, sent, sent_from, step, still, word_for}
use Rattle.network_model.specs.Worlds.{Item, World, config_of}
use Rattle.network_model.proofs.Machines.{in_arrived}
use Rattle.network_model.proofs.Quiet.{FollowsRule, IsCame, input_found, outcome_quiet, IsWaited}
use Rattle.network_model.proofs.Stepping.{copies_found, facts_after_made, sent_found}
use Rattle.settle_adverts.specs.Adverts.{AreAdvertsExact}
use Rattle.settle_adverts.proofs.Settling.{told_again}
use Rattle.settle_paths.specs.Known.{IsSameNet}
use Rattle.settle_paths.proofs.Known.{has_some, of_some}
use Rattle.settle_paths.proofs.LiveSenders.{one_flow}
use Rattle.settle_paths.proofs.Standing.{own_end}
use Rattle.settle_paths.specs.PreviousHops.{IsPrevious, Reaches}
use Rattle.settle_paths.proofs.PreviousHops.{ahead, previous_hops_are_all_hops}
use Rattle.settle_resvs.specs.GoalByIface.{goal_at}
use Rattle.settle_resvs.proofs.Accepting.{can_be_taken}
use Rattle.network_demand.specs.Overhead.{node_overhead, overhead}
use Rattle.settle_refreshes.specs.Refreshes.{HasOnlyRefreshes, IsRefresh}
use Rattle.settle_refreshes.proofs.Resting.{IsAtRest, ready, some_session}
use Rattle.settle_refreshes.proofs.Resting as resting
use Rattle.settle_refreshes.proofs.QuietSends.{IsUnchanged, after, nothing_sent, sends_refreshes}
use Rattle.settle_refreshes.proofs.NodeCounts.{few_sent}

-- ---- a world at rest, in which what each path is told is exact
pub record IsToldAtRest (q : ℕ) (w u : World) : Type 0 where
  pub rest : IsAtRest q w u
  pub told : AreAdvertsExact u

module _ (q : ℕ) (w u : World) (a : IsToldAtRest q w u) where
  -- what is offered is what a live sender sends
  pub live_offer : (n : ℕ) (f : Facts) (p : NodeConfig) (k : OfferKey) (o : Offer) → slice_get u.nodes n ≡ Some f → get (offers p f) k ≡ Some o → IsLive u (k.session, k.sender) o.tspec
  live_offer n f p k o at e =
      ⊎_elim
      (λ (x : IsLocalOffer f k o). record { node = n; senders = f.senders; at = ap (option_map (λ (z : Facts). z.senders)) at; sends = x.there })
      (λ (x : IsPathOffer f k o). subst (λ (z : TokenBucket). IsLive u (k.session, k.sender) z) (sym x.tspec) ((ready q w u a.rest).sound.facts n f (k.session, k.sender) x.path at x.there).sound.live)
      (offer_source f k o (offer_of p f k o e))

-- a live sender of a session is one of the senders
of_live : (l : Locals) (s : Session) (x : Sender) → In x (live l s) → (z : LocalSender) × In z l.senders × (z.session ≡ s) × (z.sender ≡ x)
of_live l s x i =
    let r = in_each (λ (z : LocalSender). z.sender) x (filter (of_session s) l.senders) i in
    let t = in_filter (of_session s) r.0 l.senders r.1 in
    (r.0, t.0, sym (tied_same sessions s r.0.session t.1), sym r.2)

-- ---- from one to the other
module _ (q : ℕ) (w u v : World) (a : IsToldAtRest q w u) (b : IsToldAtRest q w v) where
  same_net : IsSameNet u v
  same_net = resting.same_net q w u v a.rest b.rest

  module _ (n : ℕ) (f : Facts) (at : slice_get u.nodes n ≡ Some f) (c : ℕ) (i : Input) where
    abbrev p : NodeConfig
    p = config_of q u.net u.trees n

    abbrev g : Facts
    g = (rule p p c i f).facts

    module _ (at' : slice_get v.nodes n ≡ Some g) where
      -- the node knew whom it knows
      knew : (s : Session) (x : Sender) → has (known g s) x ≡ true → In x (live (locals_of u) s) × (has (known f s) x ≡ true)
      knew s x e =
          let r = ((previous_hops_are_all_hops v (ready q w v b.rest).bounds.net (ready q w v b.rest).locals (ready q w v b.rest).sound (ready q w v b.rest).complete).known n g s x at').0 e in
          let z = subst (λ (z : Net × Locals). In x (live z.1 s) × Reaches z.0 n s.group x.addr) (λ j. (same_net.net j, same_net.locals j)) r in
          (z.0, ((previous_hops_are_all_hops u (ready q w u a.rest).bounds.net (ready q w u a.rest).locals (ready q w u a.rest).sound (ready q w u a.rest).complete).known n f s x at).1 z)

      still_live : (k : SenderKey) (t : TokenBucket) → IsLive u k t → IsLive v k t
      still_live k t l = record { node = l.node; senders = l.senders; at = same_net.senders l.node ∙ l.at; sends = l.sends }

      -- with the ADSPEC with which it offered it
      same_senders : g.senders ≡ f.senders
      same_senders = of_some g.senders f.senders (sym (ap (option_map (λ (z : Facts). z.senders)) at') ∙ same_net.senders n ∙ ap (option_map (λ (z : Facts). z.senders)) at)

      same_marks : g.advertised ≡ f.advertised
      same_marks = of_some g.advertised f.advertised (sym (ap (option_map (λ (z : Facts). z.advertised)) at') ∙ same_net.advertised n ∙ ap (option_map (λ (z : Facts). z.advertised)) at)

      same_advert : (k : OfferKey) (o before : Offer) → get (offers p g) k ≡ Some o → get (offers p f) k ≡ Some before → o.advert ≡ before.advert
      same_advert k o before e was =
          let key : SenderKey = (k.session, k.sender) in
          ⊎_elim
          (λ (x : IsLocalOffer g k o).
          ⊎_elim (λ (y : IsLocalOffer f k before). x.advert ∙ ap (λ (z : Set sender_keys). own_advert (has z key)) same_marks ∙ sym y.advert)
          (λ (y : IsPathOffer f k before).
          let no : Some o.tspec ≡ None = sym x.there ∙ ap (λ (z : Table sender_keys TokenBucket). get z key) same_senders ∙ y.no_local in absurd (cc))
          (offer_source f k before (offer_of p f k before was)))
          (λ (x : IsPathOffer g k o).
          ⊎_elim
          (λ (y : IsLocalOffer f k before).
          let no : Some before.tspec ≡ None = sym y.there ∙ ap (λ (z : Table sender_keys TokenBucket). get z key) (sym same_senders) ∙ x.no_local in absurd (cc))
          (λ (y : IsPathOffer f k before).
          x.advert ∙ ap advert_of (b.told.kept n g key x.path at' x.there ∙ told_again u v key n same_net ∙ sym (a.told.kept n f key y.path at y.there)) ∙ sym y.advert)
          (offer_source f k before (offer_of p f k before was)))
          (offer_source g k o (offer_of p g k o e))

      not_new : (k : OfferKey) (o : Offer) → get (offers p g) k ≡ Some o → is_new_offer p k.iface o (get (offers p f) k) ≡ false
      not_new k o e =
          let of = offered p g k o e in
          let y = has_some (get (offers p f) k) (resting.offers_on q w u v a.rest b.rest n f at c i at' f k of.way (knew k.session k.sender of.known_one).1) in
          let now = live_offer q w v b n g p k o at' e in
          let before = live_offer q w u a n f p k y.0 at y.1 in
          let same : o.tspec ≡ y.0.tspec = one_flow v (ready q w v b.rest).locals (k.session, k.sender) o.tspec y.0.tspec now (still_live (k.session, k.sender) y.0.tspec before) in
          let told : told_at p k.iface o ≡ told_at p k.iface y.0 =
          ap (advert_by (slice_get p.ifaces k.iface)) (same_advert k o y.0 e y.1) in
          ap (is_new_offer p k.iface o) y.1 ∙ ap not (and_made _ _ (flow_tested o.tspec y.0.tspec same) ((same_is_equal (told_at p k.iface o) (told_at p k.iface y.0)).1 told))

      -- what goes toward a previous hop is what went
      same_toward : (l : Lane) (h : LinkHop) → IsPrevious u.net n l.session l.hop h → toward p f l ≡ toward p (after p c i f) l
      same_toward = resting.same_toward q w u v a.rest b.rest n f at c i at'

      way_then : (l : Lane) → has (lanes g) l ≡ true → (x : Sender) × (h : LinkHop) × IsPrevious u.net n l.session l.hop h × In h (tree u.net.hops l.session.group x.addr)
          × In x (live (locals_of u) l.session)
      way_then l e =
          let r = (known_and_via.lanes_by g l).0 e in
          let z = ahead v n g (ready q w v b.rest).sound at' l.session l.hop r.0 r.1 in (
            r.0,
            z.way,
            subst (λ (net : Net). IsPrevious net n l.session l.hop z.way) same_net.net z.previous,
            subst (λ (net : Net). In z.way (tree net.hops l.session.group r.0.addr)) same_net.net z.there,
            subst (λ (k : Locals). In r.0 (live k l.session)) same_net.locals z.live,
          )

      pub unchanged : is_silent i ≡ false → (act p c i f).errors ≡ [] → (act p c i f).confs ≡ [] → (act p c i f).asked ≡ None → IsUnchanged p c i f
      unchanged loud errors confs asked = record {
        loud = loud;
        errors = errors;
        confs = confs;
        asked = asked;
        offered = resting.still_offered q w u v a.rest b.rest n f at c i at';
        not_new = not_new;
        went = λ l e.
            let r = (known_and_via.lanes_by f l).0 e in
            let z = ahead u n f (ready q w u a.rest).sound at l.session l.hop r.0 r.1 in
            same_toward l z.way z.previous;
        goes = λ l e. let r = way_then l e in same_toward l r.1 r.2;
      }

      -- so what it sends is no more than its part of the overhead
      pub few_of_node : IsUnchanged p c i f → length (all_copies u.net u.made n (sent_then p p c i f)) ≤ node_overhead u.net (locals_of u) n
      few_of_node same =
          few_sent q u.net u.trees n c i f (ready q w u a.rest).bounds.net (ready q w u a.rest).bounds.hosts (locals_of u) u.made same
          (λ k o e.
          let z = of_live (locals_of u) k.session k.sender (knew k.session k.sender (offered p g k o e).known_one).0 in
          record { sender = z.0; there = z.1; session = z.2; name = z.3 })
          (λ lane e.
          let r = way_then lane e in
          let z = of_live (locals_of u) lane.session r.0 r.4 in
          record {
            hop = r.1;
            previous = r.2;
            sender = z.0;
            there = z.1;
            session = z.2;
            over = subst (λ (d : Session × Sender). In r.1 (tree u.net.hops d.0.group d.1.addr)) (λ j. (sym z.2 j, sym z.3 j)) r.3;
            wanted = resting.toward_now q w u v a.rest b.rest n f at c i at' lane r.1 r.2;
          })

-- ---- an input that is a refresh
put_some : (x : ErrSend) (ys : List ErrSend) → (z : ErrSend) × (zs : List ErrSend) × (put_in_order err_places err_place x ys ≡ z ∷ zs)
put_some x [] = (x, [], refl)
put_some x (y ∷ ys) = by (is_lt (err_places.cmp (err_place y) (err_place x)))
  where
    by : (b : Bool) → (z : ErrSend) × (zs : List ErrSend) × (cond b (y ∷ put_in_order err_places err_place x ys) (x ∷ y ∷ ys) ≡ z ∷ zs)
    by true = (y, put_in_order err_places err_place x ys, refl)
    by false = (x, y ∷ ys, refl)

not_answered : (e : ErrMsg) → answered e ≡ heard.Taken → ⊥
not_answered (OfPath m) e = cc
not_answered (OfResv m) e = cc

-- where a Resv is heard as taken, nobody is told of an error
heard_none : (errors : List ErrSend) (out : Bool) → heard_of (errors_in_order errors) out ≡ heard.Taken → errors ≡ []
heard_none [] out e = refl
heard_none (x ∷ xs) out e =
    let r = put_some x (in_order err_places err_place xs) in
    absurd (not_answered r.0.error (ap (λ (zs : List ErrSend). heard_of zs out) (sym r.2) ∙ e))

-- it makes no error and no confirmation
pub record IsUnanswered (p : NodeConfig) (c : ℕ) (i : Input) (f : Facts) : Type 0 where
  pub loud : is_silent i ≡ false
  pub errors : (act p c i f).errors ≡ []
  pub confs : (act p c i f).confs ≡ []
  pub asked : (act p c i f).asked ≡ None

module _ (p : NodeConfig) (c e : ℕ) (dst : Addr) (m : PathMsg) (f : Facts) where
  path_errors : (b : Bool) → (act_spelt p c e (message.Path m) b f).errors ≡ []
  path_errors true = refl
  path_errors false = refl

  path_confs : (b : Bool) → (act_spelt p c e (message.Path m) b f).confs ≡ []
  path_confs true = refl
  path_confs false = refl

  path_asked : (b : Bool) → (act_spelt p c e (message.Path m) b f).asked ≡ None
  path_asked true = refl
  path_asked false = refl

  path_unanswered : IsUnanswered p c (Came e dst (Spelt (message.Path m))) f
  path_unanswered = record {
    loud = refl;
    errors = path_errors (is_mine p e dst (message.Path m));
    confs = path_confs (is_mine p e dst (message.Path m));
    asked = path_asked (is_mine p e dst (message.Path m));
  }

module _ (q : ℕ) (w u : World) (rest : IsAtRest q w u) (y : Item) (m : ResvMsg) (there : In y u.flight) (spelt : y.arrival ≡ Spelt (message.Resv m)) (none : m.confirm ≡ None) (f : Facts)
    (at : slice_get u.nodes (node_of u.net.ends y.end) ≡ Some f) where
  abbrev place : NodeConfig
  place = config_of q u.net u.trees (node_of u.net.ends y.end)

  abbrev e : ℕ
  e = iface_of u.net.ends y.end

  to_own : y.dst ≡ own place e
  to_own =
      let lt = ((ready q w u rest).bounds.flight y there).end in
      (rest.steady some_session).addressed y m there (omega arith) spelt
      ∙ sym (own_end q u.net u.trees (node_of u.net.ends y.end) e y.end ((interfaces_are_ends u.net).end_of_iface y.end lt))

  taken : IsTakenWhole place place u.clock e m f (goal_at u.net (locals_of u) (node_of u.net.ends y.end))
  taken =
      what_is_accepted.whole place place u.clock u.clock e m f (goal_at u.net (locals_of u) (node_of u.net.ends y.end)) ((ready q w u rest).bounds.facts (node_of u.net.ends y.end) f at)
      (can_be_taken q m.session u (rest.steady m.session).ready y m there spelt refl f at)

  act_is : act place u.clock (came_resv place e m) f ≡ act_resv place u.clock e m f
  act_is = ap (λ (z : Bool). act_spelt place u.clock e (message.Resv m) z f) (addr_tested (own place e) (own place e) refl)

  heard_is : heard_of (errors_in_order (taking place u.clock e m f).errors) (taking place u.clock e m f).left_out ≡ heard.Taken
  heard_is = ap (λ (k : Change). k.heard) (sym act_is) ∙ taken.heard_it

  resv_unanswered : IsUnanswered place u.clock (Came e y.dst y.arrival) f
  resv_unanswered =
      subst (λ (z : Input). IsUnanswered place u.clock z f) (λ j. Came e (sym to_own j) (sym spelt j))
      (record {
        loud = refl;
        errors = ap (λ (k : Change). k.errors) act_is ∙ heard_none (taking place u.clock e m f).errors (taking place u.clock e m f).left_out heard_is;
        confs = ap (λ (k : Change). k.confs) act_is;
        asked = ap (λ (k : Change). k.asked) act_is ∙ ap (λ (z : Option Addr). asked_of (asker_of place u.clock e m) (ask_of (ask_style m.ask) (taking place u.clock e m f).taken) z) none;
      })

-- ---- a delivery of a refresh sends nothing
module _ (q : ℕ) (w u : World) (a : IsToldAtRest q w u) (b : IsToldAtRest q w (step q (Deliver 0) u)) (only : HasOnlyRefreshes u) where
  unanswered : (n : ℕ) (f : Facts) (i : Input) → slice_get u.nodes n ≡ Some f → IsCame (Deliver 0) u n i → IsUnanswered (config_of q u.net u.trees n) u.clock i f
  unanswered n f i at z =
      let flies : In z.item u.flight = in_arrived (Deliver 0) u z.item z.arrives in
      let node : node_of u.net.ends z.item.end ≡ n = ap node_of_end z.there ∙ z.node in
      let there : slice_get u.nodes (node_of u.net.ends z.item.end) ≡ Some f = ap (slice_get u.nodes) node ∙ at in
      let e : ℕ = iface_of u.net.ends z.item.end in
      let done : IsUnanswered (config_of q u.net u.trees (node_of u.net.ends z.item.end)) u.clock (Came e z.item.dst z.item.arrival) f =
      ⊎_elim
      (λ (x : (m : PathMsg) × (z.item.arrival ≡ Spelt (message.Path m))).
      subst (λ (d : Input). IsUnanswered (config_of q u.net u.trees (node_of u.net.ends z.item.end)) u.clock d f) (λ j. Came e z.item.dst (sym x.1 j))
      (path_unanswered (config_of q u.net u.trees (node_of u.net.ends z.item.end)) u.clock e z.item.dst x.0 f))
      (λ (x : (m : ResvMsg) × (z.item.arrival ≡ Spelt (message.Resv m)) × (m.confirm ≡ None)). resv_unanswered q w u a.rest z.item x.0 flies x.1 x.2 f there)
      (only z.item flies) in
      subst (λ (d : ℕ × Input). IsUnanswered (config_of q u.net u.trees d.0) u.clock d.1 f) (λ j. (node j, sym z.is j)) done

  quiet_node : (n : ℕ) (f : Facts) → slice_get u.nodes n ≡ Some f → (outcome q (Deliver 0) u n f).sent ≡ []
  quiet_node n f at =
      ⊎_elim
      (λ (h : (input_at (Deliver 0) u n ≡ None) × (outcome q (Deliver 0) u n f ≡ still f)). ap (λ (o : Outcome). o.sent) h.1)
      (λ (h : FollowsRule q (Deliver 0) u n f (outcome q (Deliver 0) u n f)).
      ⊎_elim (λ (t : IsWaited (Deliver 0) u n h.input). let bad = t.step in absurd (cc))
      (λ (z : IsCame (Deliver 0) u n h.input).
      let p : NodeConfig = config_of q u.net u.trees n in
      let clock : u.clock + ms_of (Deliver 0) ≡ u.clock = omega arith in
      let is : outcome q (Deliver 0) u n f ≡ rule p p u.clock h.input f = h.is ∙ ap (λ (c : ℕ). rule p p c h.input f) clock in
      let un = unanswered n f h.input at z in
      let at' : slice_get (step q (Deliver 0) u).nodes n ≡ Some (rule p p u.clock h.input f).facts = facts_after_made q (Deliver 0) u n f at ∙ ap (λ (o : Outcome). Some o.facts) is in
      let same : IsUnchanged p u.clock h.input f = unchanged q w u (step q (Deliver 0) u) a b n f at u.clock h.input at' un.loud un.errors un.confs un.asked in
      let due : (act p u.clock h.input f).fired ≡ empty = ap (λ (d : Input). (act p u.clock d f).fired) z.is ∙ (quiet_due p u.clock (iface_of u.net.ends z.item.end) z.item.dst z.item.arrival f).1 in
      ap (λ (o : Outcome). o.sent) is ∙ nothing_sent p u.clock h.input f same due)
      (input_found (Deliver 0) u n h.input refl h.came))
      (outcome_quiet q (Deliver 0) u n f refl)

  pub delivery_sends_nothing : sent q (Deliver 0) u ≡ []
  delivery_sends_nothing =
      none_in (sent q (Deliver 0) u)
      (λ x i.
      let r = sent_found q (Deliver 0) u x i in
      subst (λ (ss : List Send). In x (all_copies u.net u.made r.0 ss)) (quiet_node r.0 r.1 r.2) r.3)

-- ---- a piece of a wait sends the refresh overhead at most, and refreshes alone
module _ (q ms : ℕ) (w u : World) (a : IsToldAtRest q w u) (b : IsToldAtRest q w (step q (Piece ms) u)) where
  abbrev waits : ℕ → Input
  waits n = Wait ms (word_for u.words n)

  unchanged_node : (n : ℕ) (f : Facts) → slice_get u.nodes n ≡ Some f → IsUnchanged (config_of q u.net u.trees n) (u.clock + ms) (waits n) f
  unchanged_node n f at = unchanged q w u (step q (Piece ms) u) a b n f at (u.clock + ms) (waits n) (facts_after_made q (Piece ms) u n f at) refl refl refl refl

  few_from : (k : ℕ) (fs : List Facts) → ((j : ℕ) (f : Facts) → slice_get fs j ≡ Some f → slice_get u.nodes (k + j) ≡ Some f)
      → length (sent_from q (Piece ms) u k fs) ≤ sum_by (node_overhead u.net (locals_of u)) (range_with_len k (length fs))
  few_from k [] there = omega arith
  few_from k (f ∷ fs) there =
      let at : slice_get u.nodes k ≡ Some f = (let z : k + 0 ≡ k = omega arith in subst (λ (d : ℕ). slice_get u.nodes d ≡ Some f) z (there 0 f refl)) in
      let here : length (all_copies u.net u.made k (outcome q (Piece ms) u k f).sent) ≤ node_overhead u.net (locals_of u) k =
      few_of_node q w u (step q (Piece ms) u) a b k f at (u.clock + ms) (waits k) (facts_after_made q (Piece ms) u k f at) (unchanged_node k f at) in
      let next : suc k ≡ k + 1 = omega arith in
      let rest : length (sent_from q (Piece ms) u (suc k) fs) ≤ sum_by (node_overhead u.net (locals_of u)) (range_with_len (k + 1) (length fs)) =
      subst (λ (d : ℕ). length (sent_from q (Piece ms) u (suc k) fs) ≤ sum_by (node_overhead u.net (locals_of u)) (range_with_len d (length fs))) next
      (few_from (suc k) fs (λ j g e. let z : k + suc j ≡ suc k + j = omega arith in subst (λ (d : ℕ). slice_get u.nodes d ≡ Some g) z (there (suc j) g e))) in
      let all = length-append (all_copies u.net u.made k (outcome q (Piece ms) u k f).sent) (sent_from q (Piece ms) u (suc k) fs) in
      omega (arith, here, rest, all, sum_by-cons (node_overhead u.net (locals_of u)) k (range_with_len (k + 1) (length fs)))

  pub few_refreshes : length (sent q (Piece ms) u) ≤ overhead w.net (locals_of w)
  few_refreshes =
      let few = few_from 0 u.nodes (λ j f e. let z : 0 + j ≡ j = omega arith in subst (λ (d : ℕ). slice_get u.nodes d ≡ Some f) (sym z) e) in
      let many : length u.nodes ≡ u.net.nodes = (ready q w u a.rest).bounds.nodes in
      let same : sum_by (node_overhead u.net (locals_of u)) (range_with_len 0 (length u.nodes)) ≡ overhead w.net (locals_of w) =
      ap (λ (d : ℕ). sum_by (node_overhead u.net (locals_of u)) (range_with_len 0 d)) many ∙ (λ j. overhead (a.rest.same.net j) (a.rest.same.locals j)) in
      omega (arith, few, same)

  pub refreshes_sent : (y : Item) (mark : Bool) → In (y, mark) (sent q (Piece ms) u) → IsRefresh y
  refreshes_sent y mark i =
      let r = sent_found q (Piece ms) u (y, mark) i in
      let s = copies_found u.net u.made r.0 (outcome q (Piece ms) u r.0 r.1).sent (y, mark) r.3 in
      let spelt : y.arrival ≡ Spelt s.0.message = ap (λ (z : Item × Bool). z.0.arrival) s.4 in
      ⊎_elim
      (λ (x : (m : PathMsg) × (s.0.message ≡ message.Path m)). inl (x.0, spelt ∙ ap Spelt x.1))
      (λ (x : (m : ResvMsg) × (s.0.message ≡ message.Resv m) × (m.confirm ≡ None)). inr (x.0, spelt ∙ ap Spelt x.1, x.2))
      (sends_refreshes (config_of q u.net u.trees r.0) (u.clock + ms) (waits r.0) r.1 (unchanged_node r.0 r.1 r.2) s.0 s.2)
