-- After a release nothing is in flight in the end, where nobody waits to be confirmed: a node that takes a Resv without a wish, or a
-- ResvTear, sends such alone.
use Rattle.laws_bounds.proofs.Framing.{act_advertised, act_paths, act_senders, act_wants, wants_then}
use Rattle.laws_bounds.proofs.Knowing.{known_and_via}
use Rattle.laws_bounds.proofs.Lists.{none_in}
use Rattle.laws_bounds.proofs.Stepping.{send_told}
use Rattle.laws_bounds.proofs.Tests.{addr_tested, not_new}
use Rattle.laws_bounds.specs.SendLaws.{IsConf, IsError, IsPath, IsPathTear, IsResv, IsResvTear}
use Rattle.laws_network.proofs.Sends.{goes_to_end}
use Rattle.laws_network.proofs.Standing.{own_end, peer_there, same_end, some_at}
use Rattle.laws_steps.proofs.Hopward.{why_a_resv_tear_is_sent}
use Rattle.laws_steps.specs.AcceptingLaws.{IsTakenWhole, came_resv}
use Rattle.laws_steps.specs.ReservationLaws.{IsOfGoneUnits}
use Rattle.network_model.proofs.Changing.{what_is_sent_is_copied, where_a_send_goes}
use Rattle.network_model.proofs.Machines.{in_arrived, in_flight_after}
use Rattle.network_model.proofs.Stepping.{facts_after_found, facts_after_made}
use Rattle.network_model.specs.Bounds.{AreBounds, IsStart}
use Rattle.network_model.specs.Events.{pass, passes}
use Rattle.network_model.specs.Links.{goes_to, is_group}
use Rattle.network_model.specs.Locals.{locals_of}
use Rattle.network_model.specs.Sound.{ArePathsSound}
use Rattle.network_model.specs.Steps.{Deliver, Step, outcome, sent, step, still, At}
use Rattle.network_model.specs.Worlds.{Item, World}
use Rattle.router_rules.specs.Act.{act, act_spelt, is_mine}
use Rattle.router_rules.specs.Asking.{act_resv, answered, ask_of, asked_of, asker_of, err_place, err_places, errors_in_order, heard_of, stays, taking}
use Rattle.router_rules.specs.Facts.{Facts, Want, WantKey, Wants, sender_keys, wants_in}
use Rattle.router_rules.specs.Inputs.{Came, Change, ConfSend, ErrMsg, ErrSend, Input, OfPath, OfResv, Send, Spelt, in_order, put_in_order, Call, Local, QuitAll, WantAs}
use Rattle.router_rules.specs.Known.{Lane}
use Rattle.router_rules.specs.NodeConfig.{NodeConfig, own}
use Rattle.router_rules.specs.Offers.{Offer, Offers, offers}
use Rattle.router_rules.specs.Rule.{Outcome, settled}
use Rattle.router_rules.specs.Sends.{confirm_for, confirmed, is_changed, is_marked, is_new_offer, marked_units, own_wish}
use Rattle.router_rules.specs.Steps.{node_step, sent_then, IsFitCall, IsFitList}
use Rattle.rsvp_base.proofs.Counts.{in_found}
use Rattle.rsvp_base.proofs.Members.{in_filter, in_each}
use Rattle.rsvp_base.proofs.SetLaws.{and_both}
use Rattle.rsvp_base.proofs.UnderLaws.{get-under}
use Rattle.rsvp_base.specs.Members.{In}
use Rattle.rsvp_base.specs.Orders.{Names, sessions, units}
use Rattle.rsvp_base.specs.Sets.{Set}
use Rattle.rsvp_base.specs.Table.{get, has, empty, keys}
use Rattle.rsvp_base.specs.TokenBucket.{TokenBucket, IsSound}
use Rattle.rsvp_base.specs.declared.addr.Addr.{Addr}
use Rattle.rsvp_base.specs.declared.flow.Peak.TheVariants.{Infinite}
use Rattle.rsvp_base.specs.declared.session.Sender.{Sender}
use Rattle.rsvp_base.specs.declared.session.Session.{Session}
use Rattle.rsvp_base.specs.declared.style.Unit.{Unit as UnitOf}
use Rattle.rsvp_base.specs.declared.style.Unit.TheVariants.{One, Of}
use Rattle.rsvp_messages.specs.Units.{ask_style, tear_names, tear_style, only}
use Rattle.rsvp_messages.specs.declared.message.Message.{Message}
use Rattle.rsvp_messages.specs.declared.message.ResvMsg.{ResvMsg}
use Rattle.rsvp_messages.specs.declared.message.ResvTearMsg.{ResvTearMsg}
use Rattle.settle_passes.proofs.Deliveries.{came_by_delivery}
use Rattle.settle_passes.proofs.Fitting.{as_before}
use Rattle.settle_passes.proofs.Spreading.{after_deliveries, run_then}
use Rattle.settle_passes.proofs.Turns.{HaveWays, Turns, left, moment, place, sent_in_turn, ways_of}
use Rattle.settle_passes.specs.Passes.{after_passes}
use Rattle.settle_paths.proofs.PreviousHops.{ends_there, same_by_addr}
use Rattle.settle_releases.proofs.Falling.{reservations_recede, fall}
use Rattle.settle_releases.proofs.Receding.{IsReceding, receding_next, taken, turns}
use Rattle.settle_resvs.specs.GoalByIface.{goal_at}
use Rattle.settle_resvs.specs.Said.{HopKey, IsOver, hop_over}
use Rattle.std.proofs.Common.{Bool, List, None, Option, Some, [], ap, arith, cond, false, inl, inr, length, refl, subst, suc, sym, true, zero, ℕ, ⊎_elim, ◌++◌, ◌∙◌, ◌∷◌, ◌≡◌, ◌⊎◌}
use Rattle.std.specs.List.{filter}
use Rattle.std.specs.Ordering.{is_lt}
use Rattle.std.specs.Prelude.{map as each, not, slice_get, ◌||◌}
use Rattle.style_rules.specs.Lines.{Line}
use Rattle.tree_model.proofs.Ifaces.{interfaces_are_ends}
use Rattle.tree_model.proofs.Links.{hop_linked, peers_both}
use Rattle.tree_model.proofs.RankLaws.{rank_falls}
use Rattle.tree_model.specs.Goals.{addr_of, addr_of_end}
use Rattle.tree_model.specs.Networks.{Net, end_at, iface_of, node_of, node_of_end, peers}
use Rattle.tree_model.specs.Ranks.{longest}
use Rattle.tree_model.specs.Trees.{hops_of}
use Rattle.tree_model.specs.declared.hops.End.{End}
use Rattle.rsvp_messages.specs.declared.message.Message.TheVariants as message
use Rattle.router_rules.specs.declared.answers.Heard.TheVariants as heard
use Rattle.settle_releases.proofs.TakenBack.{names_of_tear, style_of_tear}
use Rattle.settle_releases.proofs.Releasing.{quit_kept, quit_recedes, settled_recedes, some_session, less_recedes, advertised_left}
use Rattle.router_rules.specs.Calls.{call_refusal, unless, wants_with, SendersOf, wanted}
use Rattle.network_model.proofs.Quiet.{at_node_found}
use Rattle.settle_releases.specs.Releases.{HasNoMark, after_quit, after_quits, AsksNoMore}
use Rattle.router_rules.specs.declared.answers.LocalErr.{LocalErr}
use Rattle.settle_network.specs.Settled.{HasSettled}
use Rattle.laws_bounds.specs.Frames.{calls_on_advertised, calls_on_senders}
use Rattle.laws_bounds.proofs.Calling.{calls_leave}
use Rattle.rsvp_base.specs.declared.style.StyleKind.{StyleKind}
use Rattle.rsvp_base.specs.declared.style.StyleKind.TheVariants.{Fixed, Shared, Wild}
use Rattle.settle_passes.specs.Reserving.{after_want}
use Rattle.settle_passes.proofs.Called.{in_flight_then, senders_left, turns as called_turns, unless_same}

-- ---- a node: what it makes of an input for which it tells nobody of an error and confirms nothing
pub record IsUnanswered (p : NodeConfig) (c : ℕ) (input : Input) (f : Facts) : Type 0 where
  pub errors : (act p c input f).errors ≡ []
  pub confs : (act p c input f).confs ≡ []
  pub asked : (act p c input f).asked ≡ None
  pub fired : (s : Session) → has (act p c input f).fired s ≡ false
  pub senders : (act p c input f).facts.senders ≡ f.senders
  pub advertised : (act p c input f).facts.advertised ≡ f.advertised
  pub paths : (act p c input f).facts.paths ≡ f.paths
  -- and no want of it has a mark
  pub unmarked : (k : WantKey) (x : Want) → get (act p c input f).facts.wants k ≡ Some x → x.confirm ≡ false

-- a Resv without a wish to be confirmed, or a ResvTear
abbrev pub IsPlain : Message → Type 0
IsPlain n = ((m : ResvMsg) × (n ≡ message.Resv m) × (m.confirm ≡ None)) ⊎ ((m : ResvTearMsg) × (n ≡ message.ResvTear m))

cond_none : (b : Bool) (o : Option Addr) → o ≡ None → cond b o None ≡ None
cond_none true o e = e
cond_none false o e = refl

-- a node none of whose wants has a mark asks nobody to be confirmed, where no message is answered that did
module _ (p : NodeConfig) (c : ℕ) (input : Input) (f : Facts) (asked : (act p c input f).asked ≡ None)
    (unmarked : (k : WantKey) (x : Want) → get (act p c input f).facts.wants k ≡ Some x → x.confirm ≡ false) where
  abbrev made : Facts
  made = settled p c f (act p c input f).facts

  no_marks : (l : Lane) → marked_units p made l ≡ []
  no_marks l =
      ap (λ (xs : List (UnitOf × Want)). each (λ (e : UnitOf × Want). e.0) xs)
      (none_in (filter (is_marked p made l) (wants_in made l.session).rows)
      (λ e i.
      let t = in_filter (is_marked p made l) e (wants_in made l.session).rows i in
      let there : get made.wants (l.session, e.0) ≡ Some e.1 = sym (get-under sessions units made.wants l.session e.0) ∙ in_found units (wants_in made l.session) e.0 e.1 t.0 in
      let bad : true ≡ false = sym (and_both _ _ t.1).0 ∙ unmarked (l.session, e.0) e.1 there in
      cc))

  no_wish : (l : Lane) → confirm_for p made l (act p c input f).asked ≡ None
  no_wish l = ap (confirm_for p made l) asked ∙ ap (own_wish p l) (no_marks l)

  pub resv_plain : (s : Send) → IsResv p p f made (act p c input f) s → (m : ResvMsg) × (s.message ≡ message.Resv m) × (m.confirm ≡ None)
  resv_plain s x = (_, ap (λ (z : Send). z.message) x.is, cond_none (is_changed p p f made x.lane) (confirm_for p made x.lane (act p c input f).asked) (no_wish x.lane))

module _ (p : NodeConfig) (c : ℕ) (input : Input) (f : Facts) (q : IsUnanswered p c input f) where
  abbrev change : Change
  change = act p c input f

  abbrev after : Facts
  after = settled p c f change.facts

  same_offers : offers p f ≡ offers p after
  same_offers = λ j. offers p (record f { senders = sym q.senders j; advertised = sym q.advertised j; paths = sym q.paths j })

  no_path : (s : Send) → IsPath p p f after change s → ⊥
  no_path s x =
      let old : get (offers p f) x.key ≡ Some x.offer = ap (λ (z : Offers). get z x.key) same_offers ∙ x.offered in
      let new : is_new_offer p x.key.iface x.offer (get (offers p f) x.key) ≡ false = ap (λ (w : Option Offer). is_new_offer p x.key.iface x.offer w) old ∙ not_new p x.key.iface x.offer in
      let bad : true ≡ false = sym x.why ∙ (λ j. q.fired x.key.session j || new j) in
      cc

  -- it sends such alone
  pub sends_plain : (s : Send) → In s (sent_then p p c input f) → IsPlain s.message
  sends_plain s i =
      ⊎_elim
      (λ (x : IsPathTear p p f after change s). let bad : true ≡ false = sym x.was ∙ ap (λ (z : Offers). has z x.key) same_offers ∙ x.gone in absurd (cc))
      (λ k. ⊎_elim (λ (x : IsResvTear p p f after change s). inr (_, ap (λ (z : Send). z.message) x.is))
      (λ k. ⊎_elim (λ (x : IsError p p f after change s). absurd (subst (λ (zs : List ErrSend). In x.error zs) q.errors x.made))
      (λ k. ⊎_elim (λ (x : IsConf p p f after change s).
      let none : change.confs ++ confirmed p p f after change.asked ≡ [] = (λ j. q.confs j ++ confirmed p p f after (q.asked j)) in
      absurd (subst (λ (zs : List ConfSend). In x.conf zs) none x.made))
      (λ k. ⊎_elim (λ (x : IsPath p p f after change s). absurd (no_path s x)) (λ (x : IsResv p p f after change s). inl (resv_plain p c input f q.asked q.unmarked s x)) k) k) k) k)
      (send_told p p c input f s i)

-- ---- a ResvTear that comes
module _ (p : NodeConfig) (c e : ℕ) (dst : Addr) (m : ResvTearMsg) (f : Facts) (unmarked : (k : WantKey) (x : Want) → get f.wants k ≡ Some x → x.confirm ≡ false) where
  abbrev tears : Input
  tears = Came e dst (Spelt (message.ResvTear m))

  no_errors : (b : Bool) → (act_spelt p c e (message.ResvTear m) b f).errors ≡ []
  no_errors true = refl
  no_errors false = refl

  no_confs : (b : Bool) → (act_spelt p c e (message.ResvTear m) b f).confs ≡ []
  no_confs true = refl
  no_confs false = refl

  not_asked : (b : Bool) → (act_spelt p c e (message.ResvTear m) b f).asked ≡ None
  not_asked true = refl
  not_asked false = refl

  none_fired : (b : Bool) (s : Session) → has (act_spelt p c e (message.ResvTear m) b f).fired s ≡ false
  none_fired true s = refl
  none_fired false s = refl

  pub tear_unanswered : IsUnanswered p c tears f
  tear_unanswered = record {
    errors = no_errors (is_mine p e dst (message.ResvTear m));
    confs = no_confs (is_mine p e dst (message.ResvTear m));
    asked = not_asked (is_mine p e dst (message.ResvTear m));
    fired = none_fired (is_mine p e dst (message.ResvTear m));
    senders = act_senders p c tears f refl;
    advertised = act_advertised p c tears f refl;
    paths = act_paths p c tears f refl;
    unmarked = λ k x h. unmarked k x (ap (λ (t : Wants). get t k) (sym (act_wants p c tears f refl)) ∙ h);
  }

-- ---- a Resv that comes, without a wish, and is taken whole
put_some : (x : ErrSend) (ys : List ErrSend) → (z : ErrSend) × (zs : List ErrSend) × (put_in_order err_places err_place x ys ≡ z ∷ zs)
put_some x [] = (x, [], refl)
put_some x (y ∷ ys) = by (is_lt (err_places.cmp (err_place y) (err_place x)))
  where
    by : (b : Bool) → (z : ErrSend) × (zs : List ErrSend) × (cond b (y ∷ put_in_order err_places err_place x ys) (x ∷ y ∷ ys) ≡ z ∷ zs)
    by true = (y, put_in_order err_places err_place x ys, refl)
    by false = (x, y ∷ ys, refl)

not_answered : (e : ErrMsg) → answered e ≡ heard.Taken → ⊥
not_answered (OfPath m) e = cc
not_answered (OfResv m) e = cc

heard_none : (errors : List ErrSend) (out : Bool) → heard_of (errors_in_order errors) out ≡ heard.Taken → errors ≡ []
heard_none [] out e = refl
heard_none (x ∷ xs) out e =
    let r = put_some x (in_order err_places err_place xs) in
    absurd (not_answered r.0.error (ap (λ (zs : List ErrSend). heard_of zs out) (sym r.2) ∙ e))

module _ (p : NodeConfig) (c e : ℕ) (m : ResvMsg) (f : Facts) (gs : List Line) (taken : IsTakenWhole p p c e m f gs) (none : m.confirm ≡ None)
    (unmarked : (k : WantKey) (x : Want) → get f.wants k ≡ Some x → x.confirm ≡ false) where
  abbrev asks : Input
  asks = came_resv p e m

  act_is : act p c asks f ≡ act_resv p c e m f
  act_is = ap (λ (b : Bool). act_spelt p c e (message.Resv m) b f) (addr_tested (own p e) (own p e) refl)

  heard_is : heard_of (errors_in_order (taking p c e m f).errors) (taking p c e m f).left_out ≡ heard.Taken
  heard_is = ap (λ (k : Change). k.heard) (sym act_is) ∙ taken.heard_it

  pub resv_unanswered : IsUnanswered p c asks f
  resv_unanswered = record {
    errors = ap (λ (k : Change). k.errors) act_is ∙ heard_none (taking p c e m f).errors (taking p c e m f).left_out heard_is;
    confs = ap (λ (k : Change). k.confs) act_is;
    asked = ap (λ (k : Change). k.asked) act_is ∙ ap (λ (w : Option Addr). asked_of (asker_of p c e m) (ask_of (ask_style m.ask) (taking p c e m f).taken) w) none;
    fired = λ s. ap (λ (k : Change). has k.fired s) act_is;
    senders = act_senders p c asks f refl;
    advertised = act_advertised p c asks f refl;
    paths = act_paths p c asks f refl;
    unmarked = λ k x h. unmarked k x (ap (λ (t : Wants). get t k) (sym (act_wants p c asks f refl)) ∙ h);
  }

-- ---- a world
-- a ResvTear goes back over a hop of its session, and names someone
pub record IsBackOver (net : Net) (y : Item) (m : ResvTearMsg) : Type 0 where
  pub key : HopKey
  pub there : In (hop_over key) (hops_of net.hops key.session.group)
  pub over : IsOver net key y m.session m.hop.addr (tear_style m.tear)
  pub names : Names
  pub lists : tear_names m.tear ≡ Some names
  pub some : (x : Sender) × (has names x ≡ true)

abbrev pub IsPlainItem : Net → Item → Type 0
IsPlainItem net y =
    ((m : ResvMsg) × (y.arrival ≡ Spelt (message.Resv m)) × (m.confirm ≡ None)) ⊎ ((m : ResvTearMsg) × (y.arrival ≡ Spelt (message.ResvTear m)) × IsBackOver net y m)

module _ (q : ℕ) (t : Step) (u : World) (bounds : AreBounds q u) (turns : (n : ℕ) (f : Facts) → slice_get u.nodes n ≡ Some f → (outcome q t u n f ≡ still f) ⊎ Turns q t u n f)
    (ways : HaveWays (left q t u)) where
  pub goes_back_by : (y : Item) (b : Bool) (m : ResvTearMsg) → In (y, b) (sent q t u) → y.arrival ≡ Spelt (message.ResvTear m) → IsBackOver u.net y m
  goes_back_by y b m i spelt =
      let r = sent_in_turn q t u bounds turns y b (message.ResvTear m) i spelt in
      let p : NodeConfig = place q t u r.node in
      let facts : Facts = (outcome q t u r.node r.facts).facts in
      let x : IsOfGoneUnits p p r.facts facts r.send m =
      subst (λ (z : Outcome). IsOfGoneUnits p p r.facts z.facts r.send m) (sym r.by.is)
      (why_a_resv_tear_is_sent (node_step p p u.clock (moment q t u) r.by.input r.facts) (bounds.facts r.node r.facts r.there) r.send m r.sent_one r.says) in
      let after : slice_get (left q t u).nodes r.node ≡ Some facts = facts_after_made q t u r.node r.facts r.there in
      let named = (known_and_via.all_by facts x.lane x.some.0).0 (x.via_hop x.some.0 x.some.1) in
      let comes = (known_and_via.via_by facts x.lane.session x.lane.hop named.sender).0 named.among in
      let a = ways r.node facts x.lane.session x.lane.hop named.sender after comes in
      let valid = bounds.net in
      let mine = ends_there u.net valid x.lane.session.group a.way a.previous.there in
      let e = goes_to_end u.net (end_at u.net.ends r.node r.send.iface) r.send.dst y.end r.to in
      let at : end_at u.net.ends r.node x.lane.hop.0 ≡ Some e.0 = ap (end_at u.net.ends r.node) (sym x.iface) ∙ e.1 in
      let of = (interfaces_are_ends u.net).iface_of_end r.node x.lane.hop.0 e.0 at in
      let hop_addr : m.hop.addr ≡ own p x.lane.hop.0 = ap (λ (z : ResvTearMsg). z.hop.addr) x.is in
      let to : a.way.to ≡ e.0 = same_end u.net a.way.to e.0 mine.1 of.0 (a.previous.node ∙ sym of.1) (a.previous.iface ∙ sym of.2) in
      let linked : In a.way.to (peers u.net.links a.way.from) = hop_linked u.net valid x.lane.session.group named.sender.addr a.way a.there in
      let back : In a.way.from (peers u.net.links e.0) = subst (λ (z : ℕ). In a.way.from (peers u.net.links z)) to (peers_both u.net valid a.way.from a.way.to linked) in
      let goes : In y.end (goes_to u.net (Some e.0) x.lane.hop.1) = subst (λ (z : Option ℕ × Addr). In y.end (goes_to u.net z.0 z.1)) (λ j. (e.1 j, x.dst j)) r.to in
      let own_addr : is_group (addr_of u.net a.way.from) ≡ false =
      (let z = some_at u.net.ends a.way.from mine.0 in ap (λ (w : Option End). is_group (addr_of_end w)) z.1 ∙ bounds.hosts a.way.from z.0 z.1) in
      let no_group = subst (λ (z : Addr). is_group z ≡ false) a.previous.addr own_addr in
      let got = ((where_a_send_goes u.net e.0 x.lane.hop.1).one no_group a.way.from back a.previous.addr y.end).0 goes in
      let from : y.end ≡ a.way.from = same_by_addr u.net valid y.end a.way.from (peer_there u.net valid e.0 y.end got.0) mine.0 (got.1 ∙ sym a.previous.addr) in
      record {
        key = record { session = x.lane.session; style = x.lane.style; unit = One; from = a.way.to; to = a.way.from };
        there = a.previous.there;
        over = record {
          end = from;
          session = ap (λ (z : ResvTearMsg). z.session) x.is;
          from = hop_addr ∙ own_end q u.net u.trees r.node x.lane.hop.0 e.0 at ∙ ap (addr_of u.net) (sym to);
          style = ap (λ (z : ResvTearMsg). tear_style z.tear) x.is ∙ style_of_tear x.lane.style x.names;
        };
        names = x.names;
        lists = ap (λ (z : ResvTearMsg). tear_names z.tear) x.is ∙ names_of_tear x.lane.style x.names;
        some = x.some;
      }

-- so it does where paths are sound
module _ (q : ℕ) (t : Step) (u : World) (bounds : AreBounds q u) (turns : (n : ℕ) (f : Facts) → slice_get u.nodes n ≡ Some f → (outcome q t u n f ≡ still f) ⊎ Turns q t u n f)
    (bounds' : AreBounds q (left q t u)) (sound : ArePathsSound (left q t u)) where
  pub goes_back : (y : Item) (b : Bool) (m : ResvTearMsg) → In (y, b) (sent q t u) → y.arrival ≡ Spelt (message.ResvTear m) → IsBackOver u.net y m
  goes_back = goes_back_by q t u bounds turns (ways_of (left q t u) sound)

  -- what is sent by a node that answers nothing is plain
  pub plain_in_turn : ((n : ℕ) (f : Facts) → slice_get u.nodes n ≡ Some f → (h : Turns q t u n f) → IsUnanswered (place q t u n) (moment q t u) h.input f)
      → (y : Item) (b : Bool) → In (y, b) (sent q t u) → IsPlainItem u.net y
  plain_in_turn quiet y b i =
      let c = (what_is_sent_is_copied q t u (y, b)).0 i in
      let spelt : y.arrival ≡ Spelt c.send.message = ap (λ (z : Item × Bool). z.0.arrival) c.is in
      let r = sent_in_turn q t u bounds turns y b c.send.message i spelt in
      ⊎_elim
      (λ (x : (m : ResvMsg) × (r.send.message ≡ message.Resv m) × (m.confirm ≡ None)). inl (x.0, spelt ∙ ap Spelt (sym r.says ∙ x.1), x.2))
      (λ (x : (m : ResvTearMsg) × (r.send.message ≡ message.ResvTear m)).
      let says : y.arrival ≡ Spelt (message.ResvTear x.0) = spelt ∙ ap Spelt (sym r.says ∙ x.1) in
      inr (x.0, says, goes_back y b x.0 i says))
      (sends_plain (place q t u r.node) (moment q t u) r.by.input r.facts (quiet r.node r.facts r.there r.by) r.send r.sent_one)

pub record IsSilent (q : ℕ) (before : List Facts) (u : World) : Type 0 where
  pub receding : (c : Session) → IsReceding q c before u
  pub plain : (y : Item) → In y u.flight → IsPlainItem u.net y
  pub unmarked : HasNoMark u

-- a mark that is not there does not come
not_marked : (a b : Bool) → (a ≡ true → b ≡ true) → b ≡ false → a ≡ false
not_marked true b up e = let bad : true ≡ false = sym (up refl) ∙ e in absurd (cc)
not_marked false b up e = refl

pub unmarked_in_turn : (q : ℕ) (t : Step) (u : World) → ((n : ℕ) (f : Facts) → slice_get u.nodes n ≡ Some f → (outcome q t u n f ≡ still f) ⊎ Turns q t u n f)
    → ((n : ℕ) (f : Facts) → slice_get u.nodes n ≡ Some f → (h : Turns q t u n f) → (k : WantKey) (x : Want) → get (act (place q t u n) (moment q t u) h.input f).facts.wants k ≡ Some x
    → x.confirm ≡ false) → HasNoMark u → HasNoMark (step q t u)
unmarked_in_turn q t u follows quiet unmarked n g k x at h =
    let f = facts_after_found q t u n g at in
    let now : get (outcome q t u n f.0).facts.wants k ≡ Some x = ap (λ (z : Facts). get z.wants k) (sym f.2) ∙ h in
    ⊎_elim (λ (z : outcome q t u n f.0 ≡ still f.0). unmarked n f.0 k x f.1 (sym (ap (λ (o : Outcome). get o.facts.wants k) z) ∙ now))
    (λ (d : Turns q t u n f.0).
    let p : NodeConfig = place q t u n in
    let marks = wants_then p p (moment q t u) d.input f.0 in
    let b = marks.source k x (sym (ap (λ (o : Outcome). get o.facts.wants k) d.is) ∙ now) in
    not_marked x.confirm b.0.confirm b.3 (quiet n f.0 f.1 d k b.0 b.1))
    (follows n f.0 f.1)

-- ---- one delivery
module _ (q : ℕ) (before : List Facts) (u : World) (r : IsSilent q before u) where
  abbrev next : World
  next = step q (Deliver 0) u

  bounds : AreBounds q u
  bounds = (r.receding some_session).paths.bounds

  abbrev follows : (n : ℕ) (f : Facts) → slice_get u.nodes n ≡ Some f → (outcome q (Deliver 0) u n f ≡ still f) ⊎ Turns q (Deliver 0) u n f
  follows = turns q some_session before u (r.receding some_session)

  receding_on : (c : Session) → IsReceding q c before next
  receding_on c = receding_next q c before u (r.receding c)

  quiet : (n : ℕ) (f : Facts) → slice_get u.nodes n ≡ Some f → (h : Turns q (Deliver 0) u n f) → IsUnanswered (place q (Deliver 0) u n) (moment q (Deliver 0) u) h.input f
  quiet n f at h =
      let z = came_by_delivery q 0 u bounds n h.input h.came in
      let e : ℕ = iface_of u.net.ends z.item.end in
      let node : node_of u.net.ends z.item.end ≡ n = ap node_of_end z.there ∙ z.node in
      let flies : In z.item u.flight = in_arrived (Deliver 0) u z.item z.arrives in
      let marks : (k : WantKey) (x : Want) → get f.wants k ≡ Some x → x.confirm ≡ false = (λ k x g. r.unmarked n f k x at g) in
      ⊎_elim
      (λ (x : (m : ResvMsg) × (z.item.arrival ≡ Spelt (message.Resv m)) × (m.confirm ≡ None)).
      let m : ResvMsg = x.0 in
      let lt = (bounds.flight z.item flies).end in
      let end : end_at u.net.ends (node_of u.net.ends z.item.end) e ≡ Some z.item.end = (interfaces_are_ends u.net).end_of_iface z.item.end lt in
      let dst : z.item.dst ≡ own (place q (Deliver 0) u (node_of u.net.ends z.item.end)) e =
      (r.receding m.session).addressed z.item m flies x.1 ∙ sym (own_end q u.net u.trees (node_of u.net.ends z.item.end) e z.item.end end) in
      let w = taken q m.session before u (r.receding m.session) z.item m f flies x.1 refl (ap (λ (d : ℕ). slice_get u.nodes d) node ∙ at) in
      let v = resv_unanswered (place q (Deliver 0) u (node_of u.net.ends z.item.end)) (moment q (Deliver 0) u) e m f
      (goal_at u.net (locals_of (as_before before u)) (node_of u.net.ends z.item.end)) w x.2 marks in
      let input : came_resv (place q (Deliver 0) u (node_of u.net.ends z.item.end)) e m ≡ h.input =
      (λ j. Came e (sym dst j) (Spelt (message.Resv m))) ∙ (λ j. Came e z.item.dst (sym x.1 j)) ∙ sym z.is in
      subst (λ (d : ℕ × Input). IsUnanswered (place q (Deliver 0) u d.0) (moment q (Deliver 0) u) d.1 f) (λ j. (node j, input j)) v)
      (λ (x : (m : ResvTearMsg) × (z.item.arrival ≡ Spelt (message.ResvTear m)) × IsBackOver u.net z.item m).
      let v = tear_unanswered (place q (Deliver 0) u n) (moment q (Deliver 0) u) e z.item.dst x.0 f marks in
      let input : Came e z.item.dst (Spelt (message.ResvTear x.0)) ≡ h.input = (λ j. Came e z.item.dst (sym x.1 j)) ∙ sym z.is in
      subst (λ (d : Input). IsUnanswered (place q (Deliver 0) u n) (moment q (Deliver 0) u) d f) input v)
      (r.plain z.item flies)

  silent_next : IsSilent q before next
  silent_next = record {
    receding = receding_on;
    plain = λ y i.
        ⊎_elim (λ (old : In y u.flight). r.plain y old)
        (λ (new : (b : Bool) × In (y, b) (sent q (Deliver 0) u)).
        plain_in_turn q (Deliver 0) u bounds follows (receding_on some_session).paths.bounds (receding_on some_session).paths.sound quiet y new.0 new.1) (in_flight_after q (Deliver 0) u y refl i);
    unmarked = unmarked_in_turn q (Deliver 0) u follows (λ n f at h. (quiet n f at h).unmarked) r.unmarked;
  }

-- ---- passes
silent_deliveries : (q : ℕ) (before : List Facts) (m : ℕ) (u : World) → IsSilent q before u → IsSilent q before (after_deliveries q m u)
silent_deliveries q before zero u r = r
silent_deliveries q before (suc m) u r = silent_deliveries q before m (step q (Deliver 0) u) (silent_next q before u r)

silent_passes : (q : ℕ) (before : List Facts) (n : ℕ) (u : World) → IsSilent q before u → IsSilent q before (after_passes q n u)
silent_passes q before zero u r = r
silent_passes q before (suc n) u r =
    let v : World = after_deliveries q (length u.flight) u in
    let is : after_passes q (suc n) u ≡ after_passes q n v = run_then q (pass q u) (passes q n v) u in
    subst (λ (w : World). IsSilent q before w) (sym is) (silent_passes q before n v (silent_deliveries q before (length u.flight) u r))

some_flow : TokenBucket
some_flow = record { r = 0; b = 0; p = Infinite; low = 0; most = 0 }

-- nothing is in flight in the end
pub nothing_flies : (q : ℕ) (before : List Facts) (w : World) → IsSilent q before w → (after_passes q (longest w.net) w).flight ≡ []
nothing_flies q before w r =
    none_in (after_passes q (longest w.net) w).flight
    (λ y i.
    ⊎_elim
    (λ (x : (m : ResvMsg) × (y.arrival ≡ Spelt (message.Resv m)) × (m.confirm ≡ None)). (reservations_recede q x.0.session before w (r.receding x.0.session)).1.no_resv y x.0 i x.1 refl)
    (λ (x : (m : ResvTearMsg) × (y.arrival ≡ Spelt (message.ResvTear m)) × IsBackOver (after_passes q (longest w.net) w).net y m).
    let b = x.2 in
    let d = fall q b.key.session before (longest w.net) w (r.receding b.key.session) in
    let long : longest (after_passes q (longest w.net) w).net ≡ longest w.net = ap longest d.2.net in
    let most = (rank_falls (after_passes q (longest w.net) w).net d.0.paths.bounds.net.loop_free).hops b.key.session.group (hop_over b.key) b.there in
    let goes : stays (tear_names x.0.tear) b.some.0 ≡ false = ap (λ (o : Option Names). stays o b.some.0) b.lists ∙ ap not b.some.1 in
    d.1 y i b.key (record { senders = b.names; flow = some_flow }) refl b.there (omega (arith, most.1, long)) (inr (x.0, x.1, b.over, record { name = b.some.0; was = b.some.1; goes = goes })))
    ((silent_passes q before (longest w.net) w r).plain y i))

-- ---- a call that asks for no more, and for no confirmation
module _ (q n : ℕ) (call : Local) (before : List Facts) (w : World) (r : IsSilent q before w) (fit : IsFitCall call) (spares : calls_on_senders call ≡ false)
    (keeps_marks : calls_on_advertised call ≡ false) (recede : (s : Session) → IsReceding q s before (step q (At n call) w))
    (marks : (m : ℕ) (f : Facts) → slice_get w.nodes m ≡ Some f → (o : Option LocalErr) (k : WantKey) (x : Want)
    → get (unless o (wants_with call f.wants) f.wants) k ≡ Some x → x.confirm ≡ false) where
  abbrev follows_then : (m : ℕ) (f : Facts) → slice_get w.nodes m ≡ Some f → (outcome q (At n call) w m f ≡ still f) ⊎ Turns q (At n call) w m f
  follows_then = called_turns q n call w

  quiet_then : (m : ℕ) (f : Facts) → slice_get w.nodes m ≡ Some f → (h : Turns q (At n call) w m f) → IsUnanswered (place q (At n call) w m) (moment q (At n call) w) h.input f
  quiet_then m f at h =
      let p : NodeConfig = place q (At n call) w m in
      let v : IsUnanswered p (moment q (At n call) w) (Call call) f =
      record {
        errors = refl;
        confs = refl;
        asked = refl;
        fired = λ s. refl;
        senders = ap (λ (t : SendersOf). unless (call_refusal p call f) t f.senders) (senders_left call spares f.senders) ∙ unless_same (call_refusal p call f) f.senders;
        advertised = ap (λ (t : Set sender_keys). unless (call_refusal p call f) t f.advertised) (advertised_left call keeps_marks f.advertised) ∙ unless_same (call_refusal p call f) f.advertised;
        paths = refl;
        unmarked = λ k x e. marks m f at (call_refusal p call f) k x e;
      } in
      subst (λ (z : Input). IsUnanswered p (moment q (At n call) w) z f) (sym (at_node_found n m (Call call) h.input h.came).1) v

  silent_then : IsSilent q before (step q (At n call) w)
  silent_then = record {
    receding = recede;
    plain = λ y i.
        ⊎_elim (λ (old : In y w.flight). r.plain y old)
        (λ (new : (b : Bool) × In (y, b) (sent q (At n call) w)).
        plain_in_turn q (At n call) w (r.receding some_session).paths.bounds follows_then (recede some_session).paths.bounds (recede some_session).paths.sound quiet_then y new.0 new.1)
        (in_flight_then q n call w y i);
    unmarked = unmarked_in_turn q (At n call) w follows_then (λ m f at h. (quiet_then m f at h).unmarked) r.unmarked;
  }

-- a settled network in which nothing is in flight and nobody waits to be confirmed
settled_silent : (q : ℕ) (w : World) → IsStart q w → HasSettled q w → w.flight ≡ [] → HasNoMark w → IsSilent q w.nodes w
settled_silent q w start settled_now empty_flight unmarked = record {
  receding = settled_recedes q w start settled_now empty_flight;
  plain = λ y i. absurd (subst (λ (z : List Item). In y z) empty_flight i);
  unmarked = unmarked;
}

-- ---- receivers quit
quit_marks : (c : Session) (w : World) → HasNoMark w → (m : ℕ) (f : Facts) → slice_get w.nodes m ≡ Some f → (o : Option LocalErr) (k : WantKey) (x : Want)
    → get (unless o (wants_with (QuitAll c) f.wants) f.wants) k ≡ Some x → x.confirm ≡ false
quit_marks c w unmarked m f at (Some why) k x e = unmarked m f k x at e
quit_marks c w unmarked m f at None k x e = unmarked m f k x at (quit_kept c f k x e)

silent_quits : (q : ℕ) (before : List Facts) (xs : List (ℕ × Session)) (w : World) → IsSilent q before w → IsSilent q before (after_quits q xs w) × ((after_quits q xs w).net ≡ w.net)
silent_quits q before [] w r = (r, refl)
silent_quits q before (x ∷ xs) w r =
    silent_quits q before xs (after_quit q x.0 x.1 w)
    (silent_then q x.0 (QuitAll x.1) before w r tt refl refl (λ s. quit_recedes q x.0 x.1 before w s (r.receding s)) (quit_marks x.1 w r.unmarked))

pub a_release_leaves_nothing_in_flight : (q : ℕ) (xs : List (ℕ × Session)) (w : World) → IsStart q w → HasSettled q w → w.flight ≡ [] → HasNoMark w
    → (after_passes q (longest w.net) (after_quits q xs w)).flight ≡ []
a_release_leaves_nothing_in_flight q xs w start settled_now empty_flight unmarked =
    let r = silent_quits q w.nodes xs w (settled_silent q w start settled_now empty_flight unmarked) in
    subst (λ (z : Net). (after_passes q (longest z) (after_quits q xs w)).flight ≡ []) r.1 (nothing_flies q w.nodes (after_quits q xs w) r.0)

-- ---- or one asks for less
wanted_mark : (s : Session) (st : StyleKind) (ns : Names) (flow : TokenBucket) (mark : Bool) (k : WantKey) (x : Want) → In (k, x) (wanted s st ns flow mark) → x.confirm ≡ mark
wanted_mark s Wild ns flow mark k x i =
    ⊎_elim (λ (e : (k, x) ≡ ((s, One), record { style = Wild; part = record { senders = empty; flow = flow }; confirm = mark })). ap (λ (z : WantKey × Want). z.1.confirm) e) (λ (no : ⊥). absurd no) i
wanted_mark s Fixed ns flow mark k x i =
    let r = in_each (λ (y : Sender). ((s, Of y), record { style = Fixed; part = record { senders = only y; flow = flow }; confirm = mark })) (k, x) (keys ns) i in
    ap (λ (z : WantKey × Want). z.1.confirm) r.2
wanted_mark s Shared ns flow mark k x i =
    ⊎_elim (λ (e : (k, x) ≡ ((s, One), record { style = Shared; part = record { senders = ns; flow = flow }; confirm = mark })). ap (λ (z : WantKey × Want). z.1.confirm) e) (λ (no : ⊥). absurd no) i

want_marks : (s : Session) (st : StyleKind) (ns : Names) (flow : TokenBucket) (w : World) → HasNoMark w → (m : ℕ) (f : Facts) → slice_get w.nodes m ≡ Some f
    → (o : Option LocalErr) (k : WantKey) (x : Want) → get (unless o (wants_with (WantAs s st ns flow false) f.wants) f.wants) k ≡ Some x → x.confirm ≡ false
want_marks s st ns flow w unmarked m f at (Some why) k x e = unmarked m f k x at e
want_marks s st ns flow w unmarked m f at None k x e =
    ⊎_elim (λ (old : get f.wants k ≡ Some x). unmarked m f k x at old) (λ (new : In (k, x) (wanted s st ns flow false)). wanted_mark s st ns flow false k x new)
    (calls_leave.wanted_source s st ns flow false f.wants k x e)

pub less_leaves_nothing_in_flight : (q n : ℕ) (s : Session) (st : StyleKind) (ns : Names) (flow : TokenBucket) (w : World) → IsStart q w → HasSettled q w → w.flight ≡ [] → HasNoMark w
    → IsFitList st ns → IsSound flow → AsksNoMore w n s st ns flow false → (after_passes q (longest w.net) (after_want q n s st ns flow false w)).flight ≡ []
less_leaves_nothing_in_flight q n s st ns flow w start settled_now empty_flight unmarked list sound no_more =
    let r = settled_silent q w start settled_now empty_flight unmarked in
    nothing_flies q w.nodes (after_want q n s st ns flow false w)
    (silent_then q n (WantAs s st ns flow false) w.nodes w r (list, sound) refl refl (λ c. less_recedes q n s st ns flow false w no_more (list, sound) w.nodes c (r.receding c))
    (want_marks s st ns flow w unmarked))
