-- A sender ends where nobody waits to be confirmed: what is in flight while it is let go, and that in the end nothing is. Resvs and ResvTears go one
-- hop further back with each pass, PathTears, Paths and errors one hop further on.
use Rattle.std.proofs.Common.{◌≡◌, ℕ, zero, suc, ◌+◌, ◌*◌, List, [], ◌++◌, length, Bool, true, false, Option, None, Some, ◌⊎◌, inl, inr, ⊎_elim, arith, sym, refl, ap, subst, ◌∙◌}
use Rattle.std.specs.Prelude.{slice_get, not}
use Rattle.rsvp_base.specs.declared.addr.Addr.{Addr}
use Rattle.rsvp_base.specs.declared.flow.Peak.TheVariants.{Infinite}
use Rattle.rsvp_base.specs.declared.session.Sender.{Sender}
use Rattle.rsvp_base.specs.declared.session.Session.{Session}
use Rattle.rsvp_base.specs.declared.style.StyleKind.{StyleKind}
use Rattle.rsvp_base.specs.Members.{In}
use Rattle.rsvp_base.specs.Orders.{Names}
use Rattle.rsvp_base.specs.Sets.{is_none}
use Rattle.rsvp_base.specs.Table.{get}
use Rattle.rsvp_base.specs.TokenBucket.{TokenBucket}
use Rattle.rsvp_base.proofs.Members.{in_each}
use Rattle.rsvp_messages.specs.declared.message.Message.{Message}
use Rattle.rsvp_messages.specs.declared.message.Message.TheVariants as message
use Rattle.rsvp_messages.specs.declared.message.PathMsg.{PathMsg}
use Rattle.rsvp_messages.specs.declared.message.PathTearMsg.{PathTearMsg}
use Rattle.rsvp_messages.specs.declared.message.ResvErrMsg.{ResvErrMsg}
use Rattle.rsvp_messages.specs.declared.message.ResvMsg.{ResvMsg}
use Rattle.rsvp_messages.specs.declared.message.ResvTearMsg.{ResvTearMsg}
use Rattle.rsvp_messages.specs.Units.{AskedUnit, ask_style, asked_units, tear_names}
use Rattle.laws_bounds.specs.AskLaws.{IsBookRefusal, IsLoss}
use Rattle.laws_bounds.specs.ErrorLaws.{errors_with, walls_set}
use Rattle.laws_bounds.specs.FactLaws.{ComesBy}
use Rattle.laws_bounds.specs.SendLaws.{IsConf, IsError, IsPath, IsPathTear, IsResv, IsResvTear}
use Rattle.laws_bounds.proofs.Blame.{sent_listing}
use Rattle.laws_bounds.proofs.Erring.{errors_once_each, resv_errs_by_tests}
use Rattle.laws_bounds.proofs.Framing.{act_wants}
use Rattle.laws_bounds.proofs.Lists.{none_in}
use Rattle.laws_bounds.proofs.Stepping.{send_told}
use Rattle.laws_bounds.proofs.Wholes.{units_in_full}
use Rattle.laws_steps.specs.SpeakingLaws.{IsOfOffer}
use Rattle.router_rules.specs.declared.answers.Heard.TheVariants as heard
use Rattle.router_rules.specs.declared.answers.Why.TheVariants as why
use Rattle.router_rules.specs.Act.{act, act_spelt, is_mine}
use Rattle.router_rules.specs.Asking.{Asker, ask_of, asked_of, asker_of, has_entry, matched, nothing_taken, refusal, stays, style_conflict, style_value, taking, taking_of, value_of}
use Rattle.router_rules.specs.Calls.{call_refusal}
use Rattle.router_rules.specs.Errors.{act_resv_err, error_listing, lane_of}
use Rattle.router_rules.specs.Facts.{Facts, SenderKey, Want, WantKey, Wants, resvs_of}
use Rattle.router_rules.specs.Inputs.{Call, Came, Change, ConfSend, DropAs, ErrMsg, ErrSend, Input, Local, OfResv, Send, Spelt, only_heard}
use Rattle.router_rules.specs.Known.{known}
use Rattle.router_rules.specs.NodeConfig.{NodeConfig}
use Rattle.router_rules.specs.Rule.{settled}
use Rattle.router_rules.specs.Sends.{confirmed, error_message}
use Rattle.router_rules.specs.Steps.{facts_then, node_step, sent_then}
use Rattle.style_rules.specs.Lines.{NextHop}
use Rattle.tree_model.specs.Networks.{Net, end_at, iface_of}
use Rattle.tree_model.specs.Ranks.{longest}
use Rattle.tree_model.specs.Trees.{outward}
use Rattle.tree_model.proofs.RankLaws.{rank_falls}
use Rattle.network_model.specs.Bounds.{AreBounds, IsStart}
use Rattle.network_model.specs.Events.{pass, passes}
use Rattle.network_model.specs.Steps.{At, Deliver, Step, outcome, sent, step, still}
use Rattle.network_model.specs.Worlds.{Item, World, config_of}
use Rattle.network_model.proofs.Changing.{what_is_sent_is_copied}
use Rattle.network_model.proofs.Machines.{in_arrived, in_flight_after}
use Rattle.network_model.proofs.Quiet.{at_node_found}
use Rattle.laws_network.proofs.Known.{of_some}
use Rattle.laws_network.proofs.Sends.{goes_to_peers, sent_by_rule}
use Rattle.laws_network.proofs.Speaking.{what_a_path_sent_says}
use Rattle.laws_network.proofs.Standing.{way_out}
use Rattle.settle_resvs.specs.Said.{hop_over}
use Rattle.settle_network.specs.Settled.{HasSettled}
use Rattle.settle_passes.specs.Calls.{SendsAt, after_drop}
use Rattle.settle_passes.specs.Passes.{after_passes}
use Rattle.settle_passes.proofs.Called.{in_flight_then, path_sent_by_call, turns as called_turns, unless_same}
use Rattle.settle_passes.proofs.Deliveries.{came_by_delivery}
use Rattle.settle_passes.proofs.Spreading.{after_deliveries, run_then}
use Rattle.settle_passes.proofs.Turns.{Turns, moment, place, sent_in_turn}
use Rattle.settle_releases.specs.Releases.{HasNoMark}
use Rattle.settle_releases.proofs.Silence.{IsBackOver, goes_back_by, resv_plain, unmarked_in_turn}
use Rattle.settle_releases.proofs.Sinking.{reservations_sink, sink}
use Rattle.settle_senders.proofs.Ending.{IsLettingGo, all_came, letting_go_next, turns, ways_before}
use Rattle.settle_senders.proofs.Further.{IsFromDepth, none_later}
use Rattle.settle_senders.proofs.Letting.{IsLetDown, flow_now, going_now, kinds_now, let_down, let_down_next, sinks, was_now}
use Rattle.settle_senders.proofs.Parting.{a_sender_that_ends_leaves_no_error}
use Rattle.settle_senders.proofs.Serving.{net_stays, passes_sum}

-- ---- a node that confirms nothing, and tells of errors with a flow alone
abbrev HasFlow : ErrMsg → Type 0
HasFlow x = (m : ResvErrMsg) × (flow : TokenBucket) × (x ≡ OfResv m) × (m.blame.flow ≡ Some flow)

record IsMildTurn (p : NodeConfig) (c : ℕ) (input : Input) (f : Facts) : Type 0 where
  errors : (e : ErrSend) → In e (act p c input f).errors → HasFlow e.error
  confs : (act p c input f).confs ≡ []
  asked : (act p c input f).asked ≡ None
  -- and no want of it has a mark
  unmarked : (k : WantKey) (x : Want) → get (act p c input f).facts.wants k ≡ Some x → x.confirm ≡ false

-- a Resv without a wish to be confirmed, a ResvErr with a flow, a ResvTear, a Path or a PathTear
abbrev IsPlain : Message → Type 0
IsPlain n =
    ((m : ResvMsg) × (n ≡ message.Resv m) × (m.confirm ≡ None))
    ⊎ (((m : ResvErrMsg) × (n ≡ message.ResvErr m) × (flow : TokenBucket) × (m.blame.flow ≡ Some flow))
    ⊎ (((m : ResvTearMsg) × (n ≡ message.ResvTear m)) ⊎ (((m : PathMsg) × (n ≡ message.Path m)) ⊎ ((m : PathTearMsg) × (n ≡ message.PathTear m)))))

module _ (p : NodeConfig) (c : ℕ) (input : Input) (f : Facts) (q : IsMildTurn p c input f) where
  abbrev change : Change
  change = act p c input f

  abbrev after : Facts
  after = settled p c f change.facts

  -- it sends such alone
  sends_plain : (s : Send) → In s (sent_then p p c input f) → IsPlain s.message
  sends_plain s i =
      ⊎_elim
      (λ (x : IsPathTear p p f after change s). inr (inr (inr (inr (_, ap (λ (z : Send). z.message) x.is)))))
      (λ k. ⊎_elim (λ (x : IsResvTear p p f after change s). inr (inr (inl (_, ap (λ (z : Send). z.message) x.is))))
      (λ k. ⊎_elim (λ (x : IsError p p f after change s).
      let h = q.errors x.error x.made in
      inr (inl (h.0, ap (λ (z : Send). z.message) x.is ∙ ap error_message h.2, h.1, h.3)))
      (λ k. ⊎_elim (λ (x : IsConf p p f after change s).
      let none : change.confs ++ confirmed p p f after change.asked ≡ [] = (λ j. q.confs j ++ confirmed p p f after (q.asked j)) in
      absurd (subst (λ (zs : List ConfSend). In x.conf zs) none x.made))
      (λ k. ⊎_elim (λ (x : IsPath p p f after change s). inr (inr (inr (inl (_, ap (λ (z : Send). z.message) x.is)))))
      (λ (x : IsResv p p f after change s). inl (resv_plain p c input f q.asked q.unmarked s x)) k) k) k) k)
      (send_told p p c input f s i)

-- ---- each refusal has the flow that was asked for
module _ (p : NodeConfig) (c at : ℕ) (m : ResvMsg) (f : Facts) (e : ErrSend) where
  abbrev asks : Asker
  asks = asker_of p c at m

  by_refusal : (in_place : Bool) (code value : ℕ) (names : Option Names) (flow : TokenBucket) → e ≡ refusal p asks in_place code value names flow → HasFlow e.error
  by_refusal in_place code value names flow is = subst (λ (z : ErrSend). HasFlow z.error) (sym is) (_, flow, refl, refl)

  by_taking : (b : Bool) (v : Option StyleKind) → In e (taking_of p asks (asked_units m.ask) f b v).errors → HasFlow e.error
  by_taking true v h =
      let u = in_each (λ (u : AskedUnit). refusal p asks false 3 0 u.names u.flow) e (asked_units m.ask) h in by_refusal false 3 0 u.0.names u.0.flow u.2
  by_taking false (Some other) h =
      let u = in_each (λ (u : AskedUnit). refusal p asks false 5 (style_value other) u.names u.flow) e (asked_units m.ask) h in
      by_refusal false 5 (style_value other) u.0.names u.0.flow u.2
  by_taking false None h =
      ⊎_elim (λ (n : ⊥). absurd n)
      (λ k. ⊎_elim (λ (x : IsLoss p asks f (matched p f asks) (asked_units m.ask) e). by_refusal false 4 0 x.names x.unit.flow x.is)
      (λ (x : IsBookRefusal p asks f (matched p f asks) (nothing_taken (resvs_of asks.style f) []) (asked_units m.ask) e).
      by_refusal (has_entry asks f x.unit.unit x.before.table) 1 (value_of x.why) (Some x.part.senders) x.part.flow x.is) k)
      ((units_in_full.errors p asks f (matched p f asks) (nothing_taken (resvs_of asks.style f) []) (asked_units m.ask) e).0 h)

  refused_flow : In e (taking p c at m f).errors → HasFlow e.error
  refused_flow h = by_taking (is_none (known f m.session)) (style_conflict f m.session (ask_style m.ask)) h

-- ---- and an error that goes on has its own
module _ (p : NodeConfig) (c at : ℕ) (m : ResvErrMsg) (flow : TokenBucket) (has_flow : m.blame.flow ≡ Some flow) (f : Facts) (e : ErrSend) where
  error_flow : In e (act_resv_err p c at m f).errors → HasFlow e.error
  error_flow h =
      ⊎_elim (λ (q : act_resv_err p c at m f ≡ only_heard (heard.Dropped why.NoState) f). absurd (subst (λ (z : Change). In e z.errors) q h))
      (λ (q : ((x : Sender) × ComesBy f m.session (at, m.hop.addr) x) × ((act_resv_err p c at m f ≡ only_heard (heard.Dropped why.Full) f) ⊎ (act_resv_err p c at m f ≡ errors_with p c at m f))).
      ⊎_elim (λ (t : act_resv_err p c at m f ≡ only_heard (heard.Dropped why.Full) f). absurd (subst (λ (z : Change). In e z.errors) t h))
      (λ (t : act_resv_err p c at m f ≡ errors_with p c at m f).
      let x = (errors_once_each.exactly p (record f { walls = walls_set p c at m f }) (lane_of at m) m e).0 (subst (λ (z : Change). In e z.errors) t h) in
      let same : error_listing p m x.hop x.names ≡ (x.hop, e) = of_some (error_listing p m x.hop x.names) (x.hop, e) (sym (sent_listing p m x.hop x.names) ∙ x.is) in
      subst (λ (z : ErrSend). HasFlow z.error) (ap (λ (z : NextHop × ErrSend). z.1) same) (_, flow, refl, has_flow)) q.1)
      (resv_errs_by_tests.one p c at m f)

-- ---- a plain message that comes
module _ (p : NodeConfig) (c at : ℕ) (dst : Addr) (f : Facts) (unmarked : (k : WantKey) (x : Want) → get f.wants k ≡ Some x → x.confirm ≡ false) where
  abbrev came : Message → Input
  came n = Came at dst (Spelt n)

  still_unmarked : (n : Message) (k : WantKey) (x : Want) → get (act p c (came n) f).facts.wants k ≡ Some x → x.confirm ≡ false
  still_unmarked n k x h = unmarked k x (ap (λ (t : Wants). get t k) (sym (act_wants p c (came n) f refl)) ∙ h)

  -- what it makes of the message, where it is for the node and where it is not
  record IsMildChange (k : Change) : Type 0 where
    errors : (e : ErrSend) → In e k.errors → HasFlow e.error
    confs : k.confs ≡ []
    asked : k.asked ≡ None

  by_resv : (m : ResvMsg) → m.confirm ≡ None → (b : Bool) → IsMildChange (act_spelt p c at (message.Resv m) b f)
  by_resv m none false = record { errors = λ e i. absurd i; confs = refl; asked = refl }
  by_resv m none true = record {
    errors = λ e i. refused_flow p c at m f e i;
    confs = refl;
    asked = ap (λ (w : Option Addr). asked_of (asker_of p c at m) (ask_of (ask_style m.ask) (taking p c at m f).taken) w) none;
  }

  by_error : (m : ResvErrMsg) (flow : TokenBucket) → m.blame.flow ≡ Some flow → (b : Bool) → IsMildChange (act_spelt p c at (message.ResvErr m) b f)
  by_error m flow has_flow false = record { errors = λ e i. absurd i; confs = refl; asked = refl }
  by_error m flow has_flow true = record { errors = λ e i. error_flow p c at m flow has_flow f e i; confs = refl; asked = refl }

  by_tear : (m : ResvTearMsg) (b : Bool) → IsMildChange (act_spelt p c at (message.ResvTear m) b f)
  by_tear m false = record { errors = λ e i. absurd i; confs = refl; asked = refl }
  by_tear m true = record { errors = λ e i. absurd i; confs = refl; asked = refl }

  by_path : (m : PathMsg) (b : Bool) → IsMildChange (act_spelt p c at (message.Path m) b f)
  by_path m false = record { errors = λ e i. absurd i; confs = refl; asked = refl }
  by_path m true = record { errors = λ e i. absurd i; confs = refl; asked = refl }

  by_path_tear : (m : PathTearMsg) (b : Bool) → IsMildChange (act_spelt p c at (message.PathTear m) b f)
  by_path_tear m false = record { errors = λ e i. absurd i; confs = refl; asked = refl }
  by_path_tear m true = record { errors = λ e i. absurd i; confs = refl; asked = refl }

  of_plain : (n : Message) → IsPlain n → IsMildChange (act_spelt p c at n (is_mine p at dst n) f)
  of_plain n k =
      ⊎_elim (λ (x : (m : ResvMsg) × (n ≡ message.Resv m) × (m.confirm ≡ None)). over n (message.Resv x.0) x.1 (by_resv x.0 x.2 (is_mine p at dst (message.Resv x.0))))
      (λ k. ⊎_elim
      (λ (x : (m : ResvErrMsg) × (n ≡ message.ResvErr m) × (flow : TokenBucket) × (m.blame.flow ≡ Some flow)).
      over n (message.ResvErr x.0) x.1 (by_error x.0 x.2 x.3 (is_mine p at dst (message.ResvErr x.0))))
      (λ k. ⊎_elim (λ (x : (m : ResvTearMsg) × (n ≡ message.ResvTear m)). over n (message.ResvTear x.0) x.1 (by_tear x.0 (is_mine p at dst (message.ResvTear x.0))))
      (λ k. ⊎_elim (λ (x : (m : PathMsg) × (n ≡ message.Path m)). over n (message.Path x.0) x.1 (by_path x.0 (is_mine p at dst (message.Path x.0))))
      (λ (x : (m : PathTearMsg) × (n ≡ message.PathTear m)). over n (message.PathTear x.0) x.1 (by_path_tear x.0 (is_mine p at dst (message.PathTear x.0)))) k) k) k) k
    where
      over : (n z : Message) → n ≡ z → IsMildChange (act_spelt p c at z (is_mine p at dst z) f) → IsMildChange (act_spelt p c at n (is_mine p at dst n) f)
      over n z e h = subst (λ (v : Message). IsMildChange (act_spelt p c at v (is_mine p at dst v) f)) (sym e) h

  plain_mild : (n : Message) → IsPlain n → IsMildTurn p c (came n) f
  plain_mild n k =
      let h = of_plain n k in
      record { errors = h.errors; confs = h.confs; asked = h.asked; unmarked = still_unmarked n }

-- ---- what is in flight
record IsPlainItem (y : Item) : Type 0 where
  message : Message
  spelt : y.arrival ≡ Spelt message
  plain : IsPlain message

-- a step by which a node follows its rule at most, and mildly, sends such alone
plain_sent : (q : ℕ) (t : Step) (u : World) (bounds : AreBounds q u) (follows : (n : ℕ) (f : Facts) → slice_get u.nodes n ≡ Some f → (outcome q t u n f ≡ still f) ⊎ Turns q t u n f)
    → ((n : ℕ) (f : Facts) → slice_get u.nodes n ≡ Some f → (h : Turns q t u n f) → IsMildTurn (place q t u n) (moment q t u) h.input f)
    → (y : Item) (b : Bool) → In (y, b) (sent q t u) → IsPlainItem y
plain_sent q t u bounds follows mild y b i =
    let c = (what_is_sent_is_copied q t u (y, b)).0 i in
    let spelt : y.arrival ≡ Spelt c.send.message = ap (λ (z : Item × Bool). z.0.arrival) c.is in
    let r = sent_in_turn q t u bounds follows y b c.send.message i spelt in
    record {
      message = c.send.message;
      spelt = spelt;
      plain = subst IsPlain r.says (sends_plain (place q t u r.node) (moment q t u) r.by.input r.facts (mild r.node r.facts r.there r.by) r.send r.sent_one);
    }

-- a Path that is sent when something is delivered leaves by an end of its sender's tree
path_leaves : (q : ℕ) (u : World) → AreBounds q u → (y : Item) (b : Bool) → In (y, b) (sent q (Deliver 0) u) → IsFromDepth u.net 0 y
path_leaves q u bounds y b i m x t spelt sender =
    let r = sent_by_rule q (Deliver 0) u y b (message.Path m) refl i spelt in
    let p : NodeConfig = config_of q u.net u.trees r.node in
    let c : ℕ = u.clock + 0 in
    let o : IsOfOffer p (facts_then p p c r.by.input r.facts) r.send m =
    what_a_path_sent_says.says (node_step p p u.clock c r.by.input r.facts) (bounds.facts r.node r.facts r.there) r.send m r.sent r.says in
    let e = way_out q u.net u.trees r.node bounds.net o.key.session o.key.iface o.key.sender o.there o.way in
    let of_session : o.key.session ≡ m.session = sym (ap (λ (z : PathMsg). z.session) o.is) in
    let of_sender : o.key.sender ≡ x = ap (λ (z : Sender × TokenBucket). z.0) (of_some (o.key.sender, o.offer.tspec) (x, t) (sym (ap (λ (z : PathMsg). z.sender) o.is) ∙ sender)) in
    let key : ◌≡◌ {A = SenderKey} (o.key.session, o.key.sender) (m.session, x) = (λ j. (of_session j, of_sender j)) in
    record {
      end = e.0;
      leaves = subst (λ (z : ℕ). In e.0 (outward u.net z m.session.group x.addr)) (sym e.2) (subst (λ (z : SenderKey). In e.0 (outward u.net r.node z.0.group z.1.addr)) key e.3);
      to = goes_to_peers u.net (end_at u.net.ends r.node r.send.iface) e.0 r.send.dst y.end (ap (end_at u.net.ends r.node) o.iface ∙ e.1) r.to;
      deep = omega arith;
    }

-- ---- the host ends
module _ (q n : ℕ) (d : SenderKey) (w : World) (begins : IsStart q w) (settled_now : HasSettled q w) (quiet : w.flight ≡ []) (sends : SendsAt w n d) (unmarked_now : HasNoMark w) where
  abbrev begun : World
  begun = after_drop q n d w

  abbrev call : Local
  call = DropAs d.0 d.1

  abbrev flow : TokenBucket
  flow = flow_now q n d w begins settled_now quiet sends

  record IsEmptying (u : World) : Type 0 where
    going : IsLettingGo q d w u
    plain : (y : Item) → In y u.flight → IsPlainItem y
    back : (y : Item) (m : ResvTearMsg) → In y u.flight → y.arrival ≡ Spelt (message.ResvTear m) → IsBackOver u.net y m
    from : (y : Item) → In y u.flight → IsFromDepth u.net 0 y
    unmarked : HasNoMark u

  -- ---- one delivery
  module _ (u : World) (r : IsEmptying u) where
    abbrev next : World
    next = step q (Deliver 0) u

    abbrev turned : (m : ℕ) (f : Facts) → slice_get u.nodes m ≡ Some f → (outcome q (Deliver 0) u m f ≡ still f) ⊎ Turns q (Deliver 0) u m f
    turned = turns q d flow w u (was_now q n d w begins settled_now quiet sends) (kinds_now q n d w begins settled_now quiet sends) r.going

    going_next : IsLettingGo q d w next
    going_next = letting_go_next q d flow w u (was_now q n d w begins settled_now quiet sends) (kinds_now q n d w begins settled_now quiet sends) r.going

    mild : (m : ℕ) (f : Facts) → slice_get u.nodes m ≡ Some f → (h : Turns q (Deliver 0) u m f) → IsMildTurn (place q (Deliver 0) u m) (moment q (Deliver 0) u) h.input f
    mild m f at h =
        let z = came_by_delivery q 0 u r.going.fading.bounds m h.input h.came in
        let k = r.plain z.item (in_arrived (Deliver 0) u z.item z.arrives) in
        let input : Came (iface_of u.net.ends z.item.end) z.item.dst (Spelt k.message) ≡ h.input = (λ j. Came (iface_of u.net.ends z.item.end) z.item.dst (sym k.spelt j)) ∙ sym z.is in
        subst (λ (x : Input). IsMildTurn (place q (Deliver 0) u m) (moment q (Deliver 0) u) x f) input
        (plain_mild (place q (Deliver 0) u m) (moment q (Deliver 0) u) (iface_of u.net.ends z.item.end) z.item.dst f (λ x v g. r.unmarked m f x v at g) k.message k.plain)

    emptying_next : IsEmptying next
    emptying_next = record {
      going = going_next;
      plain = λ y i.
          ⊎_elim (λ (old : In y u.flight). r.plain y old)
          (λ (new : (b : Bool) × In (y, b) (sent q (Deliver 0) u)). plain_sent q (Deliver 0) u r.going.fading.bounds turned mild y new.0 new.1) (in_flight_after q (Deliver 0) u y refl i);
      back = λ y m i spelt.
          ⊎_elim (λ (old : In y u.flight). r.back y m old spelt)
          (λ (new : (b : Bool) × In (y, b) (sent q (Deliver 0) u)).
          goes_back_by q (Deliver 0) u r.going.fading.bounds turned
          (ways_before w next (all_came q d flow w next (was_now q n d w begins settled_now quiet sends) going_next.fading going_next.lived)) y new.0 m new.1 spelt)
          (in_flight_after q (Deliver 0) u y refl i);
      from = λ y i.
          ⊎_elim (λ (old : In y u.flight). r.from y old)
          (λ (new : (b : Bool) × In (y, b) (sent q (Deliver 0) u)). path_leaves q u r.going.fading.bounds y new.0 new.1) (in_flight_after q (Deliver 0) u y refl i);
      unmarked = unmarked_in_turn q (Deliver 0) u turned (λ m f at h. (mild m f at h).unmarked) r.unmarked;
    }

  -- ---- passes
  emptying_on : (m : ℕ) (u : World) → IsEmptying u → IsEmptying (after_deliveries q m u)
  emptying_on zero u r = r
  emptying_on (suc m) u r = emptying_on m (step q (Deliver 0) u) (emptying_next u r)

  emptying_after : (m : ℕ) (u : World) → IsEmptying u → IsEmptying (after_passes q m u)
  emptying_after zero u r = r
  emptying_after (suc m) u r =
      let v : World = after_deliveries q (length u.flight) u in
      subst (λ (z : World). IsEmptying z) (sym (run_then q (pass q u) (passes q m v) u)) (emptying_after m v (emptying_on (length u.flight) u r))

  -- ---- the call
  turned_then : (m : ℕ) (f : Facts) → slice_get w.nodes m ≡ Some f → (outcome q (At n call) w m f ≡ still f) ⊎ Turns q (At n call) w m f
  turned_then = called_turns q n call w

  mild_then : (m : ℕ) (f : Facts) → slice_get w.nodes m ≡ Some f → (h : Turns q (At n call) w m f) → IsMildTurn (place q (At n call) w m) (moment q (At n call) w) h.input f
  mild_then m f at h =
      let p : NodeConfig = place q (At n call) w m in
      let v : IsMildTurn p (moment q (At n call) w) (Call call) f =
      record {
        errors = λ e i. absurd i;
        confs = refl;
        asked = refl;
        unmarked = λ k x e. unmarked_now m f k x at (ap (λ (z : Wants). get z k) (sym (unless_same (call_refusal p call f) f.wants)) ∙ e);
      } in
      subst (λ (z : Input). IsMildTurn p (moment q (At n call) w) z f) (sym (at_node_found n m (Call call) h.input h.came).1) v

  emptying_begun : IsEmptying begun
  emptying_begun =
      let going : IsLettingGo q d w begun = going_now q n d w begins settled_now quiet sends in
      record {
        going = going;
        plain = λ y i.
            ⊎_elim (λ (old : In y w.flight). none y old)
            (λ (new : (b : Bool) × In (y, b) (sent q (At n call) w)). plain_sent q (At n call) w begins.bounds turned_then mild_then y new.0 new.1) (in_flight_then q n call w y i);
        back = λ y m i spelt.
            ⊎_elim (λ (old : In y w.flight). none y old)
            (λ (new : (b : Bool) × In (y, b) (sent q (At n call) w)).
            goes_back_by q (At n call) w begins.bounds turned_then
            (ways_before w begun (all_came q d flow w begun (was_now q n d w begins settled_now quiet sends) going.fading going.lived)) y new.0 m new.1 spelt)
            (in_flight_then q n call w y i);
        from = λ y i m x t spelt sender.
            ⊎_elim (λ (old : In y w.flight). none y old)
            (λ (new : (b : Bool) × In (y, b) (sent q (At n call) w)).
            let p = path_sent_by_call q w n call begins.bounds y new.0 m new.1 spelt in
            let name : p.sender ≡ x = ap (λ (z : Sender × TokenBucket). z.0) (of_some (p.sender, p.tspec) (x, t) (sym p.of ∙ sender)) in
            record {
              end = p.end;
              leaves = subst (λ (z : ℕ). In p.end (outward w.net z m.session.group x.addr)) (sym p.at) (subst (λ (z : Sender). In p.end (outward w.net p.node m.session.group z.addr)) name p.leaves);
              to = p.to;
              deep = omega arith;
            })
            (in_flight_then q n call w y i);
        unmarked = unmarked_in_turn q (At n call) w turned_then (λ m f at h. (mild_then m f at h).unmarked) unmarked_now;
      }
    where
      none : {A : Type 0} (y : Item) → In y w.flight → A
      none y i = absurd (subst (λ (z : List Item). In y z) quiet i)

  emptying : (i : ℕ) → IsEmptying (after_passes q i begun)
  emptying i = emptying_after i begun emptying_begun

  -- ---- in the end nothing is in flight
  abbrev no_session : Session
  no_session = record { group = record { 0 = 0 }; proto = 0; port = 0 }

  some_flow : TokenBucket
  some_flow = record { r = 0; b = 0; p = Infinite; low = 0; most = 0 }

  abbrev Down : World → Type 0
  Down u = IsLetDown q n d w begins settled_now quiet sends u

  module _ (i : ℕ) where
    -- H + 1 passes after the host ends, or more, and so many hops further
    abbrev half : World
    half = after_passes q (longest w.net + suc i) begun

    abbrev last : World
    last = after_passes q (longest half.net) half

    is_last : last ≡ after_passes q (2 * longest w.net + suc i) begun
    is_last =
        let sum : (longest w.net + suc i) + longest w.net ≡ 2 * longest w.net + suc i = omega arith in
        ap (λ (z : Net). after_passes q (longest z) half) (net_stays q (longest w.net + suc i) begun) ∙ sym (passes_sum q (longest w.net + suc i) (longest w.net) begun)
        ∙ ap (λ (m : ℕ). after_passes q m begun) sum

    at_half : Down half
    at_half = let_down q n d w begins settled_now quiet sends i

    at_last : IsEmptying last
    at_last = subst (λ (z : World). IsEmptying z) (sym is_last) (emptying (2 * longest w.net + suc i))

    no_resv : (y : Item) (m : ResvMsg) → In y last.flight → y.arrival ≡ Spelt (message.Resv m) → ⊥
    no_resv y m j spelt =
        (reservations_sink q m.session w.nodes Down (sinks q n d w begins settled_now quiet sends m.session)
        (let_down_next q n d w begins settled_now quiet sends) half at_half).1.no_resv y m j spelt refl

    no_tear : (y : Item) (m : ResvTearMsg) → In y last.flight → y.arrival ≡ Spelt (message.ResvTear m) → ⊥
    no_tear y m j spelt =
        let b = at_last.back y m j spelt in
        let x = sink q b.key.session w.nodes Down (sinks q n d w begins settled_now quiet sends b.key.session) (let_down_next q n d w begins settled_now quiet sends) (longest half.net) half at_half in
        let long : longest last.net ≡ longest half.net = ap longest x.2.net in
        let most = (rank_falls last.net x.0.paths.bounds.net.loop_free).hops b.key.session.group (hop_over b.key) b.there in
        let goes : stays (tear_names m.tear) b.some.0 ≡ false = ap (λ (o : Option Names). stays o b.some.0) b.lists ∙ ap not b.some.1 in
        x.1 y j b.key (record { senders = b.names; flow = some_flow }) refl b.there (omega (arith, most.1, long)) (inr (m, spelt, b.over, record { name = b.some.0; was = b.some.1; goes = goes }))

    no_path : (y : Item) (m : PathMsg) → In y last.flight → y.arrival ≡ Spelt (message.Path m) → ⊥
    no_path y m j spelt = by m.sender refl
      where
        by : (o : Option (Sender × TokenBucket)) → m.sender ≡ o → ⊥
        by None e = at_last.going.fading.named y m j spelt e
        by (Some x) e =
            none_later q Down (λ u r. r.paths.bounds) (λ u r. r.paths.no_tear) (let_down_next q n d w begins settled_now quiet sends) (longest half.net) half at_half (omega arith)
            (emptying (longest w.net + suc i)).from y m x.0 x.1 j spelt e

    no_path_tear : (y : Item) (m : PathTearMsg) → In y last.flight → y.arrival ≡ Spelt (message.PathTear m) → ⊥
    no_path_tear =
        (reservations_sink q no_session w.nodes Down (sinks q n d w begins settled_now quiet sends no_session) (let_down_next q n d w begins settled_now quiet sends) half at_half).0.paths.no_tear

    no_error : (y : Item) (m : ResvErrMsg) (flow : TokenBucket) → In y last.flight → y.arrival ≡ Spelt (message.ResvErr m) → m.blame.flow ≡ Some flow → ⊥
    no_error y m flow j spelt has_flow =
        let none : m.blame.flow ≡ None = a_sender_that_ends_leaves_no_error q n d w begins settled_now quiet sends i y m (subst (λ (z : World). In y z.flight) is_last j) spelt in
        let bad : None ≡ Some flow = sym none ∙ has_flow in cc

    nothing_flies : last.flight ≡ []
    nothing_flies =
        none_in last.flight
        (λ y j.
        let k = at_last.plain y j in
        ⊎_elim (λ (x : (m : ResvMsg) × (k.message ≡ message.Resv m) × (m.confirm ≡ None)). no_resv y x.0 j (k.spelt ∙ ap Spelt x.1))
        (λ p. ⊎_elim
        (λ (x : (m : ResvErrMsg) × (k.message ≡ message.ResvErr m) × (flow : TokenBucket) × (m.blame.flow ≡ Some flow)). no_error y x.0 x.2 j (k.spelt ∙ ap Spelt x.1) x.3)
        (λ p. ⊎_elim (λ (x : (m : ResvTearMsg) × (k.message ≡ message.ResvTear m)). no_tear y x.0 j (k.spelt ∙ ap Spelt x.1))
        (λ p. ⊎_elim (λ (x : (m : PathMsg) × (k.message ≡ message.Path m)). no_path y x.0 j (k.spelt ∙ ap Spelt x.1))
        (λ (x : (m : PathTearMsg) × (k.message ≡ message.PathTear m)). no_path_tear y x.0 j (k.spelt ∙ ap Spelt x.1)) p) p) p) k.plain)

  pub a_sender_that_ends_leaves_nothing_in_flight : (i : ℕ) → (after_passes q (2 * longest w.net + suc i) begun).flight ≡ []
  a_sender_that_ends_leaves_nothing_in_flight i = subst (λ (z : World). z.flight ≡ []) (is_last i) (nothing_flies i)
